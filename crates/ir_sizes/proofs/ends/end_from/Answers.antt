use Rattle.std.proofs.Common.{◌≡◌, ◌≤◌, ◌-◌, ℕ, suc, refl, sym, ap, ◌∙◌, arith}
use Rattle.ir_types.specs.declared.memory_type.MemTy.TheVariants.{Named}
use Rattle.ir_types.specs.Offsets.{unnamed}
use Rattle.ir_sizes.specs.Definitions.{nodes_in}
use Rattle.ir_sizes.specs.Prepared.{no_name, by_name}
use Rattle.ir_sizes.proofs.Setting.{extents_right}
use Rattle.ir_sizes.proofs.Behind.{unnamed_past, unnamed_stops, unnamed_next, unnamed_undefined}
use Rattle.ir_sizes.proofs.Leading.{own, own_definitions, laid_unnamed, leads_from, some_nodes}
use Rattle.ir_sizes.proofs.Places.{not_named, there}
use Rattle.ir_sizes.proofs.ends.end_from.Goals as goal

pub loop-name-init : goal.loop-name-init
loop-name-init c =
    let types = c.args.types.now in
    let names = c.args.names.now in
    record {
      leads = λ last h. h;
      more = λ extents are sized.
          let laid = (extents_right types names extents are).each c.args.id sized in
          laid_unnamed types names (own types names) c.requires.types (own_definitions types names) c.args.id laid.0 laid.1;
    }

pub returns-in_err-name-clause-found : goal.returns-in_err-name-clause-found
returns-in_err-name-clause-found c = λ extents are sized.
    let types = c.args.types.now in
    let names = c.args.names.now in
    let past = unnamed_past types names (own types names) c.requires.types (own_definitions types names) c.loop-name.left c.loop-name.place c.in_err-name.ensures.lookup.3 in
    absurd (some_nodes past (c.loop-name.invariant.more extents are sized))

pub returns-in_default : goal.returns-in_default
returns-in_default c =
    let h = c.in_ok-name.ensures.lookup.3 in
    let t = c.in_ok-name.field-0.now in
    let found = there c.args.types.now c.loop-name.place.0 t t h.0 h.1 refl in
    record {
      leads = c.loop-name.invariant.leads c.loop-name.place (no_name c.loop-name.place t found (not_named t c.in_default.not-Named));
      found = λ extents are sized. refl;
    }

pub returns-in-Some-clause-leads : goal.returns-in-Some-clause-leads
returns-in-Some-clause-leads c =
    let h = c.in_ok-name.ensures.lookup.3 in
    let found = there c.args.types.now c.loop-name.place.0 c.in_ok-name.field-0.now (Named c.in-Named.name) h.0 h.1 c.in-Named.is in
    c.loop-name.invariant.leads c.in-Some.end
    (leads_from c.args.types.now c.args.names.now c.loop-name.place c.in-Named.name c.in-Some.end found (c.requires.ends.each c.in-Named.name c.in-Some.end (sym c.in-Some.ensures)))

pub returns-in_err-left-clause-found : goal.returns-in_err-left-clause-found
returns-in_err-left-clause-found c = λ extents are sized.
    let types = c.args.types.now in
    let names = c.args.names.now in
    let h = c.in_ok-name.ensures.lookup.3 in
    let found = there types c.loop-name.place.0 c.in_ok-name.field-0.now (Named c.in-Named.name) h.0 h.1 c.in-Named.is in
    let none : c.loop-name.left ≡ 0 = omega (arith, c.in_err-left.ensures) in
    let stops = unnamed_stops types names (own types names) c.requires.types (own_definitions types names) c.loop-name.place c.in-Named.name found in
    absurd (some_nodes (ap (λ (d : ℕ). unnamed d (own types names) (nodes_in types names c.loop-name.place)) none ∙ stops) (c.loop-name.invariant.more extents are sized))

-- one name fewer may be followed
one_fewer : (d e : ℕ) → (1 ≤ d) × (e ≡ d - 1) → d ≡ suc e
one_fewer d e h = omega (arith, h.0, h.1)

pub returns-in_err-place-clause-found : goal.returns-in_err-place-clause-found
returns-in_err-place-clause-found c = λ extents are sized.
    let types = c.args.types.now in
    let names = c.args.names.now in
    let h = c.in_ok-name.ensures.lookup.3 in
    let found = there types c.loop-name.place.0 c.in_ok-name.field-0.now (Named c.in-Named.name) h.0 h.1 c.in-Named.is in
    let fewer = one_fewer c.loop-name.left c.in_ok-left.left c.in_ok-left.ensures in
    let undefined = unnamed_undefined types names (own types names) c.requires.types (own_definitions types names) c.in_ok-left.left c.loop-name.place c.in-Named.name found c.in_err-place.ensures in
    absurd (some_nodes (ap (λ (d : ℕ). unnamed d (own types names) (nodes_in types names c.loop-name.place)) fewer ∙ undefined) (c.loop-name.invariant.more extents are sized))

pub loop-name-preserved : goal.loop-name-preserved
loop-name-preserved c =
    let types = c.args.types.now in
    let names = c.args.names.now in
    let h = c.in_ok-name.ensures.lookup.3 in
    let found = there types c.loop-name.place.0 c.in_ok-name.field-0.now (Named c.in-Named.name) h.0 h.1 c.in-Named.is in
    let fewer = one_fewer c.loop-name.left c.in_ok-left.left c.in_ok-left.ensures in
    let next = unnamed_next types names (own types names) c.requires.types (own_definitions types names) c.in_ok-left.left c.loop-name.place c.in-Named.name c.in_ok-place.place found c.in_ok-place.ensures in
    record {
      leads = λ last k. c.loop-name.invariant.leads last (by_name c.loop-name.place c.in-Named.name c.in_ok-place.place last found c.in_ok-place.ensures k);
      more = λ extents are sized.
          let some = c.loop-name.invariant.more extents are sized in
          (some.0, sym (ap (λ (d : ℕ). unnamed d (own types names) (nodes_in types names c.loop-name.place)) fewer ∙ next) ∙ some.1);
    }
