use Rattle.std.proofs.Common.{◌≡◌, Bool, true, ◌&&◌, ◌∷◌, map, ap, refl, sym, ◌∙◌, rules}
use Rattle.std.specs.Prelude.{zip}
use Rattle.ir_types.specs.declared.module.Module.{Module}
use Rattle.ir_types.specs.Denotes.{tree_of, nodes_in, operand_in}
use Rattle.ir_rules.specs.Steps.{type_definitions, is_stepped}
use Rattle.ir_check_fits.specs.Places.{is_sized_at, leads_at}
use Rattle.ir_check_fits.proofs.Led.{steps_agree}
use Rattle.ir_check_fits.proofs.steps.TypeSteps.is_stepped.Goals as goal

pub returns-then-is_sized_at : goal.returns-then-is_sized_at
returns-then-is_sized_at c = λ t names.
    let m = c.self.inside.whole.now in
    let w : c.args.widths.now ≡ c.in-Some.field-0-0.now ∷ c.in-Some.widths_behind.now = search rules in
    let a : c.args.indexes.now ≡ c.in-Some-split_first.field-0-0.now ∷ c.in-Some-split_first.behind.now = search rules in
    let more = zip c.in-Some.widths_behind.now (map (operand_in t names) c.in-Some-split_first.behind.now) in
    let led = c.leads_at.ensures t names in
    let sized : is_sized_at m.extents c.args.id ≡ true = ap (λ xs. is_sized_at xs c.args.id) (sym c.as_slice-extents.ensures) ∙ sym c.is_sized_at.ensures ∙ c.if-is_sized_at.true in
    let agree = steps_agree m c.self.inside.steps c.self.invariant c.args.id (c.in-Some.field-0-0.now, operand_in t names c.in-Some-split_first.field-0-0.now) more in
    led
    ∙ rw (c.as_slice-types.ensures, c.as_slice-extents.ensures) refl
    ∙ ap (λ (b : Bool). b && leads_at m.types c.self.inside.steps.ends m.extents c.args.id more) (sym sized)
    ∙ agree
    ∙ ap (λ (x : Module). is_stepped (type_definitions (tree_of x)) (nodes_in x c.args.id) ((c.in-Some.field-0-0.now, operand_in t names c.in-Some-split_first.field-0-0.now) ∷ more)) c.self.view_is
    ∙ rw (w, a) refl

pub returns-else-is_sized_at : goal.returns-else-is_sized_at
returns-else-is_sized_at c = λ t names.
    let m = c.self.inside.whole.now in
    let w : c.args.widths.now ≡ c.in-Some.field-0-0.now ∷ c.in-Some.widths_behind.now = search rules in
    let a : c.args.indexes.now ≡ c.in-Some-split_first.field-0-0.now ∷ c.in-Some-split_first.behind.now = search rules in
    let more = zip c.in-Some.widths_behind.now (map (operand_in t names) c.in-Some-split_first.behind.now) in
    let sized : is_sized_at m.extents c.args.id ≡ c.is_sized_at.result = ap (λ xs. is_sized_at xs c.args.id) (sym c.as_slice-extents.ensures) ∙ sym c.is_sized_at.ensures in
    let agree = steps_agree m c.self.inside.steps c.self.invariant c.args.id (c.in-Some.field-0-0.now, operand_in t names c.in-Some-split_first.field-0-0.now) more in
    c.if-is_sized_at.false
    ∙ ap (λ (b : Bool). b && leads_at m.types c.self.inside.steps.ends m.extents c.args.id more) (sym (sized ∙ c.if-is_sized_at.false))
    ∙ agree
    ∙ ap (λ (x : Module). is_stepped (type_definitions (tree_of x)) (nodes_in x c.args.id) ((c.in-Some.field-0-0.now, operand_in t names c.in-Some-split_first.field-0-0.now) ∷ more)) c.self.view_is
    ∙ rw (w, a) refl
