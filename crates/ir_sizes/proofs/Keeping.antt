-- What is prepared stays right when types and missing names are added.
use Rattle.std.proofs.Common.{◌≡◌, ℕ, ◌<◌, ◌≤◌, Bool, List, [], ◌∷◌, ◌++◌, length, length-append, sym, ap, ◌∙◌, subst, inl, inr, arith}
use Rattle.std.specs.Prelude.{All}
use Rattle.std.specs.List.{AllByRecursion}
use Rattle.std.proofs.lemmas.Bool.{cases_lt}
use Rattle.std.proofs.lemmas.List.{get_or_append_left}
use Rattle.std.proofs.lemmas.List.Elements.{All-nil, All-cons, All-head, All-tail}
use Rattle.std.proofs.lemmas.Option.{slice_get_within}
use Rattle.text_forms.specs.View.{Extends}
use Rattle.ir_types.specs.declared.memory_type.TypeId.{TypeId}
use Rattle.ir_types.specs.declared.memory_type.MemTy.{MemTy}
use Rattle.ir_types.specs.declared.memory_type.MemTy.TheVariants.{One, Array, Struct, Named}
use Rattle.ir_types.specs.declared.memory_type.NamedType.TheVariants.{Defined, Missing}
use Rattle.ir_types.specs.declared.memory_type.TypeName.{TypeName}
use Rattle.ir_types.specs.declared.memory_type.Extent.{Extent}
use Rattle.ir_types.specs.declared.memory_type.Extent.TheVariants.{NoSize}
use Rattle.ir_types.specs.Types.{IsBefore, IsTypeAt, AreTypes}
use Rattle.ir_sizes.specs.Known.{extent_at, IsSized, IsSizedAt, IsDefined}
use Rattle.ir_sizes.specs.Definitions.{names_in, IsMissing}
use Rattle.ir_sizes.specs.Stepping.{BeginsAt}
use Rattle.ir_sizes.specs.Prepared.{StepLists, AreBegun, AreFirstSteps, AreSteps}
use Rattle.ir_sizes.proofs.PlaceNodes.{type_at}
use Rattle.ir_sizes.proofs.Pushing.{got_before}
use Rattle.ir_sizes.proofs.Staying.{got_in_front, got_behind, laid_more}
use Rattle.ir_sizes.proofs.Leading.{leads_more}

-- a part that had its extent before has a size where it has one then
sized_before : (extents new : List Extent) (id : TypeId) → Extends extents new → id.0 < length extents → IsSizedAt new id → IsSizedAt extents id
sized_before extents new id x lt sized =
    let same = ap (λ (xs : List Extent). extent_at xs id.0) x.parts ∙ get_or_append_left extents x.more NoSize id.0 lt in
    subst IsSized same sized

parts_before : (extents new : List Extent) (i : ℕ) (ids : List TypeId) → Extends extents new → i ≤ length extents → AllByRecursion (IsBefore i) ids → All (IsSizedAt new) ids → All (IsSizedAt extents) ids
parts_before extents new i [] x le h sized = All-nil (IsSizedAt extents)
parts_before extents new i (id ∷ ids) x le h sized =
    All-cons (IsSizedAt extents) id ids (sized_before extents new id x (omega (arith, h.0)) (All-head (IsSizedAt new) id ids sized)) (parts_before extents new i ids x le h.1 (All-tail (IsSizedAt new) id ids sized))

module _ (types more : List MemTy) (names missing : List TypeName) where
  begins_more : (packed : Bool) (ids : List TypeId) (k bytes : ℕ) → BeginsAt types names packed ids k bytes → BeginsAt (types ++ more) (names ++ missing) packed ids k bytes
  begins_more packed ids k bytes b = record {
    last = b.last;
    align = b.align;
    before = record { layouts = b.before.layouts; laid = laid_more types more names missing b.before.laid; last_is = b.before.last_is; align_is = b.before.align_is };
    id = b.id;
    found = b.found;
    layout = b.layout;
    laid = laid_more types more names missing b.laid;
    bytes_is = b.bytes_is;
  }

  begun_more : (extents new : List Extent) (begins : List ℕ) (start i : ℕ) (t : MemTy) → Extends extents new → i ≤ length extents → IsTypeAt (names_in names) i t → AreBegun types names extents begins start t → AreBegun (types ++ more) (names ++ missing) new begins start t
  begun_more extents new begins start i (One t) x le at b = tt
  begun_more extents new begins start i (Array n element) x le at b = tt
  begun_more extents new begins start i (Struct packed ids) x le at b = λ sized k lt.
      let old = b (parts_before extents new i ids x le at sized) k lt in
      record { bytes = old.bytes; said = old.said; right = begins_more packed ids k old.bytes old.right }
  begun_more extents new begins start i (Named k) x le at b = tt

  -- what is prepared of all types is so of the first of the later ones
  pub steps_first : (extents new : List Extent) (steps : StepLists) → AreTypes (names_in names) 0 types → ((k : ℕ) (id : TypeId) → IsDefined names k id → id.0 < length types) → length extents ≡ length types → Extends extents new → AllByRecursion IsMissing missing
      → AreSteps types names extents steps → AreFirstSteps (types ++ more) (names ++ missing) new steps
  steps_first extents new steps are defined count x none s =
      let ends = s.first.ends in
      record {
        ends = record {
          right = λ k last e.
              let h = ends.right k last e in
              record { id = h.id; defined = (h.defined.0, got_in_front names missing k _ h.defined.1); leads = leads_more types names more missing h.leads };
          known = λ k id d sized. elim (cases_lt k (length names)) [
            | inl lt ↦
                let old : IsDefined names k id = (d.0, sym (got_before names missing k lt) ∙ d.1) in
                ends.known k id old (sized_before extents new id x (omega (arith, count, defined k id old)) sized)
            | inr le ↦ let is : Defined id ≡ Missing = got_behind IsMissing names missing k _ le none d.1 in absurd cc
          ];
        };
        starts = record {
          within = omega (arith, s.as_many, length-append types more);
          each = λ i start t e f.
              let lt : i < length types = omega (arith, s.as_many, slice_get_within steps.starts i start f) in
              let found = sym (got_before types more i lt) ∙ e in
              begun_more extents new steps.begins start i t x (omega (arith, count)) (type_at (names_in names) types i t are found) (s.first.starts.each i start t found f);
        };
      }
