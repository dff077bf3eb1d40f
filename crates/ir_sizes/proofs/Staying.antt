-- What is laid, and the extents of types, stay when types and missing names are added.
use Rattle.std.proofs.Common.{◌≡◌, ℕ, zero, suc, ◌<◌, ◌≤◌, List, [], ◌∷◌, ◌++◌, Some, length, length-append, sym, ◌∙◌, subst, inl, inr, arith}
use Rattle.std.specs.Prelude.{slice_get}
use Rattle.std.specs.List.{AllByRecursion}
use Rattle.std.proofs.lemmas.Bool.{cases_lt}
use Rattle.std.proofs.lemmas.List.{length-map}
use Rattle.std.proofs.lemmas.Option.{slice_get_within}
use Rattle.ir_types.specs.declared.memory_type.TypeId.{TypeId}
use Rattle.ir_types.specs.declared.memory_type.MemTy.{MemTy}
use Rattle.ir_types.specs.declared.memory_type.NamedType.TheVariants.{Defined, Missing}
use Rattle.ir_types.specs.declared.memory_type.TypeName.{TypeName}
use Rattle.ir_types.specs.declared.memory_type.Extent.{Extent}
use Rattle.ir_types.specs.declared.memory_type.Extent.TheVariants.{NoSize, Size}
use Rattle.ir_types.specs.Types.{IsBefore, IsTypeAt, AreTypes}
use Rattle.ir_types.specs.Sizes.{Layout, Subject, a_type, at_place, members, AreExtents, IsLaid, scalar_laid, array_laid, struct_laid, named_laid, place_laid, none_laid, more_laid, IsExtent}
use Rattle.ir_sizes.specs.Known.{IsDefined, AreFirstExtents}
use Rattle.ir_sizes.specs.Definitions.{names_in, IsMissing}
use Rattle.ir_sizes.proofs.PlaceNodes.{type_at}
use Rattle.ir_sizes.proofs.Agreed.{later_type}
use Rattle.ir_sizes.proofs.Pushing.{got_before}

pub got_in_front : {A : Type 0} (xs ys : List A) (i : ℕ) (x : A) → slice_get xs i ≡ Some x → slice_get (xs ++ ys) i ≡ Some x
got_in_front xs ys i x e = got_before xs ys i (slice_get_within xs i x e) ∙ e

-- what stands behind a list is one of those that were added
pub got_behind : {A : Type 0} (P : A → Type 0) (xs ys : List A) (i : ℕ) (x : A) → length xs ≤ i → AllByRecursion P ys → slice_get (xs ++ ys) i ≡ Some x → P x
got_behind P [] [] i x le h e = absurd cc
got_behind P [] (y ∷ ys) zero x le h e = let same : y ≡ x = cc in subst P same h.0
got_behind P [] (y ∷ ys) (suc i) x le h e = got_behind P [] ys i x (omega arith) h.1 e
got_behind P (y ∷ xs) ys zero x le h e = absurd (omega arith)
got_behind P (y ∷ xs) ys (suc i) x le h e = got_behind P xs ys i x (omega arith) h e

module _ (types more : List MemTy) (names missing : List TypeName) where
  -- what is laid stays laid
  pub laid_more : {x : Subject} {ls : List Layout} → IsLaid types names x ls → IsLaid (types ++ more) (names ++ missing) x ls
  laid_more (scalar_laid t h) = scalar_laid t h
  laid_more (array_laid n element l h) = array_laid n element l (laid_more h)
  laid_more (struct_laid packed ids ls h) = struct_laid packed ids ls (laid_more h)
  laid_more (named_laid k name id l e h) = named_laid k name id l (got_in_front names missing k _ e) (laid_more h)
  laid_more (place_laid id t l e h) = place_laid id t l (got_in_front types more id.0 t e) (laid_more h)
  laid_more none_laid = none_laid
  laid_more (more_laid id ids l ls h r) = more_laid id ids l ls (laid_more h) (laid_more r)

  module _ (are : AreTypes (names_in names) 0 types) (defined : (k : ℕ) (id : TypeId) → IsDefined names k id → id.0 < length types) where
    -- of the types that were there
    abbrev IsOld : Subject → Type 0
    IsOld (a_type t) = IsTypeAt (names_in names) (length types) t
    IsOld (at_place id) = IsBefore (length types) id
    IsOld (members ids) = AllByRecursion (IsBefore (length types)) ids

    -- what was not laid stays so
    pub laid_before : {x : Subject} {ls : List Layout} → IsLaid (types ++ more) (names ++ missing) x ls → IsOld x → IsLaid types names x ls
    laid_before (scalar_laid t h) o = scalar_laid t h
    laid_before (array_laid n element l h) o = array_laid n element l (laid_before h o)
    laid_before (struct_laid packed ids ls h) o = struct_laid packed ids ls (laid_before h o)
    laid_before (named_laid k name id l e h) o =
        let found = sym (got_before names missing k (omega (arith, o.within, length-map names (λ (n : TypeName). n.name)))) ∙ e in
        named_laid k name id l found (laid_before h (defined k id (name, found)))
    laid_before (place_laid id t l e h) o =
        let found = sym (got_before types more id.0 o) ∙ e in
        place_laid id t l found (laid_before h (later_type (names_in names) id.0 (length types) t (omega arith) (type_at (names_in names) types id.0 t are found)))
    laid_before none_laid o = none_laid
    laid_before (more_laid id ids l ls h r) o = more_laid id ids l ls (laid_before h o.0) (laid_before r o.1)

    extent_stays : (t : MemTy) (x : Extent) → IsTypeAt (names_in names) (length types) t → IsExtent types names t x → IsExtent (types ++ more) (names ++ missing) t x
    extent_stays t NoSize o h = λ l laid. h l (laid_before laid o)
    extent_stays t (Size s a) o h = (h.0, laid_more h.1, h.2, h.3)

    -- the extents of all types are those of the first of the later ones
    pub extents_first : (extents : List Extent) → AreExtents types names extents → AllByRecursion IsMissing missing → AreFirstExtents (types ++ more) (names ++ missing) extents
    extents_first extents h none = record {
      within = omega (arith, h.as_many, length-append types more);
      defined = λ k id d. elim (cases_lt k (length names)) [
        | inl lt ↦ omega (arith, h.as_many, defined k id (d.0, sym (got_before names missing k lt) ∙ d.1))
        | inr le ↦ let is : Defined id ≡ Missing = got_behind IsMissing names missing k _ le none d.1 in absurd cc
      ];
      each = λ i t x e f.
          let lt : i < length types = omega (arith, h.as_many, slice_get_within extents i x f) in
          let found = sym (got_before types more i lt) ∙ e in
          extent_stays t x (later_type (names_in names) i (length types) t (omega arith) (type_at (names_in names) types i t are found)) (h.each i t x found f);
    }
