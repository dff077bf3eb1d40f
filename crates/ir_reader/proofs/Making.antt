-- What is made of one thing after another.
use Rattle.std.proofs.Common.{◌≤◌, ℕ, List, [], ◌∷◌, ◌++◌, map, sym, ap, ◌∙◌, arith}
use Rattle.std.specs.List.{AllByRecursion}
use Rattle.std.proofs.lemmas.List.{map_push}
use Rattle.text_forms.specs.Nested.{concat}
use Rattle.text_forms.specs.View.{Extends}
use Rattle.ir_types.specs.declared.name.Name.{Name}
use Rattle.ir_types.specs.declared.memory_type.MemTy.{MemTy}
use Rattle.ir_types.specs.declared.memory_type.TypeName.{TypeName}
use Rattle.ir_types.specs.declared.memory_type.NamedType.{NamedType}
use Rattle.ir_types.specs.declared.memory_type.NamedType.TheVariants.{Defined, Opaque, Missing}
use Rattle.ir_types.specs.Types.{AreTypes}
use Rattle.ir_types.proofs.NameAt.{extends_trans}
use Rattle.ir_types.specs.Names.{unknown}
use Rattle.ir_reader_types.specs.TypeTable.{names_of, missing_entry}
use Rattle.ir_reader_types.proofs.LookUps.{looked_up}
use Rattle.ir_reader_types.proofs.Holding.{names_extend}
use Rattle.ir_reader.specs.Typed.{LooksUpNames, Stands, Made, StandsBefore}
use Rattle.ir_reader.proofs.Usage.{concat_push}

pub looked_extend : (old new : List TypeName) (used : List Name) → LooksUpNames old used new → Extends old new
looked_extend old new used l = record { more = map missing_entry (unknown (names_of old) used); parts = l }

pub made_more : {A B C : Type 0} (over : List Name → List MemTy → B → C) (tree : A → C) (uses : A → List Name) (base names new : List TypeName) (start types others : List MemTy) (done : List A) (made : List B) (a : A) (b : B) → Made over tree uses base start done made names types
    → Extends types others → AreTypes (names_of new) 0 others → LooksUpNames names (uses a) new → Stands over new others b (tree a) → Made over tree uses base start (done ++ a ∷ []) (made ++ b ∷ []) new others
made_more over tree uses base names new start types others done made a b h grow are looked stands = record {
  types_grow = extends_trans start types others h.types_grow grow;
  are = are;
  names_grow = looked_up base names new (concat (map uses done)) (uses a) h.names_grow looked ∙ ap (λ (l : List Name). base ++ map missing_entry (unknown (names_of base) l)) (sym (concat_push uses done a));
  stands = λ later rest n t.
      let before = h.stands later rest (extends_trans (names_of names) (names_of new) later (names_extend names new (looked_extend names new (uses a) looked)) n) (extends_trans types others rest grow t) in
      map_push (over later rest) made b ∙ ap (λ (l : List _). l ++ over later rest b ∷ []) before ∙ ap (λ (c : _). map tree done ++ c ∷ []) (stands later rest n t) ∙ sym (map_push tree done a);
}

-- ---- places of types

stands_later : (m n : ℕ) (ty : NamedType) → m ≤ n → StandsBefore m ty → StandsBefore n ty
stands_later m n (Defined id) le h = omega (arith, h)
stands_later m n Opaque le h = tt
stands_later m n Missing le h = tt

pub all_later : (m n : ℕ) (tys : List NamedType) → m ≤ n → AllByRecursion (StandsBefore m) tys → AllByRecursion (StandsBefore n) tys
all_later m n [] le h = tt
all_later m n (ty ∷ tys) le h = (stands_later m n ty le h.0, all_later m n tys le h.1)

pub all_push : {A : Type 0} (P : A → Type 0) (xs : List A) (x : A) → AllByRecursion P xs → P x → AllByRecursion P (xs ++ x ∷ [])
all_push P [] x all p = (p, tt)
all_push P (y ∷ ys) x all p = (all.0, all_push P ys x all.1 p)
