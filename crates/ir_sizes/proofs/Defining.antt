-- Definitions from the names in a module's list, behind which those stand that are missing.
use Rattle.std.proofs.Common.{◌≡◌, ◌≢◌, ℕ, zero, suc, ◌<◌, Bool, true, false, cond, List, [], ◌∷◌, ◌++◌, map, find, length, length-append, Some, None, option_map, refl, sym, ap, ◌∙◌, arith}
use Rattle.std.specs.Prelude.{slice_get}
use Rattle.std.specs.List.{AllByRecursion}
use Rattle.std.proofs.lemmas.List.{length-map}
use Rattle.std.proofs.lemmas.Option.{slice_get-map}
use Rattle.std.proofs.lemmas.Slice.Eq.{bytes_eq-Decides}
use Rattle.std.proofs.lemmas.Bool.Decides.{Decides-eqb}
use Rattle.text_forms.specs.Bind.{◌>>=◌}
use Rattle.ir_types.specs.declared.name.Name.{Name}
use Rattle.ir_types.specs.declared.name.Name.TheVariants.{Text, Number}
use Rattle.ir_types.specs.declared.memory_type.MemTy.{MemTy}
use Rattle.ir_types.specs.declared.memory_type.TypeName.{TypeName}
use Rattle.ir_types.specs.Names.{same_name}
use Rattle.ir_types.specs.Offsets.{Definitions, nodes_of_name}
use Rattle.ir_types.proofs.NameAt.{name_got}
use Rattle.ir_sizes.specs.Definitions.{names_in, defined_nodes, IsMissing, definition_of, AreDefinitions}
use Rattle.ir_sizes.proofs.Within.{same_name_is}

same_itself : (n : Name) → same_name n n ≡ true
same_itself (Text a) = (bytes_eq-Decides a a).1 refl
same_itself (Number m) = (Decides-eqb m m).1 refl

other_name : (n m : Name) → n ≢ m → same_name n m ≡ false
other_name n m apart = by (same_name n m) refl
  where
    by : (b : Bool) → same_name n m ≡ b → same_name n m ≡ false
    by true e = absurd (apart (same_name_is n m e))
    by false e = e

missing_nodes : (types : List MemTy) (names : List TypeName) (missing : List TypeName) (k : ℕ) (n : TypeName) → AllByRecursion IsMissing missing → slice_get missing k ≡ Some n → defined_nodes types names n.ty ≡ None
missing_nodes types names [] k n h e = absurd cc
missing_nodes types names (m ∷ missing) zero n h e =
    let same : m ≡ n = cc in
    ap (defined_nodes types names) (ap (λ (x : TypeName). x.ty) (sym same) ∙ h.0)
missing_nodes types names (m ∷ missing) (suc k) n h e = missing_nodes types names missing k n h.1 e

module _ (types : List MemTy) (names : List TypeName) where
  -- where no name before it is the same, it is found
  found_first : (known missing : List TypeName) (k : ℕ) (n : TypeName) → AllByRecursion IsMissing missing → slice_get (known ++ missing) k ≡ Some n
      → ((j : ℕ) (m : TypeName) → j < k → slice_get (known ++ missing) j ≡ Some m → m.name ≢ n.name) → nodes_of_name (map (definition_of types names) known) n.name ≡ defined_nodes types names n.ty
  found_first [] missing k n h e apart = sym (missing_nodes types names missing k n h e)
  found_first (m ∷ known) missing zero n h e apart =
      let same : m ≡ n = cc in
      ap (λ (b : Bool). cond b (Some (definition_of types names m)) (find (λ d. same_name d.0 n.name) (map (definition_of types names) known)) >>= λ d. d.1) (ap (λ (x : TypeName). same_name x.name n.name) same ∙ same_itself n.name)
      ∙ ap (λ (x : TypeName). defined_nodes types names x.ty) same
  found_first (m ∷ known) missing (suc k) n h e apart =
      ap (λ (b : Bool). cond b (Some (definition_of types names m)) (find (λ d. same_name d.0 n.name) (map (definition_of types names) known)) >>= λ d. d.1) (other_name m.name n.name (apart zero m (omega arith) refl))
      ∙ found_first known missing k n h e (λ j x lt f. apart (suc j) x (omega arith) f)

-- the definitions of the names that are not missing are those of all names
pub known_definitions : (types : List MemTy) (known missing : List TypeName) (defs : Definitions) → AllByRecursion IsMissing missing → defs ≡ map (definition_of types (known ++ missing)) known → AreDefinitions types (known ++ missing) defs
known_definitions types known missing defs h e =
    let names = known ++ missing in
    record {
      as_many = omega (arith, ap length e, length-map known (definition_of types names), length-append known missing);
      each = λ k n found first.
          let name = λ (j : ℕ) (m : TypeName) (f : slice_get names j ≡ Some m). name_got (names_in names) j m.name (slice_get-map (λ (x : TypeName). x.name) names j ∙ ap (option_map (λ (x : TypeName). x.name)) f) in
          ap (λ (d : Definitions). nodes_of_name d n.name) e
          ∙ found_first types names known missing k n h found (λ j m lt f same. first.first j lt (name j m f ∙ same ∙ sym (name k n found)));
    }
