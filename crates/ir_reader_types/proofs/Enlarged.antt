-- Tables to which a memory type is added.
use Rattle.std.proofs.Common.{◌≡◌, ℕ, zero, suc, ◌<◌, ◌≤◌, List, [], ◌∷◌, ◌++◌, map, length, take, refl, sym, ap, ◌∙◌, subst, arith}
use Rattle.std.specs.List.{AllByRecursion, filter_map}
use Rattle.std.proofs.lemmas.List.{append-nil}
use Rattle.std.proofs.Math.Seq.{take-append_seam}
use Rattle.text_forms.specs.View.{Extends}
use Rattle.ir_types.specs.declared.name.Name.{Name}
use Rattle.ir_types.specs.declared.memory_type.TypeId.{TypeId}
use Rattle.ir_types.specs.declared.memory_type.TypeName.{TypeName}
use Rattle.ir_types.specs.declared.memory_type.NamedType.{NamedType}
use Rattle.ir_types.specs.declared.memory_type.NamedType.TheVariants.{Defined, Opaque, Missing}
use Rattle.ir_types.specs.declared.memory_type.MemTy.{MemTy}
use Rattle.ir_types.specs.declared.memory_type.Extent.{Extent}
use Rattle.ir_types.specs.Names.{unknown}
use Rattle.ir_types.specs.Types.{AreTypes}
use Rattle.ir_types.specs.Sizes.{AreExtents}
use Rattle.ir_types.proofs.NameAt.{extends_refl}
use Rattle.ir_sizes.specs.Definitions.{IsMissing}
use Rattle.ir_sizes.specs.Known.{IsDefined, AreFirstExtents}
use Rattle.ir_sizes.specs.Prepared.{StepLists, AreFirstSteps, AreSteps}
use Rattle.ir_sizes.proofs.Staying.{extents_first}
use Rattle.ir_sizes.proofs.Keeping.{steps_first}
use Rattle.ir_reader_types.specs.TypeTable.{names_of, missing_entry, LooksUpSome}
use Rattle.ir_reader_types.specs.Tables.{TableLists, nodes_there, definition_over, Grows, IsDefinedBefore, AreTables}
use Rattle.ir_reader_types.proofs.Growth.{entries_looked, definitions_stay, extends_length}
use Rattle.ir_reader_types.proofs.Holding.{names_extend}
use Rattle.ir_reader_types.proofs.NodeLists.{types_with_names, nodes_stay}

are_missing : (ns : List Name) → AllByRecursion IsMissing (map missing_entry ns)
are_missing [] = tt
are_missing (n ∷ ns) = (refl, are_missing ns)

-- ---- names stand for types before a place

later_bound : (m n : ℕ) (name : Name) (ty : NamedType) → m ≤ n → IsDefinedBefore m (record { name = name; ty = ty }) → IsDefinedBefore n (record { name = name; ty = ty })
later_bound m n name (Defined id) le h = omega arith
later_bound m n name Opaque le h = tt
later_bound m n name Missing le h = tt

missing_bound : (n : ℕ) (ns : List Name) → AllByRecursion (IsDefinedBefore n) (map missing_entry ns)
missing_bound n [] = tt
missing_bound n (m ∷ ns) = (tt, missing_bound n ns)

bounds : (m n : ℕ) (entries : List TypeName) (ns : List Name) → m ≤ n → AllByRecursion (IsDefinedBefore m) entries → AllByRecursion (IsDefinedBefore n) (entries ++ map missing_entry ns)
bounds m n [] ns le h = missing_bound n ns
bounds m n (e ∷ entries) ns le h = (later_bound m n e.name e.ty le h.0, bounds m n entries ns le h.1)

bound_at : (n k : ℕ) (entries : List TypeName) (id : TypeId) → AllByRecursion (IsDefinedBefore n) entries → IsDefined entries k id → id.0 < n
bound_at n k [] id h d = let e = d.1 in absurd cc
bound_at n zero (e ∷ entries) id h d =
    let f = d.1 in
    let same : e ≡ record { name = d.0; ty = Defined id } = cc in
    subst (IsDefinedBefore n) same h.0
bound_at n (suc k) (e ∷ entries) id h d = bound_at n k entries id h.1 d

-- ---- extents

-- those of the types before, where names are added that are missing
pub first_extents : (types more : List MemTy) (entries new : List TypeName) (extents : List Extent) → AreTypes (names_of entries) 0 types → AllByRecursion (IsDefinedBefore (length types)) entries → AreExtents types entries extents → LooksUpSome entries new
    → AreFirstExtents (types ++ more) new extents
first_extents types more entries new extents are defined h l =
    let ns = unknown (names_of entries) l.used in
    subst (λ (e : List TypeName). AreFirstExtents (types ++ more) e extents) (sym l.parts) (extents_first types more entries (map missing_entry ns) are (λ k id d. bound_at (length types) k entries id defined d) extents h (are_missing ns))

extents_with_names : (types : List MemTy) (entries new : List TypeName) (extents : List Extent) → AreTypes (names_of entries) 0 types → AllByRecursion (IsDefinedBefore (length types)) entries → AreExtents types entries extents → LooksUpSome entries new → AreExtents types new extents
extents_with_names types entries new extents are defined h l =
    let f = subst (λ (ts : List MemTy). AreFirstExtents ts new extents) (append-nil types) (first_extents types [] entries new extents are defined h l) in
    record { as_many = h.as_many; each = f.each }

-- ---- steps

-- what is prepared of the types before
pub first_steps : (types more : List MemTy) (entries new : List TypeName) (extents grown : List Extent) (steps : StepLists) → AreTypes (names_of entries) 0 types → AllByRecursion (IsDefinedBefore (length types)) entries → AreExtents types entries extents → Extends extents grown → LooksUpSome entries new
    → AreSteps types entries extents steps → AreFirstSteps (types ++ more) new grown steps
first_steps types more entries new extents grown steps are defined h x l s =
    let ns = unknown (names_of entries) l.used in
    subst (λ (e : List TypeName). AreFirstSteps (types ++ more) e grown steps) (sym l.parts)
    (steps_first types more entries (map missing_entry ns) extents grown steps are (λ k id d. bound_at (length types) k entries id defined d) h.as_many x (are_missing ns) s)

pub steps_with_names : (types : List MemTy) (entries new : List TypeName) (extents : List Extent) (steps : StepLists) → AreTypes (names_of entries) 0 types → AllByRecursion (IsDefinedBefore (length types)) entries → AreExtents types entries extents → LooksUpSome entries new → AreSteps types entries extents steps
    → AreSteps types new extents steps
steps_with_names types entries new extents steps are defined h l s = record {
  first = subst (λ (ts : List MemTy). AreFirstSteps ts new extents steps) (append-nil types) (first_steps types [] entries new extents extents steps are defined h (extends_refl extents) l s);
  as_many = s.as_many;
}

-- ---- tables

pub looked_extend : (entries new : List TypeName) → LooksUpSome entries new → Extends entries new
looked_extend entries new l = record { more = map missing_entry (unknown (names_of entries) l.used); parts = l.parts }

module _ (t : TableLists) (entries : List TypeName) (h : AreTables t) (l : LooksUpSome t.entries entries) where
  names_longer : Extends (names_of t.entries) (names_of entries)
  names_longer = names_extend t.entries entries (looked_extend t.entries entries l)

  pub enlarged : (types : List MemTy) (extents : List Extent) → Extends t.types types → AreTypes (names_of entries) 0 types → AreExtents types entries extents → AreTables (record { symbols = t.symbols; known = t.known; entries = entries; types = types; extents = extents })
  enlarged types extents x are e = record {
    known = h.known;
    types_are = are;
    defined = rw l.parts (bounds (length t.types) (length types) t.entries (unknown (names_of t.entries) l.used) (extends_length t.types types x) h.defined);
    entries_apart = rw l.parts (entries_looked t.entries l.used h.entries_apart);
    extents_are = e;
  }

  pub enlarged_grows : (types : List MemTy) (extents : List Extent) → Extends t.types types → Grows t (record { symbols = t.symbols; known = t.known; entries = entries; types = types; extents = extents })
  enlarged_grows types extents x = record {
    symbols = extends_refl t.symbols;
    known = refl;
    entries = looked_extend t.entries entries l;
    types = x;
    definitions =
        ap (λ (es : List TypeName). filter_map (definition_over (names_of entries) types) es) l.parts
        ∙ definitions_stay (names_of t.entries) (names_of entries) t.types types h.types_are names_longer x t.entries (unknown (names_of t.entries) l.used) h.defined;
  }

  -- where nothing but names is added
  pub with_entries : AreTables (record { symbols = t.symbols; known = t.known; entries = entries; types = t.types; extents = t.extents })
  with_entries =
      enlarged t.types t.extents (extends_refl t.types) (types_with_names (names_of t.entries) (names_of entries) t.types names_longer h.types_are) (extents_with_names t.types t.entries entries t.extents h.types_are h.defined h.extents_are l)

-- a list that is cut back to what it was
pub cut_back : {A : Type 0} (n : ℕ) (old new kept : List A) → n ≡ length old → Extends old new → kept ≡ take n new → kept ≡ old
cut_back n old new kept e x k = k ∙ ap (λ (m : ℕ). take m new) e ∙ ap (take (length old)) x.parts ∙ take-append_seam old x.more

-- the nodes of a type that was added
pub nodes_kept : (t : TableLists) (id : TypeId) → AreTypes (names_of t.entries) 0 t.types → id.0 < length t.types → (later : TableLists) → Grows t later → nodes_there later id ≡ nodes_there t id
nodes_kept t id are lt later g = nodes_stay (names_of t.entries) (names_of later.entries) t.types later.types id are lt (names_extend t.entries later.entries g.entries) g.types
