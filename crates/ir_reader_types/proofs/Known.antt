-- A constant that steps through a type uses no name of a type that isn't defined.
use Rattle.std.proofs.Common.{◌≡◌, ℕ, zero, suc, Bool, true, false, List, [], ◌∷◌, length, Option, Some, refl, subst}
use Rattle.std.specs.Prelude.{Contains}
use Rattle.std.specs.List.{filter_map}
use Rattle.text_forms.specs.Bind.{◌>>=◌}
use Rattle.text_forms.proofs.Parts.{bind_some}
use Rattle.ir_types.specs.declared.name.Name.{Name}
use Rattle.ir_types.specs.declared.memory_type.TypeName.{TypeName}
use Rattle.ir_types.specs.declared.memory_type.MemTy.{MemTy}
use Rattle.ir_types.specs.Names.{has_name, unknown}
use Rattle.ir_types.specs.Sizes.{Layout}
use Rattle.ir_types.specs.TypeNodes.{TypeNode, scalar, called, array, opening, closing, names_used}
use Rattle.ir_types.specs.Offsets.{nodes_of_name, Cell, cell_before, cells_of, one_type, layout_by, layout_within, layout_of_name, layout_of, small_size, offset_of}
use Rattle.ir_reader_types.specs.TypeTable.{names_of}
use Rattle.ir_reader_types.specs.Tables.{TableLists, definition_over, definitions_of}
use Rattle.ir_reader_types.proofs.Growth.{contains_got, got_name, none_of}
use Rattle.ir_reader_types.proofs.Defining.{none_found}

-- a name that has a definition is an entry's
defined_known : (names : List Name) (types : List MemTy) (entries : List TypeName) (n : Name) (nodes : List TypeNode) → nodes_of_name (filter_map (definition_over names types) entries) n ≡ Some nodes → has_name n (names_of entries) ≡ true
defined_known names types entries n nodes e = by (has_name n (names_of entries)) refl
  where
    by : (b : Bool) → has_name n (names_of entries) ≡ b → b ≡ true
    by true f = refl
    by false f =
        let fresh = none_of n (names_of entries) f in
        let none = none_found names types n entries (λ j x g s. fresh (subst (λ (m : Name). Contains (names_of entries) m) s (contains_got (names_of entries) j x.name (got_name entries j x g)))) in
        absurd cc

-- and so is one that has a layout
laid_known : (t : TableLists) (depth : ℕ) (n : Name) (l : Layout) → layout_within depth (definitions_of t) n ≡ Some l → has_name n (names_of t.entries) ≡ true
laid_known t zero n l e = absurd cc
laid_known t (suc depth) n l e =
    let b = bind_some (nodes_of_name (definitions_of t) n) (layout_by (layout_within depth (definitions_of t))) l e in
    defined_known (names_of t.entries) t.types t.entries n b.0 b.1

module _ (sizes : Name → Option Layout) (known : List Name) (are : (n : Name) (l : Layout) → sizes n ≡ Some l → has_name n known ≡ true) where
  -- each name that is laid out is known
  laid_out : (nodes : List TypeNode) (cells : List Cell) → cells_of sizes nodes ≡ Some cells → unknown known (names_used nodes) ≡ []
  laid_out [] cells e = refl
  laid_out (n ∷ nodes) cells e = let b = bind_some (cells_of sizes nodes) (cell_before sizes n) cells e in here n b.0 b.2 (laid_out nodes b.0 b.1)
    where
      here : (n : TypeNode) (behind : List Cell) → cell_before sizes n behind ≡ Some cells → unknown known (names_used nodes) ≡ [] → unknown known (names_used (n ∷ nodes)) ≡ []
      here (scalar t) behind e h = h
      here (called m) behind e h = rw (are m (bind_some (sizes m) _ cells e).0 (bind_some (sizes m) _ cells e).1) h
      here (array c) behind e h = h
      here (opening p) behind e h = h
      here closing behind e h = h

pub known_types : (t : TableLists) (nodes : List TypeNode) (indexes : List (ℕ × ℕ)) (o : ℕ) → offset_of (definitions_of t) nodes indexes ≡ Some o → unknown (names_of t.entries) (names_used nodes) ≡ []
known_types t nodes [] o e = absurd cc
known_types t nodes (i ∷ more) o e =
    let defs = definitions_of t in
    let size = bind_some (small_size defs nodes) _ o e in
    let layout = bind_some (layout_of defs nodes) _ size.0 size.1 in
    let cells = bind_some (cells_of (layout_of_name defs) nodes >>= one_type) _ layout.0 layout.1 in
    let one = bind_some (cells_of (layout_of_name defs) nodes) one_type cells.0 cells.1 in
    laid_out (layout_of_name defs) (names_of t.entries) (λ n l. laid_known t (length defs) n l) nodes one.0 one.1
