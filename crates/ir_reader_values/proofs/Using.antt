-- What operands use that were read one after another.
use Rattle.std.proofs.Common.{◌≡◌, ℕ, Bool, true, false, cond, List, [], ◌∷◌, ◌++◌, map, replicate, Some, None, refl, sym, ap, ◌∙◌, subst}
use Rattle.std.specs.List.{list_all}
use Rattle.std.proofs.lemmas.List.{append-nil}
use Rattle.text_forms.proofs.Parts.{bind_some}
use Rattle.text_forms.proofs.Exact.{some_is}
use Rattle.ir_types.specs.declared.name.Name.{Name}
use Rattle.ir_types.specs.declared.inst.Ty.{Ty}
use Rattle.ir_types.specs.declared.inst.Ty.TheVariants.{Int, Ptr, Vector, Void}
use Rattle.ir_types.specs.Names.{unknown}
use Rattle.ir_types.specs.TypeNodes.{TypeNode, names_used}
use Rattle.ir_types.specs.Offsets.{offset_of}
use Rattle.ir_types.specs.Tree.{OperandTree, number, lanes, global, out_of_range}
use Rattle.ir_types.specs.Written.{number_at, fits_width}
use Rattle.ir_types.specs.Used.{symbols_of}
use Rattle.ir_types.specs.ValueForms.{WrittenLane, WrittenValue, named, digits, yes, no, null_word, poison_word, zeros, splat, lane_list, symbol, stepped, width_of, lane_at, lane_fits, is_int, index_of, index_fits, if_in_range, zeros_at, splat_at, lanes_at, operand_at}
use Rattle.ir_reader_types.specs.TypeTable.{missing_entry}
use Rattle.ir_reader_types.specs.Tables.{TableLists, definitions_of}
use Rattle.ir_reader_types.specs.Uses.{Uses}
use Rattle.ir_reader_types.proofs.Uses.{uses_both}
use Rattle.ir_reader_types.proofs.Known.{known_types}
use Rattle.ir_reader_values.specs.declared.scope.Scope.{Scope}
use Rattle.ir_reader_values.specs.Seen.{OperandsUse}
use Rattle.ir_reader_values.specs.View.{types_written, symbol_written}

-- operands behind operands
pub uses_behind : (a b c : Scope) (xs ys : List OperandTree) → OperandsUse a xs b → OperandsUse b ys c → OperandsUse a (xs ++ ys) c
uses_behind a b c xs ys p q = uses_both a.tables b.tables c.tables [] [] xs ys p q

-- operands behind a memory type
pub uses_type_before : (a b c : TableLists) (names : List Name) (xs : List OperandTree) → Uses a names [] b → Uses b [] xs c → Uses a names xs c
uses_type_before a b c names xs p q = subst (λ (l : List Name). Uses a l xs c) (append-nil names) (uses_both a b c names [] [] xs p q)

-- ---- a written value at a type

-- an operand that uses nothing
plain : (t new : TableLists) (a : OperandTree) → symbols_of (a ∷ []) ≡ [] → Uses t [] [] new → Uses t [] (a ∷ []) new
plain t new a e u = record { entries = u.entries; symbols = u.symbols ∙ ap (λ (l : List Name). t.symbols ++ unknown t.symbols l) (sym e) }

is_plain : (x a : OperandTree) → x ≡ a → symbols_of (x ∷ []) ≡ [] → symbols_of (a ∷ []) ≡ []
is_plain x a e h = ap (λ (y : OperandTree). symbols_of (y ∷ [])) (sym e) ∙ h

where_so : (b : Bool) (x a : OperandTree) → cond b (Some x) None ≡ Some a → x ≡ a
where_so true x a e = some_is x a e
where_so false x a e = absurd cc

-- an operand that uses nothing, in range or not
in_range_plain : (b : Bool) (x : OperandTree) → symbols_of (x ∷ []) ≡ [] → symbols_of (if_in_range b x ∷ []) ≡ []
in_range_plain true x h = h
in_range_plain false x h = refl

zeros_plain : (ty : Ty) (a : OperandTree) → zeros_at ty ≡ Some a → symbols_of (a ∷ []) ≡ []
zeros_plain (Vector n w) a e = is_plain _ a (some_is _ a e) refl
zeros_plain (Int w) a e = absurd cc
zeros_plain Ptr a e = absurd cc
zeros_plain Void a e = absurd cc

splat_plain : (ty : Ty) (x : Ty × WrittenLane) (a : OperandTree) → splat_at ty x ≡ Some a → symbols_of (a ∷ []) ≡ []
splat_plain (Vector n w) x a e = is_plain _ a (where_so (is_int w x.0) _ a e) (in_range_plain (lane_fits w x.1) (lanes (replicate n (lane_at w x.1))) refl)
splat_plain (Int w) x a e = absurd cc
splat_plain Ptr x a e = absurd cc
splat_plain Void x a e = absurd cc

lanes_plain : (ty : Ty) (xs : List (Ty × WrittenLane)) (a : OperandTree) → lanes_at ty xs ≡ Some a → symbols_of (a ∷ []) ≡ []
lanes_plain (Vector n w) xs a e = is_plain _ a (where_so (list_all (λ x. is_int w x.0) xs) _ a e) (in_range_plain (list_all (λ x. lane_fits w x.1) xs) (lanes (map (λ x. lane_at w x.1) xs)) refl)
lanes_plain (Int w) xs a e = absurd cc
lanes_plain Ptr xs a e = absurd cc
lanes_plain Void xs a e = absurd cc

-- a symbol that is stepped from
abbrev of_symbol : Bool → Name → ℕ → OperandTree
of_symbol fits n o = cond fits (global n o) (out_of_range (Some n))

symbol_only : (fits : Bool) (n : Name) (o : ℕ) → symbols_of (of_symbol fits n o ∷ []) ≡ n ∷ []
symbol_only true n o = refl
symbol_only false n o = refl

-- the type in a constant has only names that are known
constant_uses : (t new : TableLists) (x : List TypeNode × (Name × List (ℕ × List ℕ))) (a : OperandTree) → operand_at (definitions_of t) Ptr (stepped x) ≡ Some a → Uses t (names_used x.0) (global x.1.0 0 ∷ []) new → Uses t [] (a ∷ []) new
constant_uses t new x a e u =
    let fits = list_all index_fits x.1.1 in
    let o = bind_some (offset_of (definitions_of t) x.0 (map index_of x.1.1)) (λ o. Some (of_symbol fits x.1.0 o)) a e in
    let known = known_types t x.0 (map index_of x.1.1) o.0 o.1 in
    subst (λ (y : OperandTree). Uses t [] (y ∷ []) new) (some_is (of_symbol fits x.1.0 o.0) a o.2)
    (record {
      entries = u.entries ∙ ap (λ (l : List Name). t.entries ++ map missing_entry l) known;
      symbols = u.symbols ∙ ap (λ (l : List Name). t.symbols ++ unknown t.symbols l) (sym (symbol_only fits x.1.0 o.0));
    })

-- what a written value uses its operand uses
pub operand_uses : (t new : TableLists) (ty : Ty) (w : WrittenValue) (a : OperandTree) → operand_at (definitions_of t) ty w ≡ Some a → Uses t (types_written w) (symbol_written w) new → Uses t [] (a ∷ []) new
operand_uses t new ty (named n) a e u = plain t new a (is_plain _ a (some_is _ a e) refl) u
operand_uses t new ty (digits s) a e u = plain t new a (is_plain _ a (some_is _ a e) (in_range_plain (fits_width (width_of ty) s) (number (number_at (width_of ty) s)) refl)) u
operand_uses t new ty yes a e u = plain t new a (is_plain _ a (some_is _ a e) refl) u
operand_uses t new ty no a e u = plain t new a (is_plain _ a (some_is _ a e) refl) u
operand_uses t new ty null_word a e u = plain t new a (is_plain _ a (some_is _ a e) refl) u
operand_uses t new ty poison_word a e u = plain t new a (is_plain _ a (some_is _ a e) refl) u
operand_uses t new ty zeros a e u = plain t new a (zeros_plain ty a e) u
operand_uses t new ty (splat x) a e u = plain t new a (splat_plain ty x a e) u
operand_uses t new ty (lane_list xs) a e u = plain t new a (lanes_plain ty xs a e) u
operand_uses t new ty (symbol n) a e u = subst (λ (y : OperandTree). Uses t [] (y ∷ []) new) (some_is (global n 0) a e) u
operand_uses t new ty (stepped x) a e u = constant_uses t new x a e u
