-- The pieces that calls and `getelementptr` are printed as write them.
use Rattle.std.proofs.Common.{◌≡◌, ◌<◌, ℕ, Bool, List, [], ◌∷◌, ◌++◌, length, Option, Some, None, refl, ap, subst, append_assoc, arith}
use Rattle.std.specs.Prelude.{map, codes}
use Rattle.std.specs.List.{AllByRecursion, AllZip}
use Rattle.text_forms.specs.declared.TokenKind.TheVariants as kinds
use Rattle.text_forms.specs.Form.{optional}
use Rattle.text_lex.specs.Layout.{Piece, lexeme, closed, open_}
use Rattle.ir_types.specs.declared.inst.Ty.{Ty}
use Rattle.ir_types.specs.declared.inst.Ty.TheVariants.{Int, Ptr}
use Rattle.ir_types.specs.declared.call.Actual.{Actual}
use Rattle.ir_types.specs.declared.call.Callee.{Callee}
use Rattle.ir_types.specs.declared.call.Signature.{Signature}
use Rattle.ir_types.specs.Kinds.{Offset, Call}
use Rattle.ir_types.specs.Offsets.{Definitions}
use Rattle.ir_types.specs.TypeNodes.{TypeNode}
use Rattle.ir_types.specs.Tree.{OperandTree}
use Rattle.text_forms.specs.Combined.{some, marked, list}
use Rattle.ir_types.specs.TypeForms.{value_type, inst_memory}
use Rattle.ir_types.specs.Words.{kept}
use Rattle.ir_types.specs.InstParts.{dotted_list, index_value}
use Rattle.ir_types.specs.InstForms.{bare_inst, getelementptr, argument, signature, call}
use Rattle.ir_shape.specs.Shape.{IsKept, IsReturnType, IsType, IsTyped, IsSignature, IsCallee}
use Rattle.ir_printer_types.specs.Pieces.{comma, blank, left_paren, right_paren, global_token, each_behind, with_commas, type_pieces}
use Rattle.ir_printer_types.proofs.Laid.{loose, nothing_behind, mark_laid}
use Rattle.ir_printer_types.proofs.LaidOut.{bracket_kinds}
use Rattle.ir_printer_types.proofs.Writes.{Writes, both, spaced, mapped_writes, made_writes, none_writes, there_writes, after_comma, between_writes, EachWrites, list_write, some_commas}
use Rattle.ir_printer.specs.Print.{typed_operand, each_typed, written_types, signature_pieces, argument_pieces, arguments_of, call_pieces, blank_then_kept, kept_then_blank, offset_flags, listed_pieces}
use Rattle.ir_printer.proofs.Words.{type_writes, return_writes, global_writes}
use Rattle.ir_printer.proofs.Values.{operand_written, pointer_writes, index_writes}
use Rattle.ir_printer.proofs.Parts.{offset_flags_write}
use Rattle.ir_printer.proofs.Dotted.{dotted_write}
use Rattle.ir_printer.proofs.KeptWritten.{spaced_kept, kept_before}
use Rattle.ir_printer.proofs.Numbering.{map_same}

-- ---- getelementptr

abbrev IsIndex : ℕ × OperandTree → Type 0
IsIndex x = IsTyped (Int x.0) x.1

abbrev index_pieces : ℕ × OperandTree → List Piece
index_pieces x = typed_operand (Int x.0) x.1

each_index : (defs : Definitions) → EachWrites (index_value defs) (λ x. x) index_pieces IsIndex
each_index defs = record { one = λ x h. index_writes (operand_written defs (Int x.0) x.1 h) }

-- operands with their widths
record Indexes (widths : List ℕ) (args : List OperandTree) : Type 0 where
  items : List (ℕ × OperandTree)
  known : AllByRecursion IsIndex items
  first : map (λ (x : ℕ × OperandTree). x.0) items ≡ widths
  second : map (λ (x : ℕ × OperandTree). x.1) items ≡ args
  pieces : map index_pieces items ≡ each_typed (map Int widths) args
  as_many : length items ≡ length widths

indexes : (widths : List ℕ) (args : List OperandTree) → AllZip IsTyped (map Int widths) args → Indexes widths args
indexes [] [] h = record { items = []; known = tt; first = refl; second = refl; pieces = refl; as_many = refl }
indexes [] (a ∷ args) h = absurd h
indexes (w ∷ widths) [] h = absurd h
indexes (w ∷ widths) (a ∷ args) h =
    let rest = indexes widths args h.1 in
    record {
      items = (w, a) ∷ rest.items;
      known = (h.0, rest.known);
      first = ap (λ (ws : List ℕ). w ∷ ws) rest.first;
      second = ap (λ (xs : List OperandTree). a ∷ xs) rest.second;
      pieces = ap (λ (ps : List (List Piece)). index_pieces (w, a) ∷ ps) rest.pieces;
      as_many = omega (arith, rest.as_many);
    }

steps_write : (defs : Definitions) (nodes : List TypeNode) (widths : List ℕ) (inbounds nuw nusw : Bool) (pointer : OperandTree) (args : List OperandTree) (memory : List Piece) → Writes closed inst_memory nodes memory → IsTyped Ptr pointer → Indexes widths args → 0 < length widths
    → Writes open_ (getelementptr defs) (bare_inst (Offset nodes widths inbounds nuw nusw) Ptr (pointer ∷ args) []) (offset_flags inbounds nuw nusw ++ (blank ∷ (memory ++ (comma ∷ blank ∷ (typed_operand Ptr pointer ++ each_behind (comma ∷ blank ∷ []) (each_typed (map Int widths) args))))))
unfolding getelementptr
steps_write defs nodes widths inbounds nuw nusw pointer args memory m p is lt =
    rw (← is.pieces) (mapped_writes ((inbounds, (nuw, nusw)), (nodes, (pointer, is.items))) _ (rw (is.first, is.second) refl)
    (both (offset_flags_write inbounds nuw nusw) (spaced (both m (both (after_comma (pointer_writes (operand_written defs Ptr pointer p)))
    (subst (λ (xs : List (ℕ × OperandTree)). Writes open_ (some (marked kinds.Comma (index_value defs))) xs (each_behind (comma ∷ blank ∷ []) (map index_pieces is.items))) (map_same is.items) (some_commas (each_index defs) is.items (omega (arith, is.as_many)) is.known)))))))

pub offset_writes : (defs : Definitions) (nodes : List TypeNode) (widths : List ℕ) (inbounds nuw nusw : Bool) (args : List OperandTree) (memory : List Piece) → Writes closed inst_memory nodes memory → AllZip IsTyped (Ptr ∷ map Int widths) args → 0 < length widths
    → Writes open_ (getelementptr defs) (bare_inst (Offset nodes widths inbounds nuw nusw) Ptr args []) (offset_flags inbounds nuw nusw ++ (blank ∷ (memory ++ (comma ∷ listed_pieces (Ptr ∷ map Int widths) args))))
offset_writes defs nodes widths inbounds nuw nusw [] memory m h lt = absurd h
offset_writes defs nodes widths inbounds nuw nusw (a ∷ args) memory m h lt = steps_write defs nodes widths inbounds nuw nusw a args memory m h.0 (indexes widths args h.1) lt

-- ---- calls

-- an argument
abbrev IsArgument : Actual × OperandTree → Type 0
IsArgument x = IsTyped x.0.ty x.1 × IsKept kept x.0.kept

each_argument : (defs : Definitions) → EachWrites (argument defs) (λ x. x) (λ x. argument_pieces x.0 x.1) IsArgument
unfolding argument argument_pieces
each_argument defs = record {
  one = λ x h.
      let a = operand_written defs x.0.ty x.1 h.0 in
      made_writes (x.0.ty, (x.0.kept, a.as_value)) x (rw (a.is) refl) (both (type_writes x.0.ty a.typed) (both (spaced_kept h.1) (spaced a.writes)));
}

-- operands with what is written beside them
record Arguments (actuals : List Actual) (args : List OperandTree) : Type 0 where
  items : List (Actual × OperandTree)
  known : AllByRecursion IsArgument items
  first : map (λ (x : Actual × OperandTree). x.0) items ≡ actuals
  second : map (λ (x : Actual × OperandTree). x.1) items ≡ args
  pieces : map (λ (x : Actual × OperandTree). argument_pieces x.0 x.1) items ≡ arguments_of actuals args

arguments : (actuals : List Actual) (args : List OperandTree) → AllZip IsTyped (map (λ a. a.ty) actuals) args → AllByRecursion (λ a. IsKept kept a.kept) actuals → Arguments actuals args
arguments [] [] h k = record { items = []; known = tt; first = refl; second = refl; pieces = refl }
arguments [] (x ∷ args) h k = absurd h
arguments (a ∷ actuals) [] h k = absurd h
arguments (a ∷ actuals) (x ∷ args) h k =
    let rest = arguments actuals args h.1 k.1 in
    record {
      items = (a, x) ∷ rest.items;
      known = ((h.0, k.0), rest.known);
      first = ap (λ (l : List Actual). a ∷ l) rest.first;
      second = ap (λ (l : List OperandTree). x ∷ l) rest.second;
      pieces = ap (λ (ps : List (List Piece)). argument_pieces a x ∷ ps) rest.pieces;
    }

each_type : EachWrites value_type (λ t. t) type_pieces IsType
each_type = record { one = type_writes }

types_write : (s : Signature) → AllByRecursion IsType s.params → Writes closed (dotted_list value_type) (s.params, s.varargs) (written_types s)
types_write s h = subst (λ (ts : List Ty). Writes closed (dotted_list value_type) (ts, s.varargs) (written_types s)) (map_same s.params) (dotted_write each_type s.params s.varargs h)

signature_writes : (o : Option Signature) → IsSignature o → Writes open_ (optional signature) o (signature_pieces o)
unfolding signature
signature_writes None h = none_writes
signature_writes (Some s) h =
    there_writes (spaced (mapped_writes (s.params, s.varargs) s refl (between_writes kinds.LeftParen kinds.RightParen (codes "(") (codes ")") (written_types s) (right_paren ∷ []) bracket_kinds.0 refl (mark_laid kinds.RightParen (codes ")") refl bracket_kinds.1 (loose nothing_behind)) refl (types_write s h))))

-- the parts of a call behind one another
abbrev parts_of_call : Callee → Ty → List Piece → List Piece
parts_of_call c t inner = blank ∷ (kept_then_blank c.before ++ (type_pieces t ++ (signature_pieces c.signature ++ ((blank ∷ lexeme (global_token c.name) ∷ []) ++ ((left_paren ∷ (inner ++ (right_paren ∷ []))) ++ blank_then_kept c.after)))))

call_parts : (c : Callee) (t : Ty) (args : List OperandTree) → call_pieces c t args ++ blank_then_kept c.after ≡ parts_of_call c t (with_commas (arguments_of c.actuals args))
unfolding call_pieces
call_parts c t args = simp append_assoc

pub call_writes : (defs : Definitions) (c : Callee) (t : Ty) (args : List OperandTree) → IsCallee c → IsReturnType t → AllZip IsTyped (map (λ a. a.ty) c.actuals) args → Writes open_ (call defs c.tail) (bare_inst (Call c) t args []) (call_pieces c t args ++ blank_then_kept c.after)
unfolding call
call_writes defs c t args k r h =
    let xs = arguments c.actuals args h k.actuals in
    let inner = subst (λ (ys : List (Actual × OperandTree)). Writes closed (list (argument defs)) ys (with_commas (map (λ x. argument_pieces x.0 x.1) xs.items))) (map_same xs.items) (list_write (each_argument defs) xs.items xs.known) in
    rw (call_parts c t args, ← xs.pieces) (mapped_writes (c.before, (t, (c.signature, (c.name, (xs.items, c.after))))) _ (rw (xs.first, xs.second) refl)
    (spaced (kept_before k.before (both (return_writes t r) (both (signature_writes c.signature k.signature) (both (spaced (global_writes c.name k.name))
    (both (between_writes kinds.LeftParen kinds.RightParen (codes "(") (codes ")") (with_commas (map (λ x. argument_pieces x.0 x.1) xs.items)) (right_paren ∷ []) bracket_kinds.0 refl (mark_laid kinds.RightParen (codes ")") refl bracket_kinds.1 (loose nothing_behind)) refl inner) (spaced_kept k.after))))))))
