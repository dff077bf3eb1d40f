-- The pieces that a block is printed as write it.
use Rattle.std.proofs.Common.{◌≡◌, ◌||◌, List, [], ◌∷◌, ◌++◌, Option, Some, None, Bool, false, refl, sym, ap, subst}
use Rattle.std.specs.Prelude.{map, codes}
use Rattle.std.specs.List.{AllByRecursion, AllZip, list_any}
use Rattle.std.proofs.lemmas.List.{append-nil}
use Rattle.text_forms.specs.declared.TokenKind.TheVariants as kinds
use Rattle.text_forms.specs.Form.{Form, pair, many, by_word}
use Rattle.text_forms.specs.Lexical.{kind_of, table}
use Rattle.text_lex.specs.Layout.{Piece, lexeme, closed, open_}
use Rattle.ir_types.specs.declared.name.Name.{Name}
use Rattle.ir_types.specs.declared.inst.Ty.{Ty}
use Rattle.ir_types.specs.declared.inst.Ty.TheVariants.{Int, Ptr, Vector, Void}
use Rattle.ir_types.specs.Offsets.{Definitions}
use Rattle.text_lex.specs.KeptText.{kept_behind}
use Rattle.ir_types.specs.Tree.{OperandTree, local, number, null, poison, lanes, global, out_of_range, InstTree}
use Rattle.ir_types.specs.TypeForms.{label}
use Rattle.ir_types.specs.Words.{operation_words}
use Rattle.ir_types.specs.InstForms.{bare_inst, is_out_of_range, with_kept, attached, operation_behind, operation, terminator}
use Rattle.ir_types.specs.FunctionForms.{named_by, line, block}
use Rattle.ir_shape.specs.Shape.{IsName, IsOperand, IsTyped, IsBody, IsInst, IsResult, IsTerminator, EndsOnce, IsBlock}
use Rattle.ir_printer_types.specs.Pieces.{line_feed, indent, label_token, each_behind}
use Rattle.ir_printer_types.proofs.Laid.{nothing_behind, token_laid}
use Rattle.ir_printer_types.proofs.Names.{local_again, local_kind, label_kind}
use Rattle.ir_printer_types.proofs.Spelled.{label_says}
use Rattle.ir_printer_types.proofs.Writes.{Writes, laid_writes, both, spaced, on_next_line, indented, with_feed, anywhere, left_writes, right_writes, mapped_writes, made_writes, ahead_writes, there_writes, more_writes, no_more, EachWrites}
use Rattle.ir_printer.specs.Print.{result_pieces, inst_pieces, block_pieces}
use Rattle.ir_printer.proofs.KeptWritten.{behind_kept}
use Rattle.ir_printer.proofs.Instructions.{operation_writes, terminator_writes}
use Rattle.ir_printer.proofs.Numbering.{written_block}

-- ---- lines

equal_kind : kind_of (codes "=") ≡ Some kinds.Equal
unfolding table
equal_kind = refl

named_writes : (f : Form InstTree) (i : InstTree) (n : Name) (ps : List Piece) → IsName n → Writes closed f i ps → Writes closed (line f) (named_by i (Some n)) (result_pieces (Some n) ++ ps)
named_writes f i n ps h w = left_writes (made_writes _ _ (rw (local_again n h) refl) (ahead_writes kinds.Local _ (local_kind n h) (spaced (ahead_writes kinds.Equal (codes "=") equal_kind (spaced w)))))

with_result : (f : Form InstTree) (i : InstTree) (t : Ty) (o : Option Name) (ps : List Piece) → IsResult t o → Writes closed f i ps → Writes closed (line f) (named_by i o) (result_pieces o ++ ps)
with_result f i t None ps h w = right_writes (mapped_writes _ _ refl w)
with_result f i (Int w) (Some n) ps h p = named_writes f i n ps h p
with_result f i Ptr (Some n) ps h p = named_writes f i n ps h p
with_result f i (Vector m w) (Some n) ps h p = named_writes f i n ps h p
with_result f i Void (Some n) ps h p = named_writes f i n ps h p

-- an instruction without its result's name and its attachments
abbrev stripped : InstTree → InstTree
stripped i = bare_inst i.kind i.ty i.args i.labels

stripped_body : (i : InstTree) → IsBody i → IsBody (stripped i)
stripped_body i h = record { args = h.args; labels = h.labels; count = h.count; result = h.result; parts = h.parts }

-- no operand is out of range
in_range : (t : Ty) (a : OperandTree) → IsOperand t a → is_out_of_range a ≡ false
in_range t (local n) h = refl
in_range t (number v) h = refl
in_range t null h = refl
in_range t poison h = refl
in_range t (lanes xs) h = refl
in_range t (global n bytes) h = refl
in_range t (out_of_range n) h = absurd h

all_in_range : (ts : List Ty) (args : List OperandTree) → AllZip IsTyped ts args → list_any is_out_of_range args ≡ false
all_in_range ts [] h = refl
all_in_range [] (a ∷ args) h = absurd h
all_in_range (t ∷ ts) (a ∷ args) h = rw (in_range t a h.0.1, all_in_range ts args h.1) refl

none_wide : (args : List OperandTree) (wide : Bool) → list_any is_out_of_range args ≡ false → wide ≡ false → (list_any is_out_of_range args || false) ≡ wide
none_wide args wide e f = rw e (sym f)

-- with them again
same_again : (i : InstTree) → IsInst i → named_by (with_kept (stripped i) i.kept) i.result ≡ i
same_again i h = ap (λ (b : Bool). record i { wide = b }) (none_wide i.args i.wide (all_in_range _ i.args h.body.args) h.narrow)

line_writes : (f : Form InstTree) (i : InstTree) (ps : List Piece) → IsInst i → Writes closed f (stripped i) ps → Writes closed (line (attached f)) i (result_pieces i.result ++ (ps ++ (kept_behind [] i.kept ++ (line_feed ∷ []))))
line_writes f i ps h w =
    subst (λ (j : InstTree). Writes closed (line (attached f)) j (result_pieces i.result ++ (ps ++ (kept_behind [] i.kept ++ (line_feed ∷ []))))) (same_again i h)
    (with_result (attached f) (with_kept (stripped i) i.kept) i.ty i.result _ h.result (mapped_writes (stripped i, i.kept) _ refl (both w (with_feed (behind_kept h.attachments)))))

-- the form of an instruction that goes on, or that ends a block
operation_line : (defs : Definitions) (i : InstTree) → IsInst i → ¬ IsTerminator i.kind → Writes closed (line (operation defs)) i (inst_pieces i)
unfolding operation inst_pieces
operation_line defs i h g = line_writes (by_word operation_words (operation_behind defs)) i _ h (operation_writes defs i.kind i.ty i.args i.labels (stripped_body i h.body) g)

terminator_line : (defs : Definitions) (i : InstTree) → IsInst i → IsTerminator i.kind → Writes closed (line (terminator defs)) i (inst_pieces i)
unfolding terminator inst_pieces
terminator_line defs i h g = line_writes _ i _ h (terminator_writes defs i.kind i.ty i.args i.labels (stripped_body i h.body) g)

-- ---- blocks

label_writes : (n : Name) → IsName n → Writes closed label n (lexeme (label_token n) ∷ [])
label_writes n h = laid_writes (label_says n h) (token_laid (label_token n) (label_kind n h) nothing_behind)

module _ (defs : Definitions) where
  -- the lines of a block, and the last of them
  record Lines (insts : List InstTree) : Type 0 where
    front : List InstTree
    last : InstTree
    parts : front ++ last ∷ [] ≡ insts
    writes : Writes open_ (pair (many (line (operation defs))) (line (terminator defs))) (front, last) (each_behind (indent ∷ []) (map inst_pieces insts))

  lines_write : (insts : List InstTree) → AllByRecursion IsInst insts → EndsOnce (map (λ i. i.kind) insts) → Lines insts
  lines_write [] h e = absurd e
  lines_write (i ∷ []) h e = record { front = []; last = i; parts = refl; writes = rw (append-nil (inst_pieces i)) (indented (no_more (terminator_line defs i h.0 e))) }
  lines_write (i ∷ j ∷ insts) h e =
      let rest = lines_write (j ∷ insts) h.1 e.1 in
      record { front = i ∷ rest.front; last = rest.last; parts = ap (λ (is : List InstTree). i ∷ is) rest.parts; writes = indented (more_writes (operation_line defs i h.0 e.0) rest.writes) }

  pub block_writes : EachWrites (block defs) written_block block_pieces IsBlock
  unfolding block block_pieces
  block_writes = record {
    one = λ b h.
        let lines = lines_write b.insts h.insts h.ending in
        mapped_writes (Some b.name, (lines.front, lines.last)) _ (rw (lines.parts) refl) (both (there_writes (label_writes b.name h.name)) (on_next_line (anywhere lines.writes)));
  }
