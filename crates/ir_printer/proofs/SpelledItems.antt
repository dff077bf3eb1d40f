-- The tokens that lines, named types and variables are printed as spell them as items.
use Rattle.std.proofs.Common.{◌≡◌, ◌≤◌, ℕ, Bool, true, false, List, [], ◌∷◌, ◌++◌, length, Some, None, refl, ap, ◌∙◌, arith, inl, inr, length-append}
use Rattle.std.specs.Prelude.{map, codes}
use Rattle.std.proofs.lemmas.List.{append-nil}
use Rattle.text_forms.specs.declared.TokenKind.TheVariants as kinds
use Rattle.text_forms.specs.Form.{Lexeme, Form}
use Rattle.text_lex.specs.KeptText.{token_of, line_pieces}
use Rattle.text_lex.specs.Layout.{Piece, tokens_of}
use Rattle.text_lex.proofs.KeptTexts.{line_tokens}
use Rattle.text_lex.proofs.Layouts.{tokens_of-append}
use Rattle.ir_types.specs.declared.name.Name.{Name}
use Rattle.ir_types.specs.declared.opcode.ItemWord.TheVariants as items
use Rattle.ir_types.specs.Offsets.{Definitions}
use Rattle.ir_types.specs.TypeNodes.{TypeNode}
use Rattle.ir_types.specs.Tree.{KeptTexts, VariableTree, head_line, comdat_line, type_item, variable_item, attribute_line, metadata_line}
use Rattle.ir_types.specs.Words.{kept, item_words}
use Rattle.ir_types.specs.ItemForms.{comdat, metadata, type_definition, variable_word, variable_definition, behind_type, item}
use Rattle.ir_shape.specs.Shape.{IsName, IsKept, head_form, attributes_form}
use Rattle.ir_printer_types.specs.Texts.{name_text}
use Rattle.ir_printer_types.specs.MemoryPieces.{node_pieces}
use Rattle.ir_printer_types.specs.Pieces.{token, word, global_token, local_token}
use Rattle.ir_printer_types.proofs.Names.{local_again, global_again}
use Rattle.ir_printer_types.proofs.Says.{Says, pair_says, left_says, right_says, mapped_says, made_says, word_says, ahead_says, by_word_says, behind_says, after_mark_says}
use Rattle.ir_printer.specs.Print as print
use Rattle.ir_printer.specs.Print.{whole_line, definition_pieces, variable_pieces}
use Rattle.ir_printer.proofs.Lines.{head_parts, group_parts}
use Rattle.ir_printer.proofs.KeptWritten.{kept_says, then_blank_tokens, behind_tokens}

-- ---- lines

whole_tokens : (xs : KeptTexts) → tokens_of (whole_line xs) ≡ map token_of xs
whole_tokens xs = tokens_of-append (line_pieces xs) _ ∙ append-nil _ ∙ line_tokens xs

pub head_says : (defs : Definitions) (m : Form (List TypeNode)) (xs : KeptTexts) → IsKept head_form xs → Says (item defs m) (head_line xs) (tokens_of (whole_line xs))
unfolding item item_words
head_says defs m xs h = rw (whole_tokens xs) (elim (head_parts xs h) [
  | inl b ↦ rw b.tokens (left_says (by_word_says (codes "source_filename") items.SourceFilename refl (mapped_says b.others _ (ap (λ (ys : KeptTexts). head_line ys) b.parts) (record { spells = b.spelled }))))
  | inr b ↦ rw b.tokens (left_says (by_word_says (codes "target") items.Target refl (mapped_says b.others _ (ap (λ (ys : KeptTexts). head_line ys) b.parts) (record { spells = b.spelled }))))
])

pub comdat_says : (defs : Definitions) (m : Form (List TypeNode)) (xs : KeptTexts) → IsKept comdat xs → Says (item defs m) (comdat_line xs) (tokens_of (whole_line xs))
unfolding item
comdat_says defs m xs h = rw (whole_tokens xs) (right_says (left_says (mapped_says xs _ refl (kept_says h))))

pub group_says : (defs : Definitions) (m : Form (List TypeNode)) (xs : KeptTexts) → IsKept attributes_form xs → Says (item defs m) (attribute_line xs) (tokens_of (whole_line xs))
unfolding item item_words
group_says defs m xs h =
    let b = group_parts xs h in
    rw (whole_tokens xs) (rw b.tokens (left_says (by_word_says (codes "attributes") items.Attributes refl (mapped_says b.others _ (ap (λ (ys : KeptTexts). attribute_line ys) b.parts) (record { spells = b.spelled })))))

pub metadata_says : (defs : Definitions) (m : Form (List TypeNode)) (xs : KeptTexts) → IsKept metadata xs → Says (item defs m) (metadata_line xs) (tokens_of (whole_line xs))
unfolding item
metadata_says defs m xs h = rw (whole_tokens xs) (right_says (right_says (left_says (mapped_says xs _ refl (kept_says h)))))

-- ---- named types

definition_tokens : (n : Name) (ps : List Piece) → tokens_of (definition_pieces n ps) ≡ local_token n ∷ token kinds.Equal (codes "=") ∷ token kinds.Word (codes "type") ∷ tokens_of ps
definition_tokens n ps = ap (λ (ts : List Lexeme). local_token n ∷ token kinds.Equal (codes "=") ∷ token kinds.Word (codes "type") ∷ ts) (tokens_of-append ps _ ∙ append-nil _)

pub defined_says : (defs : Definitions) (m : Form (List TypeNode)) (n : Name) (nodes : List TypeNode) (ps : List Piece) → IsName n → Says m nodes (tokens_of ps) → Says (item defs m) (type_item n (Some nodes)) (tokens_of (definition_pieces n ps))
unfolding item type_definition
defined_says defs m n nodes ps h p =
    rw (definition_tokens n ps) (right_says (right_says (right_says (left_says (made_says _ _ (rw (local_again n h) refl) (ahead_says kinds.Local _ (after_mark_says kinds.Equal _ (behind_says (codes "type") (left_says (mapped_says nodes _ refl p))))))))))

-- a type has no more tokens than its definition
pub definition_within : (n : Name) (ps : List Piece) (d : ℕ) → length (tokens_of (definition_pieces n ps)) ≤ d → length (tokens_of ps) ≤ d
definition_within n ps d le = omega (arith, ap length (definition_tokens n ps))

pub opaque_says : (defs : Definitions) (m : Form (List TypeNode)) (n : Name) → IsName n → Says (item defs m) (type_item n None) (tokens_of (definition_pieces n (word (codes "opaque") ∷ [])))
unfolding item type_definition
opaque_says defs m n h =
    right_says (right_says (right_says (left_says (made_says _ _ (rw (local_again n h) refl) (ahead_says kinds.Local _ (after_mark_says kinds.Equal _ (behind_says (codes "type") (right_says (word_says _ None)))))))))

-- ---- variables

word_tokens : (writable : Bool) → Says variable_word writable (token kinds.Word (print.variable_word writable) ∷ [])
unfolding variable_word
word_tokens true = left_says (word_says _ true)
word_tokens false = right_says (word_says _ false)

variable_tokens : (v : VariableTree) → tokens_of (variable_pieces v) ≡ global_token v.name ∷ token kinds.Equal (codes "=") ∷ (map token_of v.before ++ (token kinds.Word (print.variable_word v.writable) ∷ (tokens_of (node_pieces v.ty) ++ map token_of v.after)))
variable_tokens v = rw (← then_blank_tokens v.before, ← behind_tokens v.after) (simp (tokens_of-append, append-nil))

pub variable_says : (defs : Definitions) (v : VariableTree) (f : Form (List TypeNode)) → IsName v.name → IsKept kept v.before → IsKept behind_type v.after → Says f v.ty (tokens_of (node_pieces v.ty)) → Says (item defs f) (variable_item v) (tokens_of (variable_pieces v))
unfolding item variable_definition
variable_says defs v f h before after p =
    rw (variable_tokens v) (right_says (right_says (right_says (right_says (made_says (64 ∷ name_text v.name, (v.before, (v.writable, (v.ty, v.after)))) _ (rw (global_again v.name h) refl) (ahead_says kinds.Global _ (after_mark_says kinds.Equal _
    (pair_says (map token_of v.before) _ (kept_says before) (pair_says (token kinds.Word (print.variable_word v.writable) ∷ []) _ (word_tokens v.writable) (pair_says (tokens_of (node_pieces v.ty)) _ p (kept_says after)))))))))))

-- nor has that of a variable
pub variable_within : (v : VariableTree) (d : ℕ) → length (tokens_of (variable_pieces v)) ≤ d → length (tokens_of (node_pieces v.ty)) ≤ d
variable_within v d le =
    omega (arith, ap length (variable_tokens v), length-append (map token_of v.before) (token kinds.Word (print.variable_word v.writable) ∷ (tokens_of (node_pieces v.ty) ++ map token_of v.after)), length-append (tokens_of (node_pieces v.ty)) (map token_of v.after))
