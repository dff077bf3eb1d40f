-- The constant that steps so many bytes behind a symbol.
use Rattle.std.proofs.Common.{◌≡◌, ◌&&◌, ◌+◌, ◌-◌, ◌*◌, ◌%◌, ◌^◌, ℕ, Bool, true, false, cond, List, [], ◌∷◌, Option, Some, None, lit<, lit≤, refl, ap, ◌∙◌, arith, inl, inr}
use Rattle.std.specs.Prelude.{nat_lt, codes}
use Rattle.std.specs.List.{list_all}
use Rattle.text_forms.specs.Bind.{◌>>=◌}
use Rattle.std.proofs.Math.Nat.{mod-eq_of_lt}
use Rattle.text_forms.specs.declared.TokenKind.TheVariants as kinds
use Rattle.text_forms.specs.Form.{Form, many}
use Rattle.text_forms.specs.Lexical.{kind_of, table}
use Rattle.text_forms.proofs.Begins.{test}
use Rattle.text_lex.specs.Layout.{lexeme, Before, closed, open_}
use Rattle.ir_types.specs.declared.name.Name.{Name}
use Rattle.ir_types.specs.declared.inst.Ty.{Ty}
use Rattle.ir_types.specs.declared.inst.Ty.TheVariants.{Int}
use Rattle.ir_types.specs.Offsets.{Definitions, scaled, offset_of}
use Rattle.ir_types.specs.TypeNodes.{TypeNode, scalar}
use Rattle.ir_types.specs.Tree.{global, out_of_range}
use Rattle.ir_types.specs.TypeForms.{memory_leaf, inst_memory}
use Rattle.ir_types.specs.FlagForms.{three_flags}
use Rattle.ir_types.specs.ValueForms.{stepped, comma_index, constant_offset, index_fits, operand_at}
use Rattle.ir_shape.specs.Shape.{IsName, IsBelow}
use Rattle.ir_printer_types.specs.Texts.{signed_text}
use Rattle.ir_printer_types.specs.Pieces.{token, word, comma, blank, left_paren, right_paren, global_token, width_word, type_pieces}
use Rattle.ir_printer_types.proofs.InstMemory.{in_instruction}
use Rattle.ir_printer_types.proofs.Laid.{loose, nothing_behind, mark_laid}
use Rattle.ir_printer_types.proofs.LaidOut.{bracket_kinds, type_laid}
use Rattle.ir_printer_types.proofs.MemorySays.{leaf_says}
use Rattle.ir_printer_types.proofs.Says.{none_says, left_says, mapped_says}
use Rattle.ir_printer_types.proofs.Spelled.{decimals, type_says}
use Rattle.ir_printer_types.proofs.Writes.{Writes, both, spaced, mapped_writes, none_writes, behind_writes, after_comma, between_writes}
use Rattle.ir_printer.proofs.Numbers.{signed_again, signed_fits}
use Rattle.ir_printer.proofs.Words.{value_kinds, global_writes, width_writes, signed_writes}

-- ---- how many bytes they are

-- so many of one byte
scaled_one : (n : ℕ) → IsBelow 64 n → scaled 1 (64, n) ≡ n
scaled_one n lt = elim (test (nat_lt n (2 ^ (64 - 1)))) [
  | inl y ↦ rw y (let e : 1 * n ≡ n = omega arith in rw e (mod-eq_of_lt lt))
  | inr other ↦ rw other (let e : 1 * (2 ^ 64 - (2 ^ 64 - n)) ≡ n = omega arith in rw e (mod-eq_of_lt lt))
]

-- whatever names of types stand for
bytes_behind : (defs : Definitions) (n : ℕ) → IsBelow 64 n → offset_of defs (scalar (Int 8) ∷ []) ((64, n) ∷ []) ≡ Some n
bytes_behind defs n lt = ap (λ (k : ℕ). Some ((k + 0) % 2 ^ 64)) (scaled_one n lt) ∙ ap (λ (k : ℕ). Some k) (let e : n + 0 ≡ n = omega arith in rw e (mod-eq_of_lt lt))

-- ---- how they are written

abbrev pub written_steps : Name → ℕ → List TypeNode × (Name × List (ℕ × List ℕ))
written_steps n bytes = (scalar (Int 8) ∷ [], (n, (64, signed_text 64 bytes) ∷ []))

-- they are in range, and as many bytes again
pub steps_again : (defs : Definitions) (t : Ty) (n : Name) (bytes : ℕ) → IsBelow 64 bytes → operand_at defs t (stepped (written_steps n bytes)) ≡ Some (global n bytes)
steps_again defs t n bytes lt =
    ap (λ (k : ℕ). offset_of defs (scalar (Int 8) ∷ []) ((64, k) ∷ []) >>= λ o. Some (cond (list_all index_fits ((64, signed_text 64 bytes) ∷ [])) (global n o) (out_of_range (Some n)))) (signed_again 64 bytes (lit< tt) (lit≤ tt) lt)
    ∙ ap (λ (fits : Bool). offset_of defs (scalar (Int 8) ∷ []) ((64, bytes) ∷ []) >>= λ o. Some (cond (fits && true) (global n o) (out_of_range (Some n)))) (signed_fits 64 bytes (lit< tt) (lit≤ tt) lt)
    ∙ ap (λ (x : Option ℕ). x >>= λ o. Some (global n o)) (bytes_behind defs bytes lt)

step_kinds : (kind_of (codes "getelementptr") ≡ Some kinds.Word)
unfolding table
step_kinds = refl

byte_type : type_pieces (Int 8) ≡ word (codes "i8") ∷ []
unfolding type_pieces width_word
byte_type = rw (decimals.1) refl

step_word : width_word 64 ≡ codes "i64"
unfolding width_word
step_word = rw (decimals.4) refl

byte_writes : Writes closed inst_memory (scalar (Int 8) ∷ []) (word (codes "i8") ∷ [])
unfolding memory_leaf
byte_writes = rw (← byte_type) (in_instruction _ (type_pieces (Int 8)) (leaf_says _ _ _ (left_says (mapped_says (Int 8) _ refl (type_says (Int 8) (inr (inl refl)))))) (type_laid (Int 8) (inr (inl refl))))

pub no_flags_write : {b : Before} → Writes b three_flags (false, (false, false)) []
unfolding three_flags
no_flags_write = mapped_writes None _ refl none_writes

no_others : {A : Type 0} {b : Before} {f : Form A} → Writes b (many f) [] []
no_others {f = f} = record { says = none_says f; tokens = tt; joined = refl }

index_writes : (n : ℕ) → IsBelow 64 n → Writes open_ comma_index (64, signed_text 64 n) (comma ∷ blank ∷ word (codes "i64") ∷ blank ∷ lexeme (token kinds.Number (signed_text 64 n)) ∷ [])
index_writes n lt = rw (← step_word) (after_comma (both (width_writes 64 (inr (inr (inr (inr (inl refl)))))) (spaced (signed_writes 64 n (lit≤ tt) lt))))

pub steps_write : (n : Name) (bytes : ℕ) → IsName n → IsBelow 64 bytes
    → Writes closed constant_offset (written_steps n bytes) (word (codes "getelementptr") ∷ blank ∷ left_paren ∷ word (codes "i8") ∷ comma ∷ blank ∷ word (codes "ptr") ∷ blank ∷ lexeme (global_token n) ∷ comma ∷ blank ∷ word (codes "i64") ∷ blank ∷ lexeme (token kinds.Number (signed_text 64 bytes)) ∷ right_paren ∷ [])
unfolding constant_offset
steps_write n bytes h lt =
    behind_writes (codes "getelementptr") step_kinds (mapped_writes ((false, (false, false)), written_steps n bytes) _ refl (both no_flags_write (spaced (between_writes kinds.LeftParen kinds.RightParen (codes "(") (codes ")")
    (word (codes "i8") ∷ comma ∷ blank ∷ word (codes "ptr") ∷ blank ∷ lexeme (global_token n) ∷ comma ∷ blank ∷ word (codes "i64") ∷ blank ∷ lexeme (token kinds.Number (signed_text 64 bytes)) ∷ []) (right_paren ∷ []) bracket_kinds.0 refl
    (mark_laid kinds.RightParen (codes ")") refl bracket_kinds.1 (loose nothing_behind)) refl
    (both byte_writes (both (after_comma (behind_writes (codes "ptr") value_kinds.4 (spaced (global_writes n h)))) (mapped_writes ((64, signed_text 64 bytes), []) _ refl (both (index_writes bytes lt) no_others))))))))
