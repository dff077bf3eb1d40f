-- The pieces that names, types and numbers are printed as write them.
use Rattle.std.proofs.Common.{◌≡◌, ◌≤◌, ℕ, [], ◌∷◌, Some, refl}
use Rattle.std.specs.Prelude.{codes}
use Rattle.text_forms.specs.declared.TokenKind.TheVariants as kinds
use Rattle.text_forms.specs.Form.{one}
use Rattle.text_forms.specs.Lexical.{kind_of, table}
use Rattle.text_lex.specs.Layout.{lexeme, closed}
use Rattle.ir_types.specs.declared.name.Name.{Name}
use Rattle.ir_types.specs.declared.inst.Ty.{Ty}
use Rattle.ir_types.specs.TypeForms.{local_name, global_name, width, value_type, return_type}
use Rattle.ir_shape.specs.Shape.{IsName, IsOneOf, widths, IsType, IsReturnType, IsBelow}
use Rattle.ir_printer_types.specs.Texts.{signed_text}
use Rattle.ir_printer_types.specs.Pieces.{token, word, local_token, global_token, width_word, type_pieces}
use Rattle.ir_printer_types.proofs.Laid.{nothing_behind, token_laid}
use Rattle.ir_printer_types.proofs.LaidOut.{local_laid, width_kind, word_laid, type_laid, type_returned}
use Rattle.ir_printer_types.proofs.Names.{global_kind}
use Rattle.ir_printer_types.proofs.Spelled.{local_says, global_says, width_says, type_says, return_type_says}
use Rattle.ir_printer_types.proofs.Writes.{Writes, laid_writes, one_writes}
use Rattle.ir_printer.proofs.Numbers.{signed_kind}

-- ---- names and types

-- a local's token writes it
pub local_writes : (n : Name) → IsName n → Writes closed local_name n (lexeme (local_token n) ∷ [])
local_writes n h = laid_writes (local_says n h) (local_laid n h nothing_behind)

-- and a symbol's
pub global_writes : (n : Name) → IsName n → Writes closed global_name n (lexeme (global_token n) ∷ [])
global_writes n h = laid_writes (global_says n h) (token_laid (global_token n) (global_kind n h) nothing_behind)

-- and the word of a width
pub width_writes : (w : ℕ) → IsOneOf widths w → Writes closed width w (word (width_word w) ∷ [])
width_writes w h = laid_writes (width_says w h) (word_laid (width_word w) (width_kind w h) nothing_behind)

-- the pieces of a type write it
pub type_writes : (t : Ty) → IsType t → Writes closed value_type t (type_pieces t)
type_writes t h = laid_writes (type_says t h) (type_laid t (type_returned t h))

-- and of one that is returned
pub return_writes : (t : Ty) → IsReturnType t → Writes closed return_type t (type_pieces t)
return_writes t h = laid_writes (return_type_says t h) (type_laid t h)

-- ---- numbers

-- the words of values are one token each
pub value_kinds : (kind_of (codes "true") ≡ Some kinds.Word) × (kind_of (codes "false") ≡ Some kinds.Word) × (kind_of (codes "null") ≡ Some kinds.Word) × (kind_of (codes "poison") ≡ Some kinds.Word) × (kind_of (codes "ptr") ≡ Some kinds.Word)
unfolding table
value_kinds = (refl, refl, refl, refl, refl)

-- and so is a signed number
pub signed_writes : (w v : ℕ) → w ≤ 64 → IsBelow w v → Writes closed (one kinds.Number) (signed_text w v) (lexeme (token kinds.Number (signed_text w v)) ∷ [])
signed_writes w v h lt = one_writes kinds.Number (signed_text w v) (signed_kind w v h lt)
