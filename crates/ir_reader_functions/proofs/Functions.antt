-- The parts of a function, read one behind the other.
use Rattle.std.proofs.Common.{◌≡◌, Bool, true, false, cond, ◌||◌, List, [], ◌∷◌, Option, Some, None, refl, sym, ap, ◌∙◌}
use Rattle.text_forms.specs.Form.{Lexeme}
use Rattle.text_forms.specs.declared.TokenKind.TheVariants.{Label}
use Rattle.text_forms.specs.Reading.{◌>>=◌, opens, read, any_of, next_in, fits, first}
use Rattle.ir_types.specs.Tree.{WrittenParam}
use Rattle.ir_types.specs.Offsets.{Definitions}
use Rattle.ir_reader_ops.proofs.Beginnings.{fits_append}
use Rattle.ir_reader_functions.proofs.Lines.{or_nothing}
use Rattle.text_forms.specs.Combined.{commas, list, or_none}
use Rattle.ir_types.specs.TypeForms.{value_type, vector_type, width, label}
use Rattle.ir_types.specs.InstForms.{operation, terminator}
use Rattle.ir_types.specs.FunctionForms.{parameter, block, line}

abbrev Params : Type 0
Params = Option (List WrittenParam × List Lexeme)

abbrev some_of : Params → Option (Option (List WrittenParam) × List Lexeme)
some_of r = r >>= λ x. Some (Some x.0, x.1)

abbrev all_of : Option (Option (List WrittenParam) × List Lexeme) → Params
all_of r = r >>= λ x. Some (or_none x.0, x.1)

same : (r : Params) → all_of (some_of r) ≡ r
same None = refl
same (Some x) = refl

-- where a parameter stands next, there are some
pub list_some : (ts : List Lexeme) → opens parameter ts ≡ true → read (list parameter) ts ≡ read (commas parameter) ts
unfolding parameter value_type vector_type width
list_some ts e = ap (λ (b : Bool). all_of (cond b (some_of (read (commas parameter) ts)) (Some (None, ts)))) e ∙ same (read (commas parameter) ts)

-- and none elsewhere
pub list_none : (ts : List Lexeme) → opens parameter ts ≡ false → read (list parameter) ts ≡ Some ([], ts)
unfolding parameter value_type vector_type width
list_none ts e = ap (λ (b : Bool). all_of (cond b (some_of (read (commas parameter) ts)) (Some (None, ts)))) e

-- with which tokens a block begins
pub block_begins : (defs : Definitions) (ts : List Lexeme) → opens (block defs) ts ≡ (next_in (any_of Label ∷ []) ts || (opens (line (operation defs)) ts || opens (line (terminator defs)) ts))
unfolding block label
block_begins defs [] = refl
block_begins defs (t ∷ ts) =
    ap (λ (b : Bool). fits (t ∷ ts) (any_of Label) || b) (fits_append (t ∷ ts) (first (line (operation defs))) (first (line (terminator defs))))
    ∙ ap (λ (b : Bool). b || (opens (line (operation defs)) (t ∷ ts) || opens (line (terminator defs)) (t ∷ ts))) (sym (or_nothing (fits (t ∷ ts) (any_of Label))))
