-- Parameters with dots behind them, or dots in their place.
use Rattle.std.proofs.Common.{◌≡◌, ℕ, Bool, true, false, cond, ◌||◌, List, [], ◌∷◌, Option, Some, None, refl, sym, ap, ◌∙◌}
use Rattle.std.specs.Prelude.{is_some}
use Rattle.text_forms.specs.Form.{Lexeme, Form, pair, either, mapped, optional}
use Rattle.text_forms.specs.declared.TokenKind.TheVariants.{Comma, Dots}
use Rattle.text_forms.specs.Reading.{◌>>=◌, opens, read, any_of, next_in, fits}
use Rattle.text_forms.specs.Gives.{mark}
use Rattle.text_forms.specs.Walk.{walk, completed}
use Rattle.ir_types.specs.Tree.{ParamTree, WrittenParam}
use Rattle.text_forms.specs.Combined.{commas, marked}
use Rattle.ir_types.specs.TypeForms.{value_type, vector_type, width}
use Rattle.ir_types.specs.FlagForms.{or_else}
use Rattle.ir_types.specs.InstParts.{dotted}
use Rattle.ir_types.specs.FunctionForms.{parameter, dotted_parameters}
use Rattle.ir_types.specs.Numbered.{numbered_param}
use Rattle.ir_reader_functions.specs.Functions.{numbered_dotted, some_dotted_read}
use Rattle.ir_reader_functions.proofs.Lines.{or_nothing}
use Rattle.ir_reader_values.proofs.Chains.{alike, chained, completed_mapped}

abbrev Params : Type 0
Params = List WrittenParam × Bool

abbrev Found : Type 0
Found = Option (Params × List Lexeme)

-- dots in the place of parameters
abbrev alone : Form Params
alone = mapped (λ _. ([], true)) (mark Dots)

-- parameters, and dots behind them or none
abbrev behind_some : Form Params
behind_some = mapped dotted (pair (commas parameter) (optional (marked Comma (mark Dots))))

abbrev some_of : Found → Option (Option Params × List Lexeme)
some_of r = r >>= λ x. Some (Some x.0, x.1)

abbrev all_of : Option (Option Params × List Lexeme) → Found
all_of r = r >>= λ x. Some (or_else ([], false) x.0, x.1)

same : (r : Found) → all_of (some_of r) ≡ r
same None = refl
same (Some x) = refl

begins : (ts : List Lexeme) → opens (either alone behind_some) ts ≡ (next_in (any_of Dots ∷ []) ts || opens parameter ts)
unfolding parameter value_type vector_type width
begins [] = refl
begins (t ∷ ts) = ap (λ (b : Bool). b || opens parameter (t ∷ ts)) (sym (or_nothing (fits (t ∷ ts) (any_of Dots))))

abbrev whole : List Lexeme → Found → Bool → Found
whole ts r b = all_of (cond b (some_of r) (Some (None, ts)))

-- where dots stand next
pub dots_alone : (ts us : List Lexeme) → next_in (any_of Dots ∷ []) ts ≡ true → read (mark Dots) ts ≡ Some (tt, us) → read dotted_parameters ts ≡ Some (([], true), us)
unfolding dotted_parameters
dots_alone ts us e r =
    ap (whole ts (read (either alone behind_some) ts)) (begins ts ∙ ap (λ (b : Bool). b || opens parameter ts) e)
    ∙ same (read (either alone behind_some) ts)
    ∙ ap (λ (b : Bool). cond b (read alone ts) (read behind_some ts)) e
    ∙ ap (λ (o : Option (Unit {0} × List Lexeme)). o >>= λ x. Some (([], true), x.1)) r

-- where a parameter stands next
dotted_some : (ts : List Lexeme) → next_in (any_of Dots ∷ []) ts ≡ false → opens parameter ts ≡ true → read dotted_parameters ts ≡ read behind_some ts
unfolding dotted_parameters
dotted_some ts d e =
    ap (whole ts (read (either alone behind_some) ts)) (begins ts ∙ ap (λ (b : Bool). b || opens parameter ts) d ∙ e)
    ∙ same (read (either alone behind_some) ts)
    ∙ ap (λ (b : Bool). cond b (read alone ts) (read behind_some ts)) d

-- where neither does
pub dotted_none : (ts : List Lexeme) → next_in (any_of Dots ∷ []) ts ≡ false → opens parameter ts ≡ false → read dotted_parameters ts ≡ Some (([], false), ts)
unfolding dotted_parameters
dotted_none ts d e = ap (whole ts (read (either alone behind_some) ts)) (begins ts ∙ ap (λ (b : Bool). b || opens parameter ts) d ∙ e)

-- ---- numbered

abbrev dots : Form (Option (Unit {0}))
dots = optional (marked Comma (mark Dots))

abbrev with_dots : List ParamTree × ℕ → Option (Unit {0}) → Option ((List ParamTree × Bool) × ℕ)
with_dots p d = Some ((p.0, is_some d), p.1)

abbrev flagged : List ParamTree × ℕ → Option (Bool × List Lexeme) → Option (((List ParamTree × Bool) × ℕ) × List Lexeme)
flagged p o = o >>= λ d. Some (((p.0, d.0), p.1), d.1)

abbrev as_flag : Option (Option (Unit {0}) × List Lexeme) → Option (Bool × List Lexeme)
as_flag o = o >>= λ x. Some (is_some x.0, x.1)

some_read : (next : ℕ) (ts : List Lexeme) → some_dotted_read next ts ≡ completed (numbered_dotted next) (read behind_some ts)
some_read next ts =
    alike (completed (walk numbered_param next) (read (commas parameter) ts)) _ _ (λ p. each p.0 (read dots p.1))
    ∙ sym (completed_mapped (numbered_dotted next) dotted (pair (commas parameter) dots) ts ∙ chained (walk numbered_param next) with_dots (commas parameter) dots ts)
  where
    each : (p : List ParamTree × ℕ) (o : Option (Option (Unit {0}) × List Lexeme)) → flagged p (as_flag o) ≡ completed (with_dots p) o
    each p None = refl
    each p (Some x) = refl

pub some_dotted_is : (next : ℕ) (ts : List Lexeme) → next_in (any_of Dots ∷ []) ts ≡ false → opens parameter ts ≡ true → some_dotted_read next ts ≡ completed (numbered_dotted next) (read dotted_parameters ts)
some_dotted_is next ts d e = some_read next ts ∙ sym (ap (completed (numbered_dotted next)) (dotted_some ts d e))
