-- A line: an instruction, and the name of its result before it where one is written.
use Rattle.std.proofs.Common.{◌≡◌, ℕ, Bool, true, false, cond, ◌&&◌, ◌||◌, eqb, List, [], ◌∷◌, Option, Some, None, refl, sym, ap, ◌∙◌, true≢false}
use Rattle.text_forms.specs.declared.TokenKind.{TokenKind}
use Rattle.text_forms.specs.declared.TokenKind.TheVariants.{Local, Equal}
use Rattle.text_forms.specs.Form.{Lexeme, Form, kind_code}
use Rattle.text_forms.specs.Reading.{◌>>=◌, Terminal, any_of, fits, fits_one, next_in, marks_then, nullable, first, all_apart, read, opens}
use Rattle.text_forms.proofs.Begins.{opened, all_apart_none}
use Rattle.text_forms.proofs.Fronts.{front}
use Rattle.ir_types.specs.declared.name.Name.{Name}
use Rattle.ir_types.specs.declared.inst.Ty.{Ty}
use Rattle.ir_types.specs.declared.inst.Ty.TheVariants.{Int, Ptr, Vector, Void}
use Rattle.ir_types.specs.Tree.{InstTree}
use Rattle.ir_types.specs.Words.{operation_words, terminator_words}
use Rattle.ir_types.specs.InstForms.{operation, terminator}
use Rattle.ir_types.specs.FunctionForms.{line, named_by, with_result}
use Rattle.ir_types.specs.Numbered.{numbered_inst, named_result, next_after}
use Rattle.ir_types.specs.Offsets.{Definitions}
use Rattle.ir_reader_ops.specs.declared.inst.Place.{Place}
use Rattle.ir_reader_ops.specs.declared.inst.Place.TheVariants.{Inside, Last}
use Rattle.ir_reader_ops.specs.Words.{form_at}
use Rattle.ir_reader_ops.proofs.Beginnings.{fits_append}
use Rattle.ir_reader_functions.specs.Lines.{tok, result_next, Found, named_so, plainly}

-- where a form doesn't begin that takes a token, nothing is read
pub not_begun : {A : Type 0} (f : Form A) (ts : List Lexeme) → nullable f ≡ false → opens f ts ≡ false → read f ts ≡ None
not_begun {A} f ts n o = by (read f ts) refl
  where
    by : (r : Option (A × List Lexeme)) → read f ts ≡ r → r ≡ None
    by None e = refl
    by (Some x) e =
        let t = front f ts x e in
        let begun : opens f ts ≡ true = ap (λ (us : List Lexeme). opens f us) t.parts ∙ opened (first f) (nullable f) t.used x.1 n t.spelled in
        absurd (true≢false (sym begun ∙ o))

-- ---- which tokens fit

nothing_fits : (ss : List Terminal) → fits_one [] ss ≡ false
nothing_fits [] = refl
nothing_fits (s ∷ ss) = nothing_fits ss

and_false : (b : Bool) → (b && false) ≡ false
and_false true = refl
and_false false = refl

pub marks_fit : (k : TokenKind) (t : Lexeme) (ts : List Lexeme) (ss : List Terminal) → fits_one (t ∷ ts) (marks_then k ss) ≡ (eqb (kind_code t.kind) (kind_code k) && fits_one ts ss)
marks_fit k t ts [] = sym (and_false (eqb (kind_code t.kind) (kind_code k)))
marks_fit k t ts (s ∷ ss) = ap (λ (b : Bool). (eqb (kind_code t.kind) (kind_code k) && fits ts s) || b) (marks_fit k t ts ss) ∙ both (eqb (kind_code t.kind) (kind_code k)) (fits ts s) (fits_one ts ss)
  where
    both : (a b c : Bool) → ((a && b) || (a && c)) ≡ (a && (b || c))
    both true b c = refl
    both false b c = refl

fits_is_next : (ts : List Lexeme) (ss : List Terminal) → fits_one ts ss ≡ next_in ss ts
fits_is_next [] ss = nothing_fits ss
fits_is_next (t ∷ ts) ss = refl

pub or_nothing : (x : Bool) → (x || false) ≡ x
or_nothing true = refl
or_nothing false = refl

-- ---- lines of any form that takes a token

-- with which tokens the form begins behind `%name =`
abbrev behind_name : Form InstTree → List Terminal
behind_name f = marks_then Local (cond (nullable f) (any_of Equal ∷ []) (marks_then Equal (first f)))

abbrev takes : Form InstTree → Type 0
takes f = nullable f ≡ false

takes_name : (f : Form InstTree) → takes f → behind_name f ≡ marks_then Local (marks_then Equal (first f))
takes_name f n = ap (λ (b : Bool). marks_then Local (cond b (any_of Equal ∷ []) (marks_then Equal (first f)))) n

named_opens : (f : Form InstTree) (w v : List ℕ) (us : List Lexeme) → takes f → next_in (behind_name f) (tok Local w ∷ tok Equal v ∷ us) ≡ opens f us
named_opens f w v us n =
    ap (λ (ss : List Terminal). next_in ss (tok Local w ∷ tok Equal v ∷ us)) (takes_name f n)
    ∙ marks_fit Local (tok Local w) (tok Equal v ∷ us) (marks_then Equal (first f))
    ∙ marks_fit Equal (tok Equal v) us (first f)
    ∙ fits_is_next us (first f)

neither : (a b c : Bool) → ((a && b) || false) ≡ false → (a && (b && c)) ≡ false
neither true true c e = absurd cc
neither true false c e = refl
neither false b c e = refl

plain_opens : (f : Form InstTree) (ts : List Lexeme) → takes f → result_next ts ≡ false → next_in (behind_name f) ts ≡ false
plain_opens f ts n e = ap (λ (ss : List Terminal). next_in ss ts) (takes_name f n) ∙ by ts e
  where
    by : (ts : List Lexeme) → result_next ts ≡ false → next_in (marks_then Local (marks_then Equal (first f))) ts ≡ false
    by [] e = refl
    by (t ∷ []) e = marks_fit Local t [] (marks_then Equal (first f)) ∙ ap (λ (b : Bool). eqb (kind_code t.kind) (kind_code Local) && b) (nothing_fits (marks_then Equal (first f))) ∙ and_false (eqb (kind_code t.kind) (kind_code Local))
    by (t ∷ u ∷ us) e =
        marks_fit Local t (u ∷ us) (marks_then Equal (first f))
        ∙ ap (λ (b : Bool). eqb (kind_code t.kind) (kind_code Local) && b) (marks_fit Equal u us (first f))
        ∙ neither (eqb (kind_code t.kind) (kind_code Local)) (eqb (kind_code u.kind) (kind_code Equal)) (fits_one us (first f)) e

abbrev behind_equal : List ℕ → Found → Option ((List ℕ × InstTree) × List Lexeme)
behind_equal v r = r >>= λ y. Some ((v, y.0), y.1)

abbrev beside_name : List ℕ → Option ((List ℕ × InstTree) × List Lexeme) → Option ((List ℕ × (List ℕ × InstTree)) × List Lexeme)
beside_name w r = r >>= λ y. Some ((w, y.0), y.1)

abbrev with_its_name : Option ((List ℕ × (List ℕ × InstTree)) × List Lexeme) → Found
with_its_name r = r >>= λ x. with_result x.0 >>= λ b. Some (b, x.1)

same : (w v : List ℕ) (r : Found) → with_its_name (beside_name w (behind_equal v r)) ≡ named_so w v r
same w v None = refl
same w v (Some y) = refl

-- the form begins with no `%name`
abbrev begins_apart : Form InstTree → Type 0
begins_apart f = all_apart (first f) (any_of Local ∷ []) ≡ true

not_local : (f : Form InstTree) (w : List ℕ) (us : List Lexeme) → begins_apart f → opens f (tok Local w ∷ us) ≡ false
not_local f w us a = all_apart_none (tok Local w ∷ us) (first f) (any_of Local ∷ []) a refl

-- what is read behind `%name =`
read_named : (f : Form InstTree) (w v : List ℕ) (us : List Lexeme) → takes f → begins_apart f → read (line f) (tok Local w ∷ tok Equal v ∷ us) ≡ named_so w v (read f us)
read_named f w v us n a =
    let ts = tok Local w ∷ tok Equal v ∷ us in
    rw (named_opens f w v us n)
    (elim (opens f us) as (λ b. opens f us ≡ b → cond b (with_its_name (beside_name w (behind_equal v (read f us)))) (plainly (read f ts)) ≡ named_so w v (read f us)) [
      | true ↦ λ e. same w v (read f us)
      | false ↦ λ e. ap plainly (not_begun f ts n (not_local f w (tok Equal v ∷ us) a)) ∙ sym (ap (named_so w v) (not_begun f us n e))
    ] refl)

-- what is read where no `%name =` stands next
read_plain : (f : Form InstTree) (ts : List Lexeme) → takes f → result_next ts ≡ false → read (line f) ts ≡ plainly (read f ts)
read_plain f ts n e = rw (plain_opens f ts n e) refl

-- with which tokens a line begins

begins_named : (f : Form InstTree) (w v : List ℕ) (us : List Lexeme) → takes f → begins_apart f → opens (line f) (tok Local w ∷ tok Equal v ∷ us) ≡ opens f us
begins_named f w v us n a =
    let ts = tok Local w ∷ tok Equal v ∷ us in
    fits_append ts (behind_name f) (first f)
    ∙ ap (λ (b : Bool). b || fits_one ts (first f)) (named_opens f w v us n)
    ∙ ap (λ (b : Bool). opens f us || b) (not_local f w (tok Equal v ∷ us) a)
    ∙ or_nothing (opens f us)

begins_plain : (f : Form InstTree) (ts : List Lexeme) → takes f → result_next ts ≡ false → opens (line f) ts ≡ opens f ts
begins_plain f [] n e = refl
begins_plain f (t ∷ ts) n e = fits_append (t ∷ ts) (behind_name f) (first f) ∙ ap (λ (b : Bool). b || fits_one (t ∷ ts) (first f)) (plain_opens f (t ∷ ts) n e)

-- ---- at each place of a block

place_takes : (defs : Definitions) (place : Place) → takes (form_at defs place)
unfolding operation terminator
place_takes defs Inside = refl
place_takes defs Last = refl

place_apart : (defs : Definitions) (place : Place) → begins_apart (form_at defs place)
unfolding operation operation_words terminator terminator_words
place_apart defs Inside = refl
place_apart defs Last = refl

module _ (defs : Definitions) (place : Place) where
  pub named_at : (w v : List ℕ) (us : List Lexeme) → read (line (form_at defs place)) (tok Local w ∷ tok Equal v ∷ us) ≡ named_so w v (read (form_at defs place) us)
  named_at w v us = read_named (form_at defs place) w v us (place_takes defs place) (place_apart defs place)

  pub plain_at : (ts : List Lexeme) → result_next ts ≡ false → read (line (form_at defs place)) ts ≡ plainly (read (form_at defs place) ts)
  plain_at ts e = read_plain (form_at defs place) ts (place_takes defs place) e

  pub line_begins_named : (w v : List ℕ) (us : List Lexeme) → opens (line (form_at defs place)) (tok Local w ∷ tok Equal v ∷ us) ≡ opens (form_at defs place) us
  line_begins_named w v us = begins_named (form_at defs place) w v us (place_takes defs place) (place_apart defs place)

  pub line_begins_plain : (ts : List Lexeme) → result_next ts ≡ false → opens (line (form_at defs place)) ts ≡ opens (form_at defs place) ts
  line_begins_plain ts e = begins_plain (form_at defs place) ts (place_takes defs place) e

-- ---- results

-- a written name is kept, and a number in it counts
named_written : (next : ℕ) (t : Ty) (n : Name) → named_result next t (Some n) ≡ Some (Some n, next_after next n)
named_written next (Int w) n = refl
named_written next Ptr n = refl
named_written next (Vector l w) n = refl
named_written next Void n = refl

pub numbered_named : (next : ℕ) (n : Name) (i : InstTree) → numbered_inst next (named_by i (Some n)) ≡ Some (named_by i (Some n), next_after next n)
numbered_named next n i = ap (λ (r : Option _). r >>= λ x. Some (named_by i x.0, x.1)) (named_written next i.ty n)
