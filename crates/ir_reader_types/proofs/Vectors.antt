-- Reading a vector's type part after part is reading it whole.
use Rattle.std.proofs.Common.{◌≡◌, ℕ, List, Option, Some, None, refl, ◌∙◌}
use Rattle.std.specs.Prelude.{codes}
use Rattle.text_forms.specs.declared.TokenKind.TheVariants.{Number, Less, Greater}
use Rattle.text_forms.specs.Form.{Lexeme, one}
use Rattle.text_forms.specs.Reading.{◌>>=◌, read}
use Rattle.text_forms.specs.Gives.{mark}
use Rattle.ir_types.specs.declared.inst.Ty.{Ty}
use Rattle.ir_types.specs.declared.inst.Ty.TheVariants.{Vector}
use Rattle.text_forms.specs.Combined.{behind}
use Rattle.ir_types.specs.TypeForms.{width, lanes_of, vector_of, vector_type}
use Rattle.ir_reader_types.specs.Vectors.{vector_read}

-- the digits of the lanes, and the width
abbrev Written : Type 0
Written = List ℕ × ℕ

abbrev Marked : Type 0
Marked = Option (Unit {0} × List Lexeme)

abbrev Found : Type 0
Found = Option (Ty × List Lexeme)

abbrev marked_by : Option (List ℕ × List Lexeme) → Marked
marked_by o = o >>= λ m. Some (tt, m.1)

abbrev with_width : List ℕ → Option (ℕ × List Lexeme) → Option (Written × List Lexeme)
with_width d o = o >>= λ y. Some ((d, y.0), y.1)

abbrev closed : Written → Marked → Option ((Written × Unit {0}) × List Lexeme)
closed a o = o >>= λ y. Some ((a, y.0), y.1)

abbrev opened : List ℕ → Option (Written × List Lexeme) → Option ((List ℕ × Written) × List Lexeme)
opened u o = o >>= λ y. Some ((u, y.0), y.1)

abbrev inside : Option ((List ℕ × Written) × List Lexeme) → Option (Written × List Lexeme)
inside o = o >>= λ x. Some (x.0.1, x.1)

abbrev firsts : Option ((Written × Unit {0}) × List Lexeme) → Option (Written × List Lexeme)
firsts o = o >>= λ x. Some (x.0.0, x.1)

abbrev as_type : Option (Written × List Lexeme) → Found
as_type o = o >>= λ x. vector_of x.0 >>= λ t. Some (t, x.1)

abbrev counted : List Lexeme → Option ℕ → Option (ℕ × List Lexeme)
counted us l = l >>= λ n. Some (n, us)

-- the type of these lanes and this width, behind `>`
abbrev ended : ℕ → Marked → ℕ → Found
ended w o n = o >>= λ e. Some (Vector n w, e.1)

abbrev behind_lanes : Option (ℕ × List Lexeme) → ℕ → Found
behind_lanes q n = q >>= λ w. ended w.0 (read (mark Greater) w.1) n

abbrev no_type : ℕ → Found
no_type n = None

nothing : (l : Option ℕ) → (l >>= no_type) ≡ None
nothing None = refl
nothing (Some n) = refl

abbrev before : List Lexeme → Option Ty → Found
before us o = o >>= λ t. Some (t, us)

typed : (l : Option ℕ) (w : ℕ) (us : List Lexeme) → (l >>= λ n. before us (Some (Vector n w))) ≡ before us (l >>= λ n. Some (Vector n w))
typed None w us = refl
typed (Some n) w us = refl

goes_on : (l : Option ℕ) (us : List Lexeme) (f : List Lexeme → ℕ → Found) → (counted us l >>= λ n. f n.1 n.0) ≡ (l >>= f us)
goes_on None us f = refl
goes_on (Some n) us f = refl

by_greater : (u d : List ℕ) (w : ℕ) (o : Marked) → (lanes_of d >>= ended w o) ≡ as_type (inside (opened u (firsts (closed (d, w) o))))
by_greater u d w None = nothing (lanes_of d)
by_greater u d w (Some e) = typed (lanes_of d) w e.1

by_width : (u d : List ℕ) (q : Option (ℕ × List Lexeme)) → (lanes_of d >>= behind_lanes q) ≡ as_type (inside (opened u (firsts (with_width d q >>= λ p. closed p.0 (read (mark Greater) p.1)))))
by_width u d None = nothing (lanes_of d)
by_width u d (Some w) = by_greater u d w.0 (read (mark Greater) w.1)

pub vector_is : (ts : List Lexeme) → vector_read ts ≡ read vector_type ts
unfolding vector_type
vector_is ts = by_less (read (one Less) ts)
  where
    go : List Lexeme → Option (ℕ × List Lexeme)
    go us = read (behind (codes "x") width) us

    by_number : (u : List ℕ) (o : Option (List ℕ × List Lexeme)) → ((o >>= λ d. counted d.1 (lanes_of d.0)) >>= λ n. behind_lanes (go n.1) n.0) ≡ as_type (inside (opened u (firsts ((o >>= λ d. with_width d.0 (go d.1)) >>= λ p. closed p.0 (read (mark Greater) p.1)))))
    by_number u None = refl
    by_number u (Some d) = goes_on (lanes_of d.0) d.1 (λ us. behind_lanes (go us)) ∙ by_width u d.0 (go d.1)

    by_less : (o : Option (List ℕ × List Lexeme)) → (marked_by o >>= λ m. (read (one Number) m.1 >>= λ d. counted d.1 (lanes_of d.0)) >>= λ n. behind_lanes (go n.1) n.0) ≡ as_type (inside (o >>= λ m. opened m.0 (firsts ((read (one Number) m.1 >>= λ d. with_width d.0 (go d.1)) >>= λ p. closed p.0 (read (mark Greater) p.1)))))
    by_less None = refl
    by_less (Some m) = by_number m.0 (read (one Number) m.1)
