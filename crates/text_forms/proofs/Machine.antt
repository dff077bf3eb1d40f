-- Each step of the machine keeps what the whole gives.
use Rattle.std.proofs.Common.{◌≡◌, ℕ, ◌≤◌, Bool, true, false, cond, List, [], ◌∷◌, ◌++◌, length, Option, Some, None, refl, sym, ap, ◌∙◌, append_assoc, inl, inr}
use Rattle.std.proofs.lemmas.List.{append-nil}
use Rattle.text_forms.specs.declared.TokenKind.TheVariants.{Comma, RightBracket}
use Rattle.text_forms.specs.Form.{Lexeme, Form, pair, either, mapped, optional, many}
use Rattle.text_forms.specs.Reading.{◌>>=◌, Terminal, next_in, nullable, opens, read}
use Rattle.text_forms.proofs.Begins.{test}
use Rattle.text_forms.proofs.Many.{many_step, many_done}
use Rattle.text_forms.specs.declared.Around.{Around}
use Rattle.text_forms.specs.declared.Around.TheVariants.{InArray, InStruct}
use Rattle.text_forms.specs.Nested.{TypeParts, PartsDecide, mark, comma_then, joined, struct_head, struct_end, remainder, struct_of, array_of, one_deeper, memory, concat}
use Rattle.text_forms.specs.Machine.{begun, head, next, behind, then_read, finish, whole}
use Rattle.text_forms.proofs.Deep.{unfolds}
use Rattle.text_forms.proofs.NestedDecides.{array_begins}

behind_behind : {A : Type 0} (a b : List A) (r : Option (List A × List Lexeme)) → behind a (behind b r) ≡ behind (a ++ b) r
behind_behind a b None = refl
behind_behind a b (Some x) = ap (λ (zs : List _). Some (zs, x.1)) (sym (append_assoc a b x.0))

then_behind : {A : Type 0} (a : List A) (r : Option (List A × List Lexeme)) (k : List Lexeme → Option (List A × List Lexeme)) → then_read (behind a r) k ≡ behind a (then_read r k)
then_behind a None k = refl
then_behind a (Some x) k = sym (behind_behind a x.0 (k x.1))

finish_behind : {N : Type 0} (l : TypeParts N) (d : ℕ) (ws : List Around) (a : List N) (r : Option (List N × List Lexeme)) → finish l d ws (behind a r) ≡ behind a (finish l d ws r)
finish_behind l d [] a r = refl
finish_behind l d (w ∷ ws) a r = ap (λ (o : Option _). then_read o (read (remainder l (memory l d) w))) (finish_behind l d ws a r) ∙ then_behind a (finish l d ws r) (read (remainder l (memory l d) w))

finish_none : {N : Type 0} (l : TypeParts N) (d : ℕ) (ws : List Around) → finish l d ws None ≡ None
finish_none l d [] = refl
finish_none l d (w ∷ ws) = rw (finish_none l d ws) refl

finish_push : {N : Type 0} (l : TypeParts N) (d : ℕ) (ws : List Around) (w : Around) (r : Option (List N × List Lexeme)) → finish l d (ws ++ w ∷ []) r ≡ finish l d ws (then_read r (read (remainder l (memory l d) w)))
finish_push l d [] w r = refl
finish_push l d (v ∷ ws) w r = ap (λ (o : Option _). then_read o (read (remainder l (memory l d) v))) (finish_push l d ws w r)

abbrev Reads : Type 0 → Type 0
Reads A = Option (A × List Lexeme)

abbrev paired : {A B : Type 0} → A → Reads B → Reads (A × B)
paired a r = r >>= λ y. Some ((a, y.0), y.1)

abbrev two : {A B : Type 0} → Reads A → (List Lexeme → Reads B) → Reads (A × B)
two r k = r >>= λ x. paired x.0 (k x.1)

abbrev changed : {A B : Type 0} → (A → B) → Reads A → Reads B
changed h r = r >>= λ x. Some (h x.0, x.1)

parts_inner : {A : Type 0} (a : List A) (o : Reads (List A)) → changed (λ (z : List A × List A). z.0 ++ z.1) (paired a o) ≡ behind a o
parts_inner a None = refl
parts_inner a (Some y) = refl

parts : {A : Type 0} (r : Reads (List A)) (k : List Lexeme → Reads (List A)) → changed (λ (z : List A × List A). z.0 ++ z.1) (two r k) ≡ then_read r k
parts None k = refl
parts (Some x) k = parts_inner x.0 (k x.1)

joined_reads : {A : Type 0} (f g : Form (List A)) (ts : List Lexeme) → read (joined f g) ts ≡ then_read (read f ts) (read g)
joined_reads f g ts = parts (read f ts) (read g)

-- ---- the beginning of a type

-- behind the beginning of a type
abbrev inside_of : {N : Type 0} (l : TypeParts N) → ℕ → Option Around → List Lexeme → Option (List N × List Lexeme)
inside_of l d None us = Some ([], us)
inside_of l d (Some w) us = then_read (read (memory l d) us) (read (remainder l (memory l d) w))

abbrev then_inside : {N : Type 0} (l : TypeParts N) → ℕ → Option ((List N × Option Around) × List Lexeme) → Option (List N × List Lexeme)
then_inside l d r = r >>= λ x. behind x.0.0 (inside_of l d x.0.1 x.1)

leaf_case : {N : Type 0} (l : TypeParts N) (d : ℕ) (r : Option (List N × List Lexeme)) → r ≡ then_inside l d (changed (λ (zs : List N). (zs, None)) r)
leaf_case {N} l d None = refl
leaf_case {N} l d (Some x) = ap (λ (zs : List N). Some (zs, x.1)) (sym (append-nil x.0))

array_case : {N : Type 0} (l : TypeParts N) (d : ℕ) (r : Option (List N × List Lexeme)) → then_read r (read (joined (memory l d) (remainder l (memory l d) InArray))) ≡ then_inside l d (changed (λ (zs : List N). (zs, Some InArray)) r)
array_case l d None = refl
array_case l d (Some x) = ap (behind x.0) (joined_reads (memory l d) (remainder l (memory l d) InArray) x.1)

end_case : {N : Type 0} (l : TypeParts N) (d : ℕ) (p : Bool) (a : List N) (o : Option (List N × List Lexeme)) → behind a o ≡ then_inside l d (changed (λ (z : List N × Option (List N)). begun p z.0 z.1) (paired a (changed (λ (zs : List N). Some zs) o)))
end_case {N} l d p a None = refl
end_case {N} l d p a (Some y) = ap (λ (zs : List N). Some (zs, y.1)) (sym (append-nil (a ++ y.0)))

inner_case : {N : Type 0} (l : TypeParts N) (d : ℕ) (p b : Bool) (a : List N) (us : List Lexeme) → behind a (cond b (read (struct_end l p) us) (read (joined (memory l d) (remainder l (memory l d) (InStruct p))) us))
    ≡ then_inside l d (changed (λ (z : List N × Option (List N)). begun p z.0 z.1) (paired a (cond b (changed (λ (zs : List N). Some zs) (read (struct_end l p) us)) (Some (None, us)))))
inner_case l d p true a us = end_case l d p a (read (struct_end l p) us)
inner_case l d p false a us = ap (behind a) (joined_reads (memory l d) (remainder l (memory l d) (InStruct p)) us)

struct_case : {N : Type 0} (l : TypeParts N) (d : ℕ) (p : Bool) (r : Option (List N × List Lexeme)) → then_read r (read (either (struct_end l p) (joined (memory l d) (remainder l (memory l d) (InStruct p)))))
    ≡ then_inside l d (changed (λ (z : List N × Option (List N)). begun p z.0 z.1) (two r (read (optional (struct_end l p)))))
struct_case l d p None = refl
struct_case l d p (Some x) = inner_case l d p (opens (struct_end l p) x.1) x.0 x.1

struct_reads : {N : Type 0} (l : TypeParts N) (d : ℕ) (p : Bool) (ts : List Lexeme) → read (struct_of l p (memory l d)) ts ≡ then_inside l d (read (mapped (λ x. begun p x.0 x.1) (pair (struct_head l p) (optional (struct_end l p)))) ts)
struct_reads l d p ts = joined_reads (struct_head l p) (either (struct_end l p) (joined (memory l d) (remainder l (memory l d) (InStruct p)))) ts ∙ struct_case l d p (read (struct_head l p) ts)

array_reads : {N : Type 0} (l : TypeParts N) (d : ℕ) (ts : List Lexeme) → read (array_of l (memory l d)) ts ≡ then_inside l d (read (mapped (λ xs. (xs, Some InArray)) l.array_head) ts)
array_reads l d ts = joined_reads l.array_head (joined (memory l d) (remainder l (memory l d) InArray)) ts ∙ array_case l d (read l.array_head ts)

choice : {N A : Type 0} (b : Bool) (x y : A) (f : A → Option (List N × List Lexeme)) (u v : Option (List N × List Lexeme)) → u ≡ f x → v ≡ f y → cond b u v ≡ f (cond b x y)
choice true x y f u v p q = p
choice false x y f u v p q = q

head_reads : {N : Type 0} (l : TypeParts N) → PartsDecide l → (d : ℕ) (ts : List Lexeme) → read (one_deeper l (memory l d)) ts ≡ then_inside l d (read (head l) ts)
head_reads {N} l q d ts =
    let struct : Bool → Option (List N × List Lexeme) = λ p. read (struct_of l p (memory l d)) ts in
    choice (opens l.leaf ts) _ _ (then_inside l d) _ _ (leaf_case l d (read l.leaf ts))
    (ap (λ (ss : List Terminal). cond (next_in ss ts) (read (array_of l (memory l d)) ts) (cond (opens (struct_head l false) ts) (struct false) (struct true))) (array_begins l q (memory l d))
    ∙ choice (opens l.array_head ts) _ _ (then_inside l d) _ _ (array_reads l d ts)
    (choice (opens (struct_head l false) ts) _ _ (then_inside l d) _ _ (struct_reads l d false ts) (struct_reads l d true ts)))

-- ---- behind a type

abbrev then_next : {N : Type 0} (l : TypeParts N) → ℕ → Around → Option ((List N × Bool) × List Lexeme) → Option (List N × List Lexeme)
then_next l d w r = r >>= λ y. behind y.0.0 (inside_of l d (cond y.0.1 (Some w) None) y.1)

bracket_case : {N : Type 0} (l : TypeParts N) (d : ℕ) (r : Option (Unit {0} × List Lexeme)) → changed (λ (z : Unit {0}). []) r ≡ then_next l d InArray (changed (λ (z : Unit {0}). ([], false)) r)
bracket_case l d None = refl
bracket_case l d (Some x) = refl

close_case : {N : Type 0} (l : TypeParts N) (d : ℕ) (w : Around) (r : Option (List N × List Lexeme)) → behind [] r ≡ then_next l d w (changed (λ (zs : List N). (zs, false)) r)
close_case {N} l d w None = refl
close_case {N} l d w (Some x) = ap (λ (zs : List N). Some (zs, x.1)) (sym (append-nil x.0))

abbrev consed : {A : Type 0} → A → Reads (List A) → Reads (List A)
consed a z = z >>= λ y. Some (a ∷ y.0, y.1)

concat_case : {N : Type 0} (a : List N) (z : Reads (List (List N))) (k : List Lexeme → Reads (List N))
    → then_read (changed (λ (zs : List (List N)). concat zs) (consed a z)) k ≡ behind a (then_read (changed (λ (zs : List (List N)). concat zs) z) k)
concat_case a None k = refl
concat_case a (Some z) k = sym (behind_behind a (concat z.0) (k z.1))

behind_nothing : {A : Type 0} (r : Option (List A × List Lexeme)) → r ≡ behind [] r
behind_nothing None = refl
behind_nothing (Some x) = refl

abbrev commas_from : {N : Type 0} (l : TypeParts N) → ℕ → Reads (List N) → Reads (List (List N))
commas_from l d r = r >>= λ x. consed x.0 (read (many (comma_then (memory l d))) x.1)

abbrev flat : {N : Type 0} → Reads (List (List N)) → Reads (List N)
flat {N} r = changed (λ (zs : List (List N)). concat zs) r

abbrev second : {N : Type 0} → Reads (Unit {0} × List N) → Reads (List N)
second {N} r = changed (λ (z : Unit {0} × List N). z.1) r

more_inner : {N : Type 0} (l : TypeParts N) (d : ℕ) (p : Bool) (u : Unit {0}) (o : Reads (List N))
    → then_read (flat (commas_from l d (second (paired u o)))) (read (struct_end l p)) ≡ then_read o (read (remainder l (memory l d) (InStruct p)))
more_inner l d p u None = refl
more_inner l d p u (Some y) =
    concat_case y.0 (read (many (comma_then (memory l d))) y.1) (read (struct_end l p)) ∙ ap (behind y.0) (sym (joined_reads (mapped concat (many (comma_then (memory l d)))) (struct_end l p) y.1))

more_case : {N : Type 0} (l : TypeParts N) (d : ℕ) (p : Bool) (c : Reads (Unit {0}))
    → then_read (flat (commas_from l d (second (two c (read (memory l d)))))) (read (struct_end l p)) ≡ then_next l d (InStruct p) (changed (λ (z : Unit {0}). ([], true)) c)
more_case l d p None = refl
more_case l d p (Some x) = more_inner l d p x.0 (read (memory l d) x.1) ∙ behind_nothing (then_read (read (memory l d) x.1) (read (remainder l (memory l d) (InStruct p))))

next_reads : {N : Type 0} (l : TypeParts N) (d : ℕ) (w : Around) (ts : List Lexeme) → read (remainder l (memory l d) w) ts ≡ then_next l d w (read (next l w) ts)
next_reads {N} l d InArray ts = bracket_case l d (read (mark RightBracket) ts)
next_reads {N} l d (InStruct p) ts =
    let parts_read = joined_reads (mapped concat (many (comma_then (memory l d)))) (struct_end l p) ts in
    parts_read ∙
    elim (test (opens (mark Comma) ts)) [
      | inl i ↦ ap (λ (z : Reads (List (List N))). then_read (flat z) (read (struct_end l p))) (many_step (comma_then (memory l d)) ts refl i)
          ∙ more_case l d p (read (mark Comma) ts) ∙ ap (λ (b : Bool). then_next l d (InStruct p) (cond b (changed (λ (z : Unit {0}). ([], true)) (read (mark Comma) ts)) (changed (λ (zs : List N). (zs, false)) (read (struct_end l p) ts)))) (sym i)
      | inr i ↦ ap (λ (z : Reads (List (List N))). then_read (flat z) (read (struct_end l p))) (many_done (comma_then (memory l d)) ts i)
          ∙ close_case l d (InStruct p) (read (struct_end l p) ts) ∙ ap (λ (b : Bool). then_next l d (InStruct p) (cond b (changed (λ (z : Unit {0}). ([], true)) (read (mark Comma) ts)) (changed (λ (zs : List N). (zs, false)) (read (struct_end l p) ts)))) (sym i)
    ]

-- ---- the steps

begin_whole : {N : Type 0} (l : TypeParts N) → PartsDecide l → (d : ℕ) (front : List N) (ws : List Around) (ts : List Lexeme) → length ts ≤ d → whole l d front ws true ts ≡ behind front (finish l d ws (then_inside l d (read (head l) ts)))
begin_whole l q d front ws ts le = ap (λ (r : Option _). behind front (finish l d ws r)) (unfolds l q d ts le ∙ head_reads l q d ts)

pub leaf_step : {N : Type 0} (l : TypeParts N) → PartsDecide l → (d : ℕ) (front : List N) (ws : List Around) (ts us : List Lexeme) (xs : List N) → length ts ≤ d → read (head l) ts ≡ Some ((xs, None), us) → whole l d front ws true ts ≡ whole l d (front ++ xs) ws false us
leaf_step l q d front ws ts us xs le e =
    begin_whole l q d front ws ts le ∙ ap (λ (r : Option _). behind front (finish l d ws (then_inside l d r))) e ∙ ap (behind front) (finish_behind l d ws xs (Some ([], us))) ∙ behind_behind front xs (finish l d ws (Some ([], us)))

pub inside_step : {N : Type 0} (l : TypeParts N) → PartsDecide l → (d : ℕ) (front : List N) (ws : List Around) (w : Around) (ts us : List Lexeme) (xs : List N) → length ts ≤ d → read (head l) ts ≡ Some ((xs, Some w), us) → whole l d front ws true ts ≡ whole l d (front ++ xs) (ws ++ w ∷ []) true us
inside_step l q d front ws w ts us xs le e =
    let inner = inside_of l d (Some w) us in
    begin_whole l q d front ws ts le ∙ ap (λ (r : Option _). behind front (finish l d ws (then_inside l d r))) e ∙ ap (behind front) (finish_behind l d ws xs inner) ∙ behind_behind front xs (finish l d ws inner)
    ∙ ap (behind (front ++ xs)) (sym (finish_push l d ws w (read (memory l d) us)))

pub head_fails : {N : Type 0} (l : TypeParts N) → PartsDecide l → (d : ℕ) (front : List N) (ws : List Around) (ts : List Lexeme) → length ts ≤ d → read (head l) ts ≡ None → whole l d front ws true ts ≡ None
head_fails l q d front ws ts le e = begin_whole l q d front ws ts le ∙ ap (λ (r : Option _). behind front (finish l d ws (then_inside l d r))) e ∙ ap (behind front) (finish_none l d ws)

next_whole : {N : Type 0} (l : TypeParts N) (d : ℕ) (front : List N) (ws : List Around) (w : Around) (ts : List Lexeme) → whole l d front (ws ++ w ∷ []) false ts ≡ behind front (finish l d ws (then_next l d w (read (next l w) ts)))
next_whole l d front ws w ts = ap (behind front) (finish_push l d ws w (Some ([], ts))) ∙ ap (λ (r : Option _). behind front (finish l d ws r)) (sym (behind_nothing (read (remainder l (memory l d) w) ts)) ∙ next_reads l d w ts)

pub next_more : {N : Type 0} (l : TypeParts N) (d : ℕ) (front : List N) (ws : List Around) (w : Around) (ts us : List Lexeme) (xs : List N) → read (next l w) ts ≡ Some ((xs, true), us) → whole l d front (ws ++ w ∷ []) false ts ≡ whole l d (front ++ xs) (ws ++ w ∷ []) true us
next_more l d front ws w ts us xs e =
    let inner = inside_of l d (Some w) us in
    next_whole l d front ws w ts ∙ ap (λ (r : Option _). behind front (finish l d ws (then_next l d w r))) e ∙ ap (behind front) (finish_behind l d ws xs inner) ∙ behind_behind front xs (finish l d ws inner)
    ∙ ap (behind (front ++ xs)) (sym (finish_push l d ws w (read (memory l d) us)))

pub next_done : {N : Type 0} (l : TypeParts N) (d : ℕ) (front : List N) (ws : List Around) (w : Around) (ts us : List Lexeme) (xs : List N) → read (next l w) ts ≡ Some ((xs, false), us) → whole l d front (ws ++ w ∷ []) false ts ≡ whole l d (front ++ xs) ws false us
next_done l d front ws w ts us xs e =
    next_whole l d front ws w ts ∙ ap (λ (r : Option _). behind front (finish l d ws (then_next l d w r))) e ∙ ap (behind front) (finish_behind l d ws xs (Some ([], us))) ∙ behind_behind front xs (finish l d ws (Some ([], us)))

pub next_fails : {N : Type 0} (l : TypeParts N) (d : ℕ) (front : List N) (ws : List Around) (w : Around) (ts : List Lexeme) → read (next l w) ts ≡ None → whole l d front (ws ++ w ∷ []) false ts ≡ None
next_fails l d front ws w ts e = next_whole l d front ws w ts ∙ ap (λ (r : Option _). behind front (finish l d ws (then_next l d w r))) e ∙ ap (behind front) (finish_none l d ws)

-- the beginning of a type takes a token, and so does what is behind one
pub head_takes : {N : Type 0} (l : TypeParts N) → PartsDecide l → nullable (head l) ≡ false
head_takes l q = rw (q.leaf_takes, q.array_takes) refl

pub next_takes : {N : Type 0} (l : TypeParts N) (w : Around) → nullable (next l w) ≡ false
next_takes l InArray = refl
next_takes l (InStruct true) = refl
next_takes l (InStruct false) = refl
