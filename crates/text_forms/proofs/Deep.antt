-- A depth that is at least the number of the tokens is deep enough.
use Rattle.std.proofs.Common.{◌≡◌, ℕ, zero, suc, ◌≤◌, Bool, true, false, cond, List, [], ◌∷◌, length, Option, Some, None, refl, sym, ap, ◌∙◌, arith}
use Rattle.text_forms.specs.declared.TokenKind.TheVariants.{Comma}
use Rattle.text_forms.specs.Form.{Lexeme, Form, pair, either, mapped, many}
use Rattle.text_forms.specs.Reading.{◌>>=◌, Terminal, next_in, nullable, first, opens, read, read_each}
use Rattle.text_forms.proofs.Many.{shorter}
use Rattle.text_forms.proofs.Fronts.{within}
use Rattle.text_forms.specs.declared.Around.{Around}
use Rattle.text_forms.specs.declared.Around.TheVariants.{InArray, InStruct}
use Rattle.text_forms.specs.Nested.{TypeParts, PartsDecide, mark, comma_then, joined, struct_head, struct_end, remainder, struct_of, array_of, one_deeper, memory}

-- two forms that read the same from at most so many tokens
pub record Same {A : Type 0} (n : ℕ) (f g : Form A) : Type 0 where
  pub same : (ts : List Lexeme) → length ts ≤ n → read f ts ≡ read g ts

then_same : {A B : Type 0} (k l : A × List Lexeme → Option B) (a : Option (A × List Lexeme)) → ((x : A × List Lexeme) → a ≡ Some x → k x ≡ l x) → (a >>= k) ≡ (a >>= l)
then_same k l None h = refl
then_same k l (Some x) h = h x refl

same_mapped : {A B : Type 0} (n : ℕ) (h : A → B) (f g : Form A) → Same n f g → Same n (mapped h f) (mapped h g)
same_mapped n h f g s = record { same = λ ts le. ap (λ (r : Option _). r >>= λ x. Some (h x.0, x.1)) (s.same ts le) }

-- the second part differs
same_second : {A B : Type 0} (n : ℕ) (f : Form A) (g k : Form B) → Same n g k → Same n (pair f g) (pair f k)
same_second n f g k s = record {
  same = λ ts le. then_same (λ x. read g x.1 >>= λ y. Some ((x.0, y.0), y.1)) (λ x. read k x.1 >>= λ y. Some ((x.0, y.0), y.1)) (read f ts)
      (λ x e. let le1 = within f ts x e in ap (λ (r : Option _). r >>= λ y. Some ((x.0, y.0), y.1)) (s.same x.1 (omega arith)));
}

-- behind a token it may differ from as many tokens
same_later : {A B : Type 0} (n : ℕ) (f : Form A) (g k : Form B) → nullable f ≡ false → Same n g k → Same (suc n) (pair f g) (pair f k)
same_later n f g k z s = record {
  same = λ ts le. then_same (λ x. read g x.1 >>= λ y. Some ((x.0, y.0), y.1)) (λ x. read k x.1 >>= λ y. Some ((x.0, y.0), y.1)) (read f ts)
      (λ x e. let lt = shorter f ts x z e in ap (λ (r : Option _). r >>= λ y. Some ((x.0, y.0), y.1)) (s.same x.1 (omega arith)));
}

same_first : {A B : Type 0} (n : ℕ) (f k : Form A) (g : Form B) → Same n f k → Same n (pair f g) (pair k g)
same_first n f k g s = record { same = λ ts le. ap (λ (r : Option _). r >>= λ x. read g x.1 >>= λ y. Some ((x.0, y.0), y.1)) (s.same ts le) }

same_trans : {A : Type 0} (n : ℕ) (f g h : Form A) → Same n f g → Same n g h → Same n f h
same_trans n f g h p q = record { same = λ ts le. p.same ts le ∙ q.same ts le }

-- the second of two that begin with the same tokens
same_or : {A : Type 0} (n : ℕ) (f g k : Form A) → Same n g k → Same n (either f g) (either f k)
same_or n f g k s = record { same = λ ts le. ap (λ (r : Option _). cond (opens f ts) (read f ts) r) (s.same ts le) }

same_either : {A : Type 0} (n : ℕ) (f h g k : Form A) → first f ≡ first h → Same n f h → Same n g k → Same n (either f g) (either h k)
same_either n f h g k e s t = record { same = λ ts le. rw (s.same ts le, t.same ts le, e) refl }

each_same : {A : Type 0} (ss : List Terminal) (f g : Form A) (n : ℕ) → Same n f g → (k : ℕ) (ts : List Lexeme) → length ts ≤ n → read_each (next_in ss) (read f) k ts ≡ read_each (next_in ss) (read g) k ts
each_same ss f g n s zero ts le = refl
each_same ss f g n s (suc k) ts le =
    ap (λ (o : Option _). cond (next_in ss ts) o (Some ([], ts)))
    (then_same (λ x. read_each (next_in ss) (read f) k x.1 >>= λ y. Some (x.0 ∷ y.0, y.1)) (λ x. read_each (next_in ss) (read g) k x.1 >>= λ y. Some (x.0 ∷ y.0, y.1)) (read f ts)
    (λ x e. let le1 = within f ts x e in ap (λ (r : Option _). r >>= λ y. Some (x.0 ∷ y.0, y.1)) (each_same ss f g n s k x.1 (omega arith)))
    ∙ ap (λ (r : Option _). r >>= λ x. read_each (next_in ss) (read g) k x.1 >>= λ y. Some (x.0 ∷ y.0, y.1)) (s.same ts le))

same_many : {A : Type 0} (n : ℕ) (f g : Form A) → first f ≡ first g → Same n f g → Same n (many f) (many g)
same_many n f g e s = record { same = λ ts le. each_same (first f) f g n s (length ts) ts le ∙ ap (λ (ss : List Terminal). read_each (next_in ss) (read g) (length ts) ts) e }

same_commas : {A : Type 0} (n : ℕ) (f g : Form A) → Same n f g → Same n (many (comma_then f)) (many (comma_then g))
same_commas n f g s = same_many n (comma_then f) (comma_then g) refl (same_mapped n (λ x. x.1) (pair (mark Comma) f) (pair (mark Comma) g) (same_second n (mark Comma) f g s))

same_remainder : {N : Type 0} (l : TypeParts N) (n : ℕ) (w : Around) (f g : Form (List N)) → Same n f g → Same n (remainder l f w) (remainder l g w)
same_remainder l n InArray f g s = record { same = λ ts le. refl }
same_remainder l n (InStruct p) f g s = same_mapped n _ _ _ (same_first n _ _ (struct_end l p) (same_mapped n _ _ _ (same_commas n f g s)))

same_inner : {N : Type 0} (l : TypeParts N) (n : ℕ) (w : Around) (f g : Form (List N)) → Same n f g → Same n (joined f (remainder l f w)) (joined g (remainder l g w))
same_inner l n w f g s =
    same_mapped n _ (pair f (remainder l f w)) (pair g (remainder l g w)) (same_trans n (pair f (remainder l f w)) (pair f (remainder l g w)) (pair g (remainder l g w)) (same_second n f (remainder l f w) (remainder l g w) (same_remainder l n w f g s)) (same_first n f g (remainder l g w) s))

same_struct : {N : Type 0} (l : TypeParts N) (n : ℕ) (p : Bool) (f g : Form (List N)) → Same n f g → Same (suc n) (struct_of l p f) (struct_of l p g)
same_struct l n true f g s = same_mapped (suc n) _ _ _ (same_later n (struct_head l true) _ _ refl (same_or n (struct_end l true) _ _ (same_inner l n (InStruct true) f g s)))
same_struct l n false f g s = same_mapped (suc n) _ _ _ (same_later n (struct_head l false) _ _ refl (same_or n (struct_end l false) _ _ (same_inner l n (InStruct false) f g s)))

same_array : {N : Type 0} (l : TypeParts N) → PartsDecide l → (n : ℕ) (f g : Form (List N)) → Same n f g → Same (suc n) (array_of l f) (array_of l g)
same_array l q n f g s = same_mapped (suc n) _ _ _ (same_later n l.array_head _ _ q.array_takes (same_inner l n InArray f g s))

array_first : {N : Type 0} (l : TypeParts N) → PartsDecide l → (f g : Form (List N)) → first (array_of l f) ≡ first (array_of l g)
array_first l q f g = rw q.array_takes refl

same_deeper : {N : Type 0} (l : TypeParts N) → PartsDecide l → (n : ℕ) (f g : Form (List N)) → Same n f g → Same (suc n) (one_deeper l f) (one_deeper l g)
same_deeper l q n f g s =
    same_or (suc n) l.leaf _ _
    (same_either (suc n) (array_of l f) (array_of l g) _ _ (array_first l q f g) (same_array l q n f g s)
    (same_either (suc n) (struct_of l false f) (struct_of l false g) _ _ refl (same_struct l n false f g s) (same_struct l n true f g s)))

-- nothing begins where there is no token
nothing_read : {A : Type 0} (f : Form A) → nullable f ≡ false → read f [] ≡ None
nothing_read {A} f n =
    elim (read f []) as (λ r. read f [] ≡ r → r ≡ None) [
      | None ↦ λ e. refl
      | Some x ↦ λ e. let lt = shorter f [] x n e in absurd (omega arith)
    ] refl

nothing : {N : Type 0} (l : TypeParts N) → PartsDecide l → (m : Form (List N)) (ts : List Lexeme) → length ts ≤ 0 → read l.leaf ts ≡ read (one_deeper l m) ts
nothing l q m [] le = nothing_read l.leaf q.leaf_takes ∙ sym (nothing_read (one_deeper l m) (rw (q.leaf_takes, q.array_takes) refl))
nothing l q m (t ∷ ts) le = absurd (omega arith)

-- Deeper is the same.
pub deep_enough : {N : Type 0} (l : TypeParts N) → PartsDecide l → (d : ℕ) → Same d (memory l d) (memory l (suc d))
deep_enough l q zero = record { same = nothing l q (memory l zero) }
deep_enough l q (suc d) = same_deeper l q d (memory l d) (memory l (suc d)) (deep_enough l q d)

-- one deeper reads the same
pub unfolds : {N : Type 0} (l : TypeParts N) → PartsDecide l → (d : ℕ) (ts : List Lexeme) → length ts ≤ d → read (memory l d) ts ≡ read (one_deeper l (memory l d)) ts
unfolds l q d ts le = (deep_enough l q d).same ts le
