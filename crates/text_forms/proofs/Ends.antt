-- What the parts of a form spell is read, where the next token does not go on with it.
use Rattle.std.proofs.Common.{◌≡◌, ℕ, zero, suc, ◌+◌, ◌≤◌, Bool, true, false, cond, not, ◌||◌, List, [], ◌∷◌, ◌++◌, length, Option, Some, None, refl, ap, ◌∙◌, subst, append_assoc, length-append, arith, ◌⊎◌, inl, inr}
use Rattle.std.proofs.lemmas.Bool.{and_from}
use Rattle.text_forms.specs.declared.TokenKind.{TokenKind}
use Rattle.text_forms.specs.Form.{Lexeme, exactly, one, one_such, same_text, entry, Spells, InOrder, IfThere}
use Rattle.text_forms.specs.Reading.{◌>>=◌, Terminal, of_all, for_all, read_by_word, read_one_such, read_pair, next_in, read_each, read_exactly, read_one, all_apart}
use Rattle.text_forms.proofs.Parts.{for_entry}
use Rattle.text_forms.proofs.Tokens.{kind_is, text_is}
use Rattle.text_forms.proofs.Begins.{Begins, opened, not_opened, not_empty, split_next, later, test}
use Rattle.text_forms.specs.declared.TokenKind.TheVariants.{Word}

abbrev pub Complete : {A : Type 0} (P : A → List Lexeme → Type 0) (r : List Lexeme → Option (A × List Lexeme)) → List Terminal → Type 0
Complete {A} P r ss = (a : A) (used rest : List Lexeme) → P a used → next_in ss rest ≡ false → r (used ++ rest) ≡ Some (a, rest)

pub not_parts : (x y : Bool) → not (x || y) ≡ true → (x ≡ false) × (y ≡ false)
not_parts true y e = absurd cc
not_parts false true e = absurd cc
not_parts false false e = (refl, refl)

pub is_not : (x : Bool) → not x ≡ true → x ≡ false
is_not true e = absurd cc
is_not false e = refl

abbrev there : {A : Type 0} → A → Option A
there x = Some x

entry_is : {A : Type 0} (x y : A) → there x ≡ there y → x ≡ y
entry_is x y e = cc

pub exactly_complete : (k : TokenKind) (s : List ℕ) → Complete (Spells (exactly k s)) (read_exactly k s) []
exactly_complete k s a used rest e _ = rw (e, and_from _ _ (kind_is k) (text_is s)) refl

pub one_complete : (k : TokenKind) → Complete (Spells (one k)) (read_one k) []
one_complete k a used rest e _ = rw (e, kind_is k) refl

pub one_such_complete : (k : TokenKind) (p : List ℕ → Bool) → Complete (Spells (one_such k p)) (read_one_such k p) []
one_such_complete k p a used rest e _ = rw (e.0, kind_is k, e.1) refl

pub ahead_complete : {A : Type 0} (k : TokenKind) (P : A → List Lexeme → Type 0) (r : List Lexeme → Option (A × List Lexeme)) (fa : List Terminal) → Complete P r fa
    → Complete (λ (c : List ℕ × A) ts. (rest : List Lexeme) × (ts ≡ record { kind = k; text = c.0 } ∷ rest) × P c.1 rest) (read_pair (read_one k) r) fa
ahead_complete k P r fa c a used rest s stop = rw (s.1, kind_is k, c a.1 s.0 rest s.2 stop) refl

pub pair_complete : {A B : Type 0} (P : A → List Lexeme → Type 0) (Q : B → List Lexeme → Type 0) (r : List Lexeme → Option (A × List Lexeme)) (s : List Lexeme → Option (B × List Lexeme)) (fa ga gf : List Terminal) (m : Bool)
    → all_apart fa gf ≡ true → ((b : B) (used : List Lexeme) → Q b used → Begins gf m used) → Complete P r fa → Complete Q s ga
    → Complete (λ (c : A × B) ts. (x : List Lexeme) × (y : List Lexeme) × (ts ≡ x ++ y) × P c.0 x × Q c.1 y) (read_pair r s) (ga ++ cond m fa [])
pair_complete {A} {B} P Q r s fa ga gf m h starts cp cq c used rest sp n =
    let p = split_next ga (cond m fa []) rest n in
    let behind : next_in fa (sp.1 ++ rest) ≡ false = not_opened fa gf m sp.1 rest h (starts c.1 sp.1 sp.4) (λ e. rw e at p.1) in
    let one : r (sp.0 ++ (sp.1 ++ rest)) ≡ Some (c.0, sp.1 ++ rest) = cp c.0 sp.0 (sp.1 ++ rest) sp.3 behind in
    let two : s (sp.1 ++ rest) ≡ Some (c.1, rest) = cq c.1 sp.1 rest sp.4 p.0 in
    let whole : used ++ rest ≡ sp.0 ++ (sp.1 ++ rest) = ap (λ (w : List Lexeme). w ++ rest) sp.2 ∙ append_assoc sp.0 sp.1 rest in
    rw (whole, one, two) refl

pub each_complete : {A : Type 0} (P : A → List Lexeme → Type 0) (r : List Lexeme → Option (A × List Lexeme)) (fa ff : List Terminal) (m : Bool)
    → all_apart fa ff ≡ true → m ≡ false → ((a : A) (used : List Lexeme) → P a used → Begins ff m used) → Complete P r fa
    → (xs : List A) (n : ℕ) (used rest : List Lexeme) → length used ≤ n → InOrder P xs used → next_in ff rest ≡ false → next_in fa rest ≡ false → read_each (next_in ff) r n (used ++ rest) ≡ Some (xs, rest)
each_complete P r fa ff m h em starts cp [] zero used rest le e n1 n2 = rw e refl
each_complete P r fa ff m h em starts cp [] (suc n) used rest le e n1 n2 = rw (e, n1) refl
each_complete P r fa ff m h em starts cp (a ∷ more) zero used rest le sp n1 n2 =
    let k = not_empty ff m sp.0 em (starts a sp.0 sp.3) in
    let l : length used ≡ length sp.0 + length sp.1 = ap length sp.2 ∙ length-append sp.0 sp.1 in
    absurd (omega (arith, k.1, l))
each_complete {A} P r fa ff m h em starts cp (a ∷ more) (suc n) used rest le sp n1 n2 =
    let k = not_empty ff m sp.0 em (starts a sp.0 sp.3) in
    let l : length used ≡ length sp.0 + length sp.1 = ap length sp.2 ∙ length-append sp.0 sp.1 in
    let shorter : length sp.1 ≤ n = omega (arith, k.1, l) in
    let two : read_each (next_in ff) r n (sp.1 ++ rest) ≡ Some (more, rest) = each_complete P r fa ff m h em starts cp more n sp.1 rest shorter sp.4 n1 n2 in
    let behind : next_in fa (sp.1 ++ rest) ≡ false = not_opened fa ff true sp.1 rest h (later P ff m starts more sp.1 sp.4) (λ _. n2) in
    let one : r (sp.0 ++ (sp.1 ++ rest)) ≡ Some (a, sp.1 ++ rest) = cp a sp.0 (sp.1 ++ rest) sp.3 behind in
    let whole : used ++ rest ≡ sp.0 ++ (sp.1 ++ rest) = ap (λ (w : List Lexeme). w ++ rest) sp.2 ∙ append_assoc sp.0 sp.1 rest in
    let open_now : next_in ff (sp.0 ++ (sp.1 ++ rest)) ≡ true = opened ff m sp.0 (sp.1 ++ rest) em (starts a sp.0 sp.3) in
    rw (whole, open_now, one, two) refl

pub either_complete : {A : Type 0} (P Q : A → List Lexeme → Type 0) (r s : List Lexeme → Option (A × List Lexeme)) (fa ga ff gf : List Terminal) (n m : Bool)
    → all_apart ff gf ≡ true → n ≡ false → m ≡ false → ((a : A) (used : List Lexeme) → P a used → Begins ff n used) → ((a : A) (used : List Lexeme) → Q a used → Begins gf m used)
    → Complete P r fa → Complete Q s ga → Complete (λ a ts. P a ts ⊎ Q a ts) (λ ts. cond (next_in ff ts) (r ts) (s ts)) (fa ++ ga)
either_complete P Q r s fa ga ff gf n m h en em sp sq cp cq a used rest (inl p) stop =
    let i = split_next fa ga rest stop in
    let o : next_in ff (used ++ rest) ≡ true = opened ff n used rest en (sp a used p) in
    rw o (cp a used rest p i.0)
either_complete P Q r s fa ga ff gf n m h en em sp sq cp cq a used rest (inr q) stop =
    let i = split_next fa ga rest stop in
    let o : next_in ff (used ++ rest) ≡ false = not_opened ff gf m used rest h (sq a used q) (λ e. absurd cc) in
    rw o (cq a used rest q i.1)

pub made_complete : {A B : Type 0} (P : A → List Lexeme → Type 0) (f : A → Option B) (r : List Lexeme → Option (A × List Lexeme)) (fa : List Terminal) → Complete P r fa
    → Complete (λ b ts. (a : A) × (f a ≡ Some b) × P a ts) (λ ts. r ts >>= λ x. f x.0 >>= λ b. Some (b, x.1)) fa
made_complete P f r fa cp b used rest s stop = rw (cp s.0 used rest s.2 stop, s.1) refl

pub mapped_complete : {A B : Type 0} (P : A → List Lexeme → Type 0) (f : A → B) (r : List Lexeme → Option (A × List Lexeme)) (fa : List Terminal) → Complete P r fa
    → Complete (λ b ts. (a : A) × (f a ≡ b) × P a ts) (λ ts. r ts >>= λ x. Some (f x.0, x.1)) fa
mapped_complete P f r fa cp b used rest s stop = rw (cp s.0 used rest s.2 stop, s.1) refl

pub entry_after : {K : Type 0} (table : List (List ℕ × K)) (g : K → List Terminal) (w : List ℕ) (k : K) (rest : List Lexeme) → entry table w ≡ Some k → next_in (of_all table g) rest ≡ false → next_in (g k) rest ≡ false
entry_after [] g w k rest e n = absurd cc
entry_after {K} (f ∷ fs) g w k rest e n =
    let p = split_next (g f.1) (of_all fs g) rest n in
    elim (test (same_text w f.0)) [ inl i ↦ subst (λ (j : K). next_in (g j) rest ≡ false) (entry_is f.1 k (rw i at e)) p.0 | inr i ↦ entry_after fs g w k rest (rw i at e) p.1 ]

pub by_word_complete : {K A : Type 0} (table : List (List ℕ × K)) (P : K → A → List Lexeme → Type 0) (r : K → List Lexeme → Option (A × List Lexeme)) (g : K → List Terminal) (q : K → Bool) → for_all table q ≡ true → ((k : K) → q k ≡ true → Complete (P k) (r k) (g k))
    → Complete (λ a ts. (w : List ℕ) × (k : K) × (rest : List Lexeme) × (ts ≡ record { kind = Word; text = w } ∷ rest) × (entry table w ≡ Some k) × P k a rest) (read_by_word table r) (of_all table g)
by_word_complete table P r g q h c a used rest s stop =
    let one : r s.1 (s.2 ++ rest) ≡ Some (a, rest) = c s.1 (for_entry table q s.0 s.1 s.4 h) a s.2 rest s.5 (entry_after table g s.0 s.1 rest s.4 stop) in
    rw (s.3, s.4, one) refl

pub optional_complete : {A : Type 0} (P : A → List Lexeme → Type 0) (r : List Lexeme → Option (A × List Lexeme)) (fa ff : List Terminal) (n : Bool) → n ≡ false → ((a : A) (used : List Lexeme) → P a used → Begins ff n used) → Complete P r fa
    → Complete (IfThere P) (λ ts. cond (next_in ff ts) (r ts >>= λ x. Some (Some x.0, x.1)) (Some (None, ts))) (ff ++ fa)
optional_complete P r fa ff n en sp cp None used rest e stop =
    let i = split_next ff fa rest stop in rw (e, i.0) refl
optional_complete P r fa ff n en sp cp (Some a) used rest s stop =
    let i = split_next ff fa rest stop in
    let o : next_in ff (used ++ rest) ≡ true = opened ff n used rest en (sp a used s) in
    rw (o, cp a used rest s i.1) refl
