-- What the parts of a form read is spelled so.
use Rattle.std.proofs.Common.{◌≡◌, ℕ, zero, suc, Bool, true, false, cond, List, [], ◌∷◌, ◌++◌, Option, Some, None, eqb, refl, sym, ap, ◌∙◌, subst, append_assoc, ◌⊎◌, inl, inr}
use Rattle.std.proofs.lemmas.Bool.{and_parts}
use Rattle.std.proofs.lemmas.Option.{cond_some}
use Rattle.text_forms.specs.declared.TokenKind.{TokenKind}
use Rattle.text_forms.specs.Form.{kind_code, Stops, same_text, Lexeme, exactly, one, one_such, enclosed, up_to, entry, Spells, InOrder, IfThere}
use Rattle.text_forms.specs.Reading.{◌>>=◌, fits, this, any_of, any_such, read, read_each, read_one, read_one_such, read_pair, read_exactly, read_by_word, read_inside, read_up_to, for_all}
use Rattle.text_forms.specs.declared.TokenKind.TheVariants.{Word}
use Rattle.text_forms.proofs.Nests.{inside_used, up_to_used}
use Rattle.text_forms.proofs.Tokens.{same_kind, is_text}

-- the front of ts that has P, and the rest
pub record Takes {A : Type 0} (P : A → List Lexeme → Type 0) (ts : List Lexeme) (a : A) (rest : List Lexeme) : Type 0 where
  pub used : List Lexeme
  pub parts : ts ≡ used ++ rest
  pub spelled : P a used

pub bind_some : {A B : Type 0} (r : Option A) (f : A → Option B) (y : B) → (r >>= f) ≡ Some y → (x : A) × (r ≡ Some x) × (f x ≡ Some y)
bind_some None f y e = absurd cc
bind_some (Some x) f y e = (x, refl, e)

pub both_parts : (ts x u y v : List Lexeme) → ts ≡ x ++ u → u ≡ y ++ v → ts ≡ (x ++ y) ++ v
both_parts ts x u y v e d = e ∙ ap (λ (w : List Lexeme). x ++ w) d ∙ sym (append_assoc x y v)

abbrev pub there : {A : Type 0} → A → Option A
there x = Some x

abbrev no_value : {A : Type 0} → Option A
no_value = None

pub some_is : {A : Type 0} (x y : A) → there x ≡ there y → x ≡ y
some_is x y e = cc

abbrev pub Sound : {A : Type 0} (P : A → List Lexeme → Type 0) (r : List Lexeme → Option (A × List Lexeme)) → Type 0
Sound {A} P r = (ts : List Lexeme) (x : A × List Lexeme) → r ts ≡ Some x → Takes P ts x.0 x.1

abbrev pub lexeme : TokenKind → List ℕ → Lexeme
lexeme k s = record { kind = k; text = s }

pub exactly_sound : (k : TokenKind) (s : List ℕ) → Sound (Spells (exactly k s)) (read_exactly k s)
exactly_sound k s [] x e = absurd cc
exactly_sound k s (t ∷ ts) x e =
    let p = cond_some (fits (t ∷ ts) (this k s)) (tt, ts) x e in
    let q = and_parts (eqb (kind_code t.kind) (kind_code k)) (same_text t.text s) p.0 in
    let ek = same_kind t.kind k q.0 in
    let es = is_text t.text s q.1 in
    let et : t ≡ lexeme k s = ap (λ (m : TokenKind). lexeme m t.text) ek ∙ ap (lexeme k) es in
    let er : ts ≡ x.1 = ap (λ (y : Unit {0} × List Lexeme). y.1) p.1 in
    record { used = t ∷ []; parts = ap (λ (y : List Lexeme). t ∷ y) er; spelled = ap (λ (y : Lexeme). y ∷ []) et }

test : (b : Bool) → (b ≡ true) ⊎ (b ≡ false)
test true = inl refl
test false = inr refl

none_there : {A : Type 0} (x : A) → no_value {A = A} ≡ there x → ⊥
none_there x e = cc

pub one_sound : (k : TokenKind) → Sound (Spells (one k)) (read_one k)
one_sound k [] x e = absurd cc
one_sound k (t ∷ ts) x e =
    let p = cond_some (fits (t ∷ ts) (any_of k)) (t.text, ts) x e in
    let ek = same_kind t.kind k p.0 in
    let et : t ≡ lexeme k t.text = ap (λ (m : TokenKind). lexeme m t.text) ek in
    let made : List ℕ × List Lexeme = (t.text, ts) in
    subst (λ (y : List ℕ × List Lexeme). Takes (Spells (one k)) (t ∷ ts) y.0 y.1) (some_is made x (rw p.0 at e)) (record { used = t ∷ []; parts = refl; spelled = ap (λ (y : Lexeme). y ∷ []) et })

pub one_such_sound : (k : TokenKind) (p : List ℕ → Bool) → Sound (Spells (one_such k p)) (read_one_such k p)
one_such_sound k p [] x e = absurd cc
one_such_sound k p (t ∷ ts) x e =
    let c = cond_some (fits (t ∷ ts) (any_such k p)) (t.text, ts) x e in
    let q = and_parts (eqb (kind_code t.kind) (kind_code k)) (p t.text) c.0 in
    let et : t ≡ lexeme k t.text = ap (λ (m : TokenKind). lexeme m t.text) (same_kind t.kind k q.0) in
    subst (λ (y : List ℕ × List Lexeme). Takes (Spells (one_such k p)) (t ∷ ts) y.0 y.1) c.1 (record { used = t ∷ []; parts = refl; spelled = (ap (λ (y : Lexeme). y ∷ []) et, q.1) })

pub ahead_sound : {A : Type 0} (k : TokenKind) (P : A → List Lexeme → Type 0) (r : List Lexeme → Option (A × List Lexeme)) → Sound P r
    → Sound (λ (c : List ℕ × A) ts. (rest : List Lexeme) × (ts ≡ lexeme k c.0 ∷ rest) × P c.1 rest) (read_pair (read_one k) r)
ahead_sound {A} k P r h ts x e =
    let a = bind_some (read_one k ts) (λ x. r x.1 >>= λ y. Some ((x.0, y.0), y.1)) x e in
    let b = bind_some (r a.0.1) (λ y. Some ((a.0.0, y.0), y.1)) x a.2 in
    let made : (List ℕ × A) × List Lexeme = ((a.0.0, b.0.0), b.0.1) in
    let t0 = one_sound k ts a.0 a.1 in
    let t1 = h a.0.1 b.0 b.1 in
    subst (λ (y : (List ℕ × A) × List Lexeme). Takes (λ (c : List ℕ × A) ts. (rest : List Lexeme) × (ts ≡ lexeme k c.0 ∷ rest) × P c.1 rest) ts y.0 y.1) (some_is made x b.2)
    (record { used = lexeme k a.0.0 ∷ t1.used; parts = t0.parts ∙ ap (λ (l : List Lexeme). l ++ a.0.1) t0.spelled ∙ ap (λ (l : List Lexeme). lexeme k a.0.0 ∷ l) t1.parts; spelled = (t1.used, refl, t1.spelled) })

pub enclosed_sound : (o c : TokenKind) → Sound (Spells (enclosed o c)) (read (enclosed o c))
enclosed_sound o c ts x e =
    let a = bind_some (read_one o ts) (λ x. read_inside c [] x.1 >>= λ y. Some (lexeme o x.0 ∷ y.0, y.1)) x e in
    let b = bind_some (read_inside c [] a.0.1) (λ y. Some (lexeme o a.0.0 ∷ y.0, y.1)) x a.2 in
    let t0 = one_sound o ts a.0 a.1 in
    let n = inside_used c [] a.0.1 b.0 b.1 in
    let whole : List Lexeme = lexeme o a.0.0 ∷ (n.0 ++ lexeme c n.1 ∷ []) in
    let made : List Lexeme × List Lexeme = (lexeme o a.0.0 ∷ b.0.0, b.0.1) in
    subst (λ (y : List Lexeme × List Lexeme). Takes (Spells (enclosed o c)) ts y.0 y.1) (some_is made x b.2)
    (record {
      used = whole;
      parts = t0.parts ∙ ap (λ (l : List Lexeme). l ++ a.0.1) t0.spelled ∙ ap (λ (l : List Lexeme). lexeme o a.0.0 ∷ l) (n.2 ∙ sym (append_assoc n.0 (lexeme c n.1 ∷ []) b.0.1));
      spelled = (a.0.0, n.0, n.1, refl, n.3, ap (λ (l : List Lexeme). lexeme o a.0.0 ∷ l) n.4);
    })

pub up_to_sound : (st : Stops) → Sound (Spells (up_to st)) (read_up_to st [])
up_to_sound st ts x e = let n = up_to_used st [] ts x e in record { used = n.0; parts = n.1; spelled = (n.2, n.3) }

pub by_word_sound : {K A : Type 0} (table : List (List ℕ × K)) (P : K → A → List Lexeme → Type 0) (r : K → List Lexeme → Option (A × List Lexeme)) → ((w : List ℕ) (k : K) → entry table w ≡ Some k → Sound (P k) (r k))
    → Sound (λ a ts. (w : List ℕ) × (k : K) × (rest : List Lexeme) × (ts ≡ lexeme Word w ∷ rest) × (entry table w ≡ Some k) × P k a rest) (read_by_word table r)
by_word_sound table P r h [] x e = absurd cc
by_word_sound table P r h (t ∷ ts) x e =
    elim (test (eqb (kind_code t.kind) (kind_code Word))) [
      | inl i ↦
          let a = bind_some (entry table t.text) (λ k. r k ts) x (rw i at e) in
          let s = h t.text a.0 a.1 ts x a.2 in
          let et : t ≡ lexeme Word t.text = ap (λ (m : TokenKind). lexeme m t.text) (same_kind t.kind Word i) in
          record { used = t ∷ s.used; parts = ap (λ (l : List Lexeme). t ∷ l) s.parts; spelled = (t.text, a.0, s.used, ap (λ (u : Lexeme). u ∷ s.used) et, a.1, s.spelled) }
      | inr i ↦ absurd (none_there x (rw i at e))
    ]

pub each_sound : {A : Type 0} (P : A → List Lexeme → Type 0) (p : List Lexeme → Bool) (r : List Lexeme → Option (A × List Lexeme)) → Sound P r → (n : ℕ) → Sound (InOrder P) (read_each p r n)
each_sound {A} P p r h zero ts x e =
    let made : List A × List Lexeme = ([], ts) in
    subst (λ (y : List A × List Lexeme). Takes (InOrder P) ts y.0 y.1) (some_is made x e) (record { used = []; parts = refl; spelled = refl })
each_sound {A} P p r h (suc n) ts x e =
    elim (p ts) as (λ b. cond b (r ts >>= λ x. read_each p r n x.1 >>= λ y. Some (x.0 ∷ y.0, y.1)) (Some ([], ts)) ≡ Some x → Takes (InOrder P) ts x.0 x.1) [
      | true ↦ λ e1.
          let a = bind_some (r ts) (λ x. read_each p r n x.1 >>= λ y. Some (x.0 ∷ y.0, y.1)) x e1 in
          let b = bind_some (read_each p r n a.0.1) (λ y. Some (a.0.0 ∷ y.0, y.1)) x a.2 in
          let made : List A × List Lexeme = (a.0.0 ∷ b.0.0, b.0.1) in
          let t0 = h ts a.0 a.1 in
          let t1 = each_sound P p r h n a.0.1 b.0 b.1 in
          subst (λ (y : List A × List Lexeme). Takes (InOrder P) ts y.0 y.1) (some_is made x b.2)
          (record { used = t0.used ++ t1.used; parts = both_parts ts t0.used a.0.1 t1.used b.0.1 t0.parts t1.parts; spelled = (t0.used, t1.used, refl, t0.spelled, t1.spelled) })
      | false ↦ λ e1.
          let made : List A × List Lexeme = ([], ts) in
          subst (λ (y : List A × List Lexeme). Takes (InOrder P) ts y.0 y.1) (some_is made x e1) (record { used = []; parts = refl; spelled = refl })
    ] e

pub pair_sound : {A B : Type 0} (P : A → List Lexeme → Type 0) (Q : B → List Lexeme → Type 0) (r : List Lexeme → Option (A × List Lexeme)) (s : List Lexeme → Option (B × List Lexeme)) → Sound P r → Sound Q s
    → Sound (λ (c : A × B) ts. (x : List Lexeme) × (y : List Lexeme) × (ts ≡ x ++ y) × P c.0 x × Q c.1 y) (read_pair r s)
pair_sound {A} {B} P Q r s h k ts x e =
    let a = bind_some (r ts) (λ x. s x.1 >>= λ y. Some ((x.0, y.0), y.1)) x e in
    let b = bind_some (s a.0.1) (λ y. Some ((a.0.0, y.0), y.1)) x a.2 in
    let made : (A × B) × List Lexeme = ((a.0.0, b.0.0), b.0.1) in
    let t0 = h ts a.0 a.1 in
    let t1 = k a.0.1 b.0 b.1 in
    subst (λ (y : (A × B) × List Lexeme). Takes (λ (c : A × B) ts. (u : List Lexeme) × (v : List Lexeme) × (ts ≡ u ++ v) × P c.0 u × Q c.1 v) ts y.0 y.1) (some_is made x b.2)
    (record { used = t0.used ++ t1.used; parts = both_parts ts t0.used a.0.1 t1.used b.0.1 t0.parts t1.parts; spelled = (t0.used, t1.used, refl, t0.spelled, t1.spelled) })

pub either_sound : {A : Type 0} (P Q : A → List Lexeme → Type 0) (p : List Lexeme → Bool) (r s : List Lexeme → Option (A × List Lexeme)) → Sound P r → Sound Q s → Sound (λ a ts. P a ts ⊎ Q a ts) (λ ts. cond (p ts) (r ts) (s ts))
either_sound P Q p r s h k ts x e =
    elim (p ts) as (λ b. cond b (r ts) (s ts) ≡ Some x → Takes (λ a ts. P a ts ⊎ Q a ts) ts x.0 x.1) [
      | true ↦ λ e1. let t = h ts x e1 in record { used = t.used; parts = t.parts; spelled = inl t.spelled }
      | false ↦ λ e1. let t = k ts x e1 in record { used = t.used; parts = t.parts; spelled = inr t.spelled }
    ] e

pub made_sound : {A B : Type 0} (P : A → List Lexeme → Type 0) (f : A → Option B) (r : List Lexeme → Option (A × List Lexeme)) → Sound P r → Sound (λ b ts. (a : A) × (f a ≡ Some b) × P a ts) (λ ts. r ts >>= λ x. f x.0 >>= λ b. Some (b, x.1))
made_sound {A} {B} P f r h ts x e =
    let a = bind_some (r ts) (λ x. f x.0 >>= λ b. Some (b, x.1)) x e in
    let b = bind_some (f a.0.0) (λ b. Some (b, a.0.1)) x a.2 in
    let made : B × List Lexeme = (b.0, a.0.1) in
    let t = h ts a.0 a.1 in
    subst (λ (y : B × List Lexeme). Takes (λ b ts. (a : A) × (f a ≡ Some b) × P a ts) ts y.0 y.1) (some_is made x b.2) (record { used = t.used; parts = t.parts; spelled = (a.0.0, b.1, t.spelled) })

pub mapped_sound : {A B : Type 0} (P : A → List Lexeme → Type 0) (f : A → B) (r : List Lexeme → Option (A × List Lexeme)) → Sound P r → Sound (λ b ts. (a : A) × (f a ≡ b) × P a ts) (λ ts. r ts >>= λ x. Some (f x.0, x.1))
mapped_sound {A} {B} P f r h ts x e =
    let a = bind_some (r ts) (λ x. Some (f x.0, x.1)) x e in
    let made : B × List Lexeme = (f a.0.0, a.0.1) in
    let t = h ts a.0 a.1 in
    subst (λ (y : B × List Lexeme). Takes (λ b ts. (a : A) × (f a ≡ b) × P a ts) ts y.0 y.1) (some_is made x a.2) (record { used = t.used; parts = t.parts; spelled = (a.0.0, refl, t.spelled) })

pub optional_sound : {A : Type 0} (P : A → List Lexeme → Type 0) (p : List Lexeme → Bool) (r : List Lexeme → Option (A × List Lexeme)) → Sound P r → Sound (IfThere P) (λ ts. cond (p ts) (r ts >>= λ x. Some (Some x.0, x.1)) (Some (None, ts)))
optional_sound {A} P p r h ts x e =
    elim (p ts) as (λ b. cond b (r ts >>= λ x. Some (Some x.0, x.1)) (Some (None, ts)) ≡ Some x → Takes (IfThere P) ts x.0 x.1) [
      | true ↦ λ e1.
          let a = bind_some (r ts) (λ x. Some (Some x.0, x.1)) x e1 in
          let made : Option A × List Lexeme = (Some a.0.0, a.0.1) in
          let t = h ts a.0 a.1 in
          subst (λ (y : Option A × List Lexeme). Takes (IfThere P) ts y.0 y.1) (some_is made x a.2) (record { used = t.used; parts = t.parts; spelled = t.spelled })
      | false ↦ λ e1.
          let made : Option A × List Lexeme = (None, ts) in
          subst (λ (y : Option A × List Lexeme). Takes (IfThere P) ts y.0 y.1) (some_is made x e1) (record { used = []; parts = refl; spelled = refl })
    ] e

pub for_entry : {K : Type 0} (table : List (List ℕ × K)) (q : K → Bool) (w : List ℕ) (k : K) → entry table w ≡ Some k → for_all table q ≡ true → q k ≡ true
for_entry [] q w k e h = absurd cc
for_entry {K} (f ∷ fs) q w k e h =
    let p = and_parts (q f.1) (for_all fs q) h in
    elim (test (same_text w f.0)) [ inl i ↦ subst (λ (j : K). q j ≡ true) (some_is f.1 k (rw i at e)) p.0 | inr i ↦ for_entry fs q w k (rw i at e) p.1 ]
