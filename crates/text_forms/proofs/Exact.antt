-- A form is read exactly as it is spelled.
use Rattle.std.proofs.Common.{◌≡◌, true, cond, eqb, List, [], ◌++◌, length, Option, Some, None, refl, sym, ap, ◌∙◌, subst}
use Rattle.std.proofs.lemmas.Bool.{eqb-true}
use Rattle.std.proofs.lemmas.List.{append-nil, nil_from_length}
use Rattle.std.proofs.lemmas.Option.{cond_some}
use Rattle.text_forms.specs.Form.{Lexeme, Form, Spells}
use Rattle.text_forms.specs.Reading.{read, read_whole, decides}
use Rattle.text_forms.proofs.Sound.{sound, bind_some}
use Rattle.text_forms.proofs.Complete.{complete}

-- What is read is spelled so.
pub read_spells : {A : Type 0} (f : Form A) → decides f ≡ true → (a : A) (ts : List Lexeme) → read_whole f ts ≡ Some a → Spells f a ts
read_spells {A} f d a ts e =
    let b = bind_some (read f ts) (λ x. cond (eqb (length x.1) 0) (Some x.0) None) a e in
    let g = cond_some (eqb (length b.0.1) 0) b.0.0 a b.2 in
    let nothing : b.0.1 ≡ [] = nil_from_length b.0.1 (eqb-true _ _ g.0) in
    let t = sound f d ts b.0 b.1 in
    let all : t.used ≡ ts = sym (append-nil t.used) ∙ ap (λ (r : List Lexeme). t.used ++ r) (sym nothing) ∙ sym t.parts in
    subst (λ (x : A). Spells f x ts) g.1 (subst (λ (u : List Lexeme). Spells f b.0.0 u) all t.spelled)

-- What is spelled so is read.
pub spells_read : {A : Type 0} (f : Form A) → decides f ≡ true → (a : A) (ts : List Lexeme) → Spells f a ts → read_whole f ts ≡ Some a
spells_read f d a ts s =
    let e : read f ts ≡ Some (a, []) = ap (read f) (sym (append-nil ts)) ∙ complete f d a ts [] s refl in
    rw e refl

-- What is not read is not spelled.
pub not_read : {A : Type 0} (f : Form A) → decides f ≡ true → (ts : List Lexeme) → read_whole f ts ≡ None → (a : A) → Spells f a ts → ⊥
not_read f d ts e a s = let p = spells_read f d a ts s in cc

abbrev pub there : {A : Type 0} → A → Option A
there x = Some x

pub some_is : {A : Type 0} (x y : A) → there x ≡ there y → x ≡ y
some_is x y e = cc

-- Tokens spell one value.
pub one_value : {A : Type 0} (f : Form A) → decides f ≡ true → (a b : A) (ts : List Lexeme) → Spells f a ts → Spells f b ts → a ≡ b
one_value f d a b ts s r = some_is a b (sym (spells_read f d a ts s) ∙ spells_read f d b ts r)
