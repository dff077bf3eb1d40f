-- Looking a word up in a table.
use Rattle.std.proofs.Common.{◌≡◌, ◌<◌, ◌+◌, ℕ, zero, suc, Bool, true, false, List, [], ◌∷◌, length, get_or, drop, map, add-one, eqb, ◌&&◌, Some, inl, inr, refl, sym, ap, ◌∙◌, arith}
use Rattle.std.specs.List.{list_any}
use lib.Pointwise.{pointwise}
use Rattle.text_forms.specs.declared.TokenKind.TheVariants.{Word}
use Rattle.std.specs.Option.{is_some}
use Rattle.text_forms.proofs.Begins.{not_both, test}
use Rattle.text_forms.specs.Form.{Lexeme, kind_code, same_text, is_one_of, entry}
use Rattle.text_forms.specs.Reading.{next_in, words_of}
use Rattle.text_forms.proofs.Tokens.{text_is, is_text}

pub entry_here : {E K : Type 0} (v : E → List ℕ × K) (table : List E) (i : ℕ) (d : E) (w : List ℕ) → i < length table → (v (get_or table i d)).0 ≡ w → entry (map v (drop i table)) w ≡ Some (v (get_or table i d)).1
entry_here v [] i d w lt e = absurd (omega arith)
entry_here v (x ∷ xs) zero d w lt e = rw (e, text_is w) refl
entry_here v (x ∷ xs) (suc i) d w lt e = entry_here v xs i d w (omega arith) e

not_same : (s r : List ℕ) → (s ≡ r → ⊥) → same_text r s ≡ false
not_same s r h = elim (same_text r s) as (λ b. same_text r s ≡ b → b ≡ false) [ true ↦ λ e. absurd (h (sym (is_text r s e))) | false ↦ λ e. refl ] refl

pub entry_next : {E K : Type 0} (v : E → List ℕ × K) (table : List E) (i : ℕ) (d : E) (w : List ℕ) → i < length table → ((v (get_or table i d)).0 ≡ w → ⊥) → entry (map v (drop i table)) w ≡ entry (map v (drop (i + 1) table)) w
entry_next v [] i d w lt n = absurd (omega arith)
entry_next v (x ∷ xs) zero d w lt n = rw (not_same (v x).0 w n) refl
entry_next v (x ∷ xs) (suc i) d w lt n = rw add-one (entry_next v xs i d w (omega arith) n ∙ rw add-one refl)

-- the code's test of two texts
pub tested : (s r : List ℕ) → pointwise eqb s r ≡ same_text s r
tested [] [] = refl
tested [] (y ∷ ys) = refl
tested (x ∷ xs) [] = refl
tested (x ∷ xs) (y ∷ ys) = ap (λ (b : Bool). eqb x y && b) (tested xs ys)

pub same : (s r : List ℕ) → pointwise eqb s r ≡ true → s ≡ r
same s r e = is_text s r (sym (tested s r) ∙ e)

pub other : (s r : List ℕ) → pointwise eqb s r ≡ false → s ≡ r → ⊥
other s r e h = not_both (pointwise eqb s r) (tested s r ∙ ap (λ (t : List ℕ). same_text t r) h ∙ text_is r) e

-- the code's test of a word against some words
pub tested_each : {W : Type 0} (v : W → List ℕ) (words : List W) (w : List ℕ) → list_any (λ x. pointwise eqb (v x) w) words ≡ is_one_of (map v words) w
tested_each v [] w = refl
tested_each v (x ∷ xs) w = rw (tested (v x) w, tested_each v xs w) refl

-- a word of the table stands next
pub word_next : {K : Type 0} (table : List (List ℕ × K)) (t : Lexeme) (ts : List Lexeme) → next_in (words_of table) (t ∷ ts) ≡ (eqb (kind_code t.kind) (kind_code Word) && is_some (entry table t.text))
word_next [] t ts = elim (test (eqb (kind_code t.kind) (kind_code Word))) [ inl i ↦ rw i refl | inr i ↦ rw i refl ]
word_next (e ∷ es) t ts =
    let more = word_next es t ts in
    elim (test (eqb (kind_code t.kind) (kind_code Word))) [
      | inl i ↦ elim (test (same_text t.text e.0)) [ inl j ↦ rw (i, j) refl | inr j ↦ rw (i, j) (more ∙ rw i refl) ]
      | inr i ↦ rw i (more ∙ rw i refl)
    ]
