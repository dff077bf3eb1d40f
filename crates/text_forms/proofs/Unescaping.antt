-- The bytes of a string, one more.
use Rattle.std.proofs.Common.{◌≡◌, ℕ, ◌+◌, ◌-◌, ◌<◌, zero, suc, List, [], ◌∷◌, ◌++◌, length, drop, take, get_or, refl, sym, ap, ◌∙◌, append_assoc, arith, add-one, length-drop}
use Rattle.std.proofs.Math.Seq.{drop-cons, take-length}
use Rattle.std.proofs.lemmas.List.{drop-drop}
use Rattle.text_forms.specs.Strings.{without_last, unescaped, unescaped_behind, byte_at}

pub front_of : (front : List ℕ) (x : ℕ) → without_last (front ++ x ∷ []) ≡ front
front_of [] x = refl
front_of (c ∷ []) x = refl
front_of (c ∷ d ∷ cs) x = ap (λ (l : List ℕ). c ∷ l) (front_of (d ∷ cs) x)

pub behind_escape : (n : ℕ) (cs : List ℕ) → unescaped_behind n cs ≡ unescaped (drop n cs)
behind_escape zero cs = refl
behind_escape (suc n) [] = refl
behind_escape (suc n) (c ∷ cs) = behind_escape n cs

to_end : (text : List ℕ) (i : ℕ) → take (length text - i) (drop i text) ≡ drop i text
to_end text i = ap (λ n. take n (drop i text)) (sym (length-drop i text)) ∙ take-length (drop i text)

-- one byte more is unescaped
pub unescapes_on : (front text : List ℕ) (i : ℕ) (b : ℕ × ℕ) (whole : List ℕ) → i < length text → b ≡ byte_at (get_or text i 0) (take (length text - (i + 1)) (drop (i + 1) text)) → front ++ unescaped (drop i text) ≡ whole
    → (front ++ b.0 ∷ []) ++ unescaped (drop (i + (1 + b.1)) text) ≡ whole
unescapes_on front text i b whole lt seen e =
    let is : b ≡ byte_at (get_or text i 0) (drop (i + 1) text) = seen ∙ ap (byte_at (get_or text i 0)) (to_end text (i + 1)) in
    let c = get_or text i 0 in
    let rest : drop i text ≡ c ∷ drop (i + 1) text = rw add-one (drop-cons text i 0 lt) in
    let one : unescaped (drop i text) ≡ b.0 ∷ unescaped_behind b.1 (drop (i + 1) text) = ap unescaped rest ∙ ap (λ (x : ℕ × ℕ). x.0 ∷ unescaped_behind x.1 (drop (i + 1) text)) (sym is) in
    let there : i + 1 + b.1 ≡ i + (1 + b.1) = omega arith in
    let later : unescaped_behind b.1 (drop (i + 1) text) ≡ unescaped (drop (i + (1 + b.1)) text) =
    behind_escape b.1 (drop (i + 1) text) ∙ ap unescaped (drop-drop b.1 (i + 1) text ∙ ap (λ n. drop n text) there) in
    append_assoc front (b.0 ∷ []) _ ∙ sym (ap (λ (l : List ℕ). front ++ l) (one ∙ ap (λ (l : List ℕ). b.0 ∷ l) later)) ∙ e
