-- A name with no colon behind it is no label.
use Rattle.std.proofs.Common.{◌≡◌, ◌≤◌, ◌<◌, ◌+◌, ◌-◌, ℕ, zero, suc, Bool, true, false, eqb, List, [], ◌∷◌, get_or, length, take, drop, drop-cons, add-one, None, refl, sym, ◌∙◌, arith, inl, inr}
use Rattle.std.proofs.lemmas.Bool.{eqb-true}
use Rattle.std.proofs.lemmas.List.{take-map, drop-map}
use Rattle.std.specs.Prelude.{map}
use Rattle.text_forms.specs.declared.TokenKind.{TokenKind}
use Rattle.text_forms.specs.declared.Class.TheVariants.{Byte, NameStart, NamePart}
use Rattle.text_forms.specs.declared.Part.{Part}
use Rattle.text_forms.specs.declared.Part.TheVariants.{One, Run}
use Rattle.text_forms.specs.Lexical.{has, table}
use Rattle.text_lex.specs.declared.names.NameRun.{NameRun}
use Rattle.text_lex.specs.Scan.{far, front, best, range, rows_for, colon_behind, TellsColon}
use Rattle.text_forms.proofs.Begins.{test}
use Rattle.text_lex.proofs.Ranges.{best_range}

far_label : (cs : List ℕ) (n : ℕ) → colon_behind cs ≡ false → far (Run NamePart ∷ One (Byte 58) ∷ []) cs n None ≡ None
far_label [] n h = refl
far_label (c ∷ cs) n h = elim (test (has NamePart c)) [
  | inl y ↦ rw y (far_label cs (n + 1) (rw y at h))
  | inr e ↦ let g : eqb c 58 ≡ false = rw e at h in rw (e, g) refl
]

-- the row of labels that are plain names has no front of such a text
no_label : (c : ℕ) (cs : List ℕ) → colon_behind (c ∷ cs) ≡ false → front (One NameStart ∷ Run NamePart ∷ One (Byte 58) ∷ []) (c ∷ cs) ≡ None
no_label c cs h = elim (test (has NameStart c)) [
  | inl y ↦ rw y (far_label cs 1 (rw y at h))
  | inr e ↦ rw e refl
]

-- so it may be left out
without_label : (k c : ℕ) (cs : List ℕ) → colon_behind (c ∷ cs) ≡ false → best (take (suc k) (drop 2 table)) (c ∷ cs) ≡ best (take k (drop 3 table)) (c ∷ cs)
unfolding table
without_label k c cs h = rw (no_label c cs h) refl

best_unlabelled : (n c : ℕ) (cs : List ℕ) → c < 256 → (range c).0 ≡ 2 → (range c).1 ≡ n → colon_behind (c ∷ cs) ≡ false → best (take (n - 1) (drop 3 table)) (c ∷ cs) ≡ best table (c ∷ cs)
best_unlabelled zero c cs lt s k none =
    let b = best_range c cs lt in
    let d : best (take 0 (drop 2 table)) (c ∷ cs) ≡ best table (c ∷ cs) = rw (s, k) at b in
    d
best_unlabelled (suc n) c cs lt s k none =
    let b = best_range c cs lt in
    let d : best (take (suc n) (drop 2 table)) (c ∷ cs) ≡ best table (c ∷ cs) = rw (s, k) at b in
    let m : suc n - 1 ≡ n = omega arith in
    rw m (sym (without_label n c cs none) ∙ d)

-- the best of the rows that are tried
best_tried : (c : ℕ) (cs : List ℕ) (colon : Bool) → c < 256 → colon ≡ colon_behind (c ∷ cs) → best (take (rows_for c colon).1 (drop (rows_for c colon).0 table)) (c ∷ cs) ≡ best table (c ∷ cs)
best_tried c cs true lt e = best_range c cs lt
best_tried c cs false lt e = elim (test (eqb (range c).0 2)) [
  | inl y ↦
      let s : (range c).0 ≡ 2 = eqb-true (range c).0 2 y in
      rw (y, s) (best_unlabelled (range c).1 c cs lt s refl (sym e))
  | inr n ↦ rw n (best_range c cs lt)
]

pub best_for : {R : Type 0} (v : R → TokenKind × List Part) (rows : List R) (start count : ℕ) (text : List ℕ) (c : ℕ) (cs : List ℕ) (colon : Bool) → map v rows ≡ table → text ≡ c ∷ cs → c < 256 → colon ≡ colon_behind text → start ≡ (rows_for c colon).0 → count ≡ (rows_for c colon).1 → best (map v (take count (drop start rows))) text ≡ best table text
best_for v rows start count text c cs colon e t lt same s k =
    rw (s, k, t, sym (take-map v (rows_for c colon).1 (drop (rows_for c colon).0 rows)), sym (drop-map v (rows_for c colon).0 rows), e) (best_tried c cs colon lt (rw t at same))

-- ---- runs

-- the byte at the place is one of a name
pub name_on : (text : List ℕ) (i : ℕ) → i < length text → has NamePart (get_or text i 0) ≡ true → colon_behind (drop i text) ≡ colon_behind (drop (i + 1) text)
name_on text i lt h = rw (add-one, drop-cons text i 0 lt, h) refl

pub name_ends : (text : List ℕ) (i : ℕ) → i < length text → has NamePart (get_or text i 0) ≡ false → colon_behind (drop i text) ≡ eqb (get_or text i 0) 58
name_ends text i lt h = rw (drop-cons text i 0 lt, h) refl

pub tells_on : (text : List ℕ) (i j : ℕ) (run : NameRun) → TellsColon text i run → i ≤ j → TellsColon text j run
tells_on text i j run h le = λ q from to. h q (omega arith) to
