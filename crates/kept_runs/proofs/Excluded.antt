-- Words that stand in two lists.
use Rattle.std.proofs.Common.{◌≡◌, ℕ, List, [], ◌∷◌, ◌++◌, ◌||◌, refl, inl, inr}
use Rattle.text_forms.specs.Form.{same_text, is_one_of}
use Rattle.text_forms.proofs.Begins.{test}

-- a word is in two lists, one behind the other, where it is in one of them
pub in_both : (vs ws : List (List ℕ)) (w : List ℕ) → is_one_of (vs ++ ws) w ≡ (is_one_of vs w || is_one_of ws w)
in_both [] ws w = refl
in_both (v ∷ vs) ws w = elim (test (same_text v w)) [ inl e ↦ rw e refl | inr e ↦ rw (e, in_both vs ws w) refl ]
