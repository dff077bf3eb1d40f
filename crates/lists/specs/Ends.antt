-- A list of texts kept as one list of bytes and the place where each text ends.
use Rattle.std.specs.Prelude.{◌≡◌, ℕ, ◌≤◌, List, [], ◌∷◌}
use Rattle.std.specs.List.{slice_range}

-- the texts that end at these places, of which the first begins at `start`
abbrev pub texts_between : List ℕ → ℕ → List ℕ → List (List ℕ)
texts_between bytes start [] = []
texts_between bytes start (end ∷ ends) = slice_range bytes start end ∷ texts_between bytes end ends

-- from `start` on the ends do not fall, and the last is `total`
abbrev pub EndAt : ℕ → ℕ → List ℕ → Type 0
EndAt total start [] = start ≡ total
EndAt total start (end ∷ ends) = (start ≤ end) × EndAt total end ends
