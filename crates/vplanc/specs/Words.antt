-- The command that a list of words gives.
use Rattle.std.specs.Prelude.{ℕ, List, [], ◌∷◌, Bool, true, false, if◌then◌else◌, nat_eq}
use Rattle.std.specs.declared.option.Option.{Option}
use Rattle.std.specs.declared.option.Option.TheVariants.{None, Some}

-- a word that may name a file: not empty, and no leading dash
abbrev pub is_plain : List ℕ → Bool
is_plain [] = false
is_plain (b ∷ bs) = if nat_eq b 45 then false else true

-- the one command: the file that a single word names
abbrev pub command_of : List (List ℕ) → Option (List ℕ)
command_of [] = None
command_of (word ∷ []) = if is_plain word then Some word else None
command_of (word ∷ more ∷ words) = None
