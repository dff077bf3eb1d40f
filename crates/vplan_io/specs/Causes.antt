-- What a load and a put leave, and when they may fail.
use Rattle.std.specs.Prelude.{◌≡◌, ℕ, ◌+◌, ◌-◌, ◌^◌, ◌<◌, ◌≤◌, min, List, ◌++◌, length, take, MatchResult, OnErr, IfSome}
use Rattle.std.specs.Io.KnownBytes.{Appends}
use Rattle.std.specs.declared.option.Option.{Option}
use Rattle.std.specs.declared.option.Option.TheVariants.{None, Some}
use Rattle.std.specs.declared.result.Result.{Result}
use Rattle.vplan_io.specs.declared.TheConstants.{LONGEST}
use Rattle.vplan_io.specs.declared.LoadFault.{LoadFault}
use Rattle.vplan_io.specs.declared.LoadFault.TheVariants.{Failed as LoadFailed, TooLong, Memory}

-- the most bytes of a file that is loaded
abbrev pub longest : ℕ
longest = LONGEST

-- a count one higher; at the end of its type it stays
abbrev pub raised : ℕ → ℕ
raised count = min (count + 1) (2 ^ 64 - 1)

-- a count of faults has risen, or stands at its type's end
abbrev pub Rose : ℕ → ℕ → Type 0
Rose before now = raised before ≤ now

-- a count never falls, and a refusal comes only where it rose
pub record HasCause {T E : Type 0} (before now : ℕ) (result : Result T E) : Type 0 where
  pub later : before ≤ now
  pub failed : OnErr result (Rose before now)

-- what a load that succeeds gives
pub record IsWhole (told : Option (List ℕ)) (bytes : List ℕ) : Type 0 where
  pub short : length bytes ≤ longest
  pub same : IfSome told (λ file. bytes ≡ file)

-- why a load fails: the count rose, the file is too long, or want of memory
abbrev pub LoadCause : Option (List ℕ) → (before now last : ℕ) → LoadFault → Type 0
LoadCause told before now last LoadFailed = Rose before now
LoadCause told before now last TooLong = (last ≡ longest + 1) × IfSome told (λ file. longest < length file)
LoadCause told before now last Memory = Unit {0}

-- the bytes, where they are known, and then text
abbrev pub and_then : Option (List ℕ) → List ℕ → Option (List ℕ)
and_then None text = None
and_then (Some bytes) text = Some (bytes ++ text)

-- a put takes all of text, or a prefix of it where it fails
abbrev pub Takes : {E : Type 0} → Option (List ℕ) → Option (List ℕ) → List ℕ → Result Unit E → Type 0
Takes before now text result =
    MatchResult result (λ _. now ≡ and_then before text) (λ _. (n : ℕ) × (now ≡ and_then before (take n text)))

-- a put into a writer that tells what it holds appends all of text to that, or a prefix of it where it fails
abbrev pub Writes : {E : Type 0} → Option (List ℕ) → Option (List ℕ) → List ℕ → Result Unit E → Type 0
Writes before now text result =
    MatchResult result (λ _. Appends before now text) (λ _. (n : ℕ) × Appends before now (take n text))
