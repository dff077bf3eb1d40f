-- What is found of the uses of a module.
use Rattle.std.specs.Prelude.{◌≡◌, ℕ, List, map, Option}
use Rattle.ir_types.specs.declared.name.ValueId.{ValueId}
use Rattle.ir_types.specs.declared.module.Function.{Function}
use Rattle.ir_types.specs.Denotes.{Tables, name_in, function_in}
use Rattle.ir_types.specs.Tree.{FunctionTree}
use Rattle.ir_rules.specs.declared.fault.Subject.TheVariants.{Local}
use Rattle.ir_rules.specs.declared.fault.Breach.{Breach}
use Rattle.ir_rules.specs.Breaches.{inside}
use Rattle.ir_rules.specs.Available.{LocalUse, local_uses, IsUnavailableUse, breach_at}
use Rattle.ir_check_paths.specs.Uses.{Finds}

-- the breach at the use of a local in the instruction of a number
abbrev pub breach_of : Function → ValueId × ℕ → Breach
breach_of f x = inside f.name (Local (name_in f.names x.0), x.1)

-- the uses of a function, each behind it
abbrev pub uses_in : FunctionTree → List (FunctionTree × LocalUse)
uses_in f = map (λ u. (f, u)) (local_uses f)

abbrev pub IsBreachAt : FunctionTree × LocalUse → Breach → Type 0
IsBreachAt x b = b ≡ breach_at x

-- the breach at a function's first use that is not available
abbrev pub FindsBreach : Function → Option Breach → Type 0
FindsBreach f found = (t : Tables) → Finds IsUnavailableUse IsBreachAt (uses_in (function_in t f)) found
