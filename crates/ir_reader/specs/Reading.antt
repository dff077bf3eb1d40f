-- What reading all of a module's tokens gives.
use Rattle.std.specs.Prelude.{◌≡◌, ℕ, List, [], ◌∷◌, length, Option, Some, None, Result, Ok, Err}
use Rattle.text_forms.specs.declared.cursor.SyntaxFault.{SyntaxFault}
use Rattle.text_forms.specs.declared.cursor.SyntaxFault.TheVariants.{NoReading, Memory}
use Rattle.text_forms.specs.Form.{Lexeme}
use Rattle.text_forms.specs.Reading.{◌>>=◌, read}
use Rattle.text_lex.specs.declared.fault.Count.{Count}
use Rattle.ir_types.specs.declared.module.Module.{Module}
use Rattle.ir_types.specs.Tree.{FunctionTree, Item}
use Rattle.ir_types.specs.Offsets.{Definitions}
use Rattle.ir_types.specs.Skimmed.{Skimmed, skimmed_module, with_body, with_own_bodies, items_read}
use Rattle.ir_types.specs.Numbered.{numbered_function, numbered_module}
use Rattle.ir_types.specs.Collected.{collected}
use Rattle.ir_types.specs.Denotes.{Denotes}
use Rattle.ir_limits.specs.Limits.{limit_passed}
use Rattle.ir_reader.specs.declared.gather.Gathered.{Gathered}
use Rattle.ir_reader.specs.Gathered.{Holds}

-- ---- functions, by themselves

-- a function with its inner parts, numbered
abbrev pub function_read : Definitions → Skimmed → Option FunctionTree
function_read defs s = with_body defs s >>= numbered_function

-- functions, in their order
abbrev pub functions_read : Definitions → List Skimmed → Option (List FunctionTree)
functions_read defs [] = Some []
functions_read defs (s ∷ more) = function_read defs s >>= λ f. functions_read defs more >>= λ fs. Some (f ∷ fs)

-- ---- items

-- skimmed items with their inner parts, numbered
abbrev pub filled_items : List (Item Skimmed) → Option (List (Item FunctionTree))
filled_items skimmed = with_own_bodies skimmed >>= numbered_module

-- the items that all of the tokens spell, numbered
abbrev pub module_read : List Lexeme → Option (List (Item FunctionTree))
module_read ts = items_read ts >>= numbered_module

-- the items with which the tokens begin, skimmed, and the tokens behind them
abbrev pub items_skimmed : List Lexeme → Option (List (Item Skimmed) × List Lexeme)
items_skimmed ts = read (skimmed_module (length ts)) ts

-- items that are skimmed were gathered, and these tokens are left
pub record IsGathered (ts : List Lexeme) (g : Gathered) (rest : List Lexeme) : Type 0 where
  pub items : List (Item Skimmed)
  pub read : items_skimmed ts ≡ Some (items, rest)
  pub holds : Holds g items

-- the items with which the tokens begin were gathered, and these tokens are left; or none are skimmed, or there was no memory
abbrev pub GivesItems : List Lexeme → Gathered → List Lexeme → Result Unit SyntaxFault → Type 0
GivesItems ts g rest (Ok done) = IsGathered ts g rest
GivesItems ts g rest (Err (NoReading place)) = items_skimmed ts ≡ None
GivesItems ts g rest (Err Memory) = Unit {0}

-- ---- the module

-- these items were read, the module is what they are collected to, and this is the first limit that they pass
pub record IsBuilt (items_are : Option (List (Item FunctionTree))) (m : Module) (passed : Option (Count × ℕ)) : Type 0 where
  pub items : List (Item FunctionTree)
  pub are : items_are ≡ Some items
  pub denotes : Denotes m (collected items)
  pub limit : passed ≡ limit_passed items

-- the module of the items that are read, and the first limit that it passes; or none are read, or there was no memory
abbrev pub GivesModule : Option (List (Item FunctionTree)) → Result (Module × Option (Count × ℕ)) SyntaxFault → Type 0
GivesModule items_are (Ok x) = IsBuilt items_are x.0 x.1
GivesModule items_are (Err (NoReading place)) = items_are ≡ None
GivesModule items_are (Err Memory) = Unit {0}
