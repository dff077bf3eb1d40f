-- What a text reads as.
use Rattle.std.specs.Prelude.{◌≡◌, ℕ, List, Some}
use Rattle.text_forms.specs.Form.{Lexeme}
use Rattle.text_forms.specs.Lexical.{Lexes}
use Rattle.ir_types.specs.Tree.{FunctionTree, WrittenFunction, Item, ModuleTree}
use Rattle.ir_types.specs.ItemForms.{SpellsModule}
use Rattle.ir_types.specs.Numbered.{numbered_module}
use Rattle.ir_types.specs.Collected.{collected}

-- the text's tokens spell items as they are written, things without a name take their numbers, and the tree is what the items are collected to
pub record Reads (text : List ℕ) (tree : ModuleTree) : Type 0 where
  pub tokens : List Lexeme
  pub written : List (Item WrittenFunction)
  pub numbered : List (Item FunctionTree)
  pub lexes : Lexes text tokens
  pub spelled : SpellsModule written tokens
  pub numbers : numbered_module written ≡ Some numbered
  pub says : collected numbered ≡ tree
