-- What a text reads as has the shape of a module.
use Rattle.std.proofs.Common.{ℕ, List, length}
use Rattle.text_lex.proofs.Lexed.{lexes_lexed}
use Rattle.ir_types.specs.declared.module.Module.{Module}
use Rattle.ir_types.specs.Offsets.{definitions_in}
use Rattle.ir_types.specs.Tree.{ModuleTree}
use Rattle.ir_types.specs.Denotes.{tree_of, Denotes}
use Rattle.ir_types.specs.Reads.{Reads}
use Rattle.ir_shape.specs.Shape.{HasShape}
use Rattle.ir_shape.specs.Modules.{IsModule}
use Rattle.ir_shape.proofs.Items.{spelled_is}
use Rattle.ir_shape.proofs.Numbering.{items_known}

-- what a text reads as has the shape of a module
pub read_known : (text : List ℕ) (tree : ModuleTree) → Reads text tree → HasShape tree
read_known text tree r = record {
  items = r.numbered;
  known = items_known r.written r.numbered (spelled_is (definitions_in r.written) (length r.tokens) r.written r.tokens (lexes_lexed r.lexes) r.spelled) r.numbers;
  says = r.says;
}

-- A module that denotes it is one.
pub read_is_module : (text : List ℕ) (m : Module) → Reads text (tree_of m) → Denotes m (tree_of m) → IsModule m
read_is_module text m r d = record { denotes = d; shape = read_known text (tree_of m) r }
