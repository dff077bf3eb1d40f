-- What is printed of a tree that can be printed reads as that tree.
use Rattle.std.proofs.Common.{List}
use Rattle.std.specs.Prelude.{map}
use Rattle.std.specs.List.{AllByRecursion}
use Rattle.text_lex.specs.Layout.{text_of, tokens_of}
use Rattle.text_lex.proofs.Layouts.{pieces_lexed}
use Rattle.ir_types.specs.declared.module.Module.{Module}
use Rattle.ir_types.specs.Denotes.{type_names_of, function_in, tables_of, tree_of}
use Rattle.ir_types.specs.Types.{AreTypes}
use Rattle.ir_types.specs.Offsets.{definitions_in}
use Rattle.ir_types.specs.Tree.{ModuleTree, WrittenFunction, Item}
use Rattle.ir_types.specs.ItemForms.{SpellsModule, module_form}
use Rattle.ir_types.specs.Reads.{Reads}
use Rattle.ir_shape.specs.Shape.{IsFunction, IsPrintable}
use Rattle.ir_shape.specs.Modules.{IsModule}
use Rattle.ir_shape.specs.Narrow.{IsNarrow}
use Rattle.ir_shape.proofs.Narrowed.{tree_narrow}
use Rattle.ir_printer.specs.Print.{module_pieces}
use Rattle.ir_printer.proofs.Grouped.{printed_items, printed_known, printed_collected, functions_known}
use Rattle.ir_printer.proofs.Numbering.{written_item, numbered_again}
use Rattle.ir_printer.proofs.Printing.{IsPrinted, module_printed}

-- the items as they are written
abbrev items_of : ModuleTree → List (Item WrittenFunction)
items_of tree = map written_item (printed_items tree)

spells_module : (tree : ModuleTree) → IsPrinted (definitions_in (items_of tree)) tree → SpellsModule (items_of tree) (tokens_of (module_pieces tree))
unfolding module_form
spells_module tree p = p.says.spells

-- what is printed of a tree reads as it
pub printed_reads : (tree : ModuleTree) → IsPrintable tree → Reads (text_of (module_pieces tree)) tree
printed_reads tree h =
    let known = printed_known tree h in
    let lines = module_printed (definitions_in (items_of tree)) tree known in
    record {
      tokens = tokens_of (module_pieces tree);
      written = items_of tree;
      numbered = printed_items tree;
      lexes = pieces_lexed (module_pieces tree) lines.laid.tokens lines.laid.joined;
      spelled = spells_module tree lines;
      numbers = numbered_again (printed_items tree) known;
      says = printed_collected tree h;
    }

-- ---- of a module

pub module_reads : (m : Module) → IsModule m → IsNarrow (tree_of m) → Reads (text_of (module_pieces (tree_of m))) (tree_of m)
module_reads m is n = printed_reads (tree_of m) (tree_narrow (tree_of m) is.shape n)

-- Each of its functions has the shape of one.
pub module_functions : (m : Module) → IsModule m → IsNarrow (tree_of m) → AllByRecursion IsFunction (map (function_in (tables_of m)) m.functions)
module_functions m is n = functions_known (tree_of m) (tree_narrow (tree_of m) is.shape n)

-- Each of its types stands behind its parts.
pub module_types : (m : Module) → IsModule m → AreTypes (type_names_of m) 0 m.types
module_types m is = is.denotes.types
