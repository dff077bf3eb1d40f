-- What tables have more when something was read: what it uses and they did not have.
use Rattle.std.specs.Prelude.{◌≡◌, List, ◌++◌, map}
use Rattle.ir_types.specs.declared.name.Name.{Name}
use Rattle.ir_types.specs.Names.{unknown}
use Rattle.ir_types.specs.Tree.{OperandTree, InstTree}
use Rattle.ir_types.specs.Used.{with_unknown, symbols_of, types_of, operands_of}
use Rattle.ir_reader_types.specs.TypeTable.{names_of, missing_entry}
use Rattle.ir_reader_types.specs.Tables.{TableLists}

-- The new tables have these names of types and the symbols of these operands too: those that the old ones lack stand behind the others, each once, by first use.
pub record Uses (old : TableLists) (types : List Name) (operands : List OperandTree) (new : TableLists) : Type 0 where
  pub entries : new.entries ≡ old.entries ++ map missing_entry (unknown (names_of old.entries) types)
  pub symbols : new.symbols ≡ with_unknown old.symbols (symbols_of operands)

-- the new tables have what these instructions use
abbrev pub InstsUse : TableLists → List InstTree → TableLists → Type 0
InstsUse old insts new = Uses old (types_of insts) (operands_of insts) new
