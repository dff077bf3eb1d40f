-- Trees in which no number is out of its type's range: no instruction is wide.
use Rattle.std.specs.Prelude.{false, ◌≡◌}
use Rattle.std.specs.List.{AllByRecursion}
use Rattle.ir_types.specs.Tree.{InstTree, BlockTree, FunctionTree, ModuleTree}

-- each number that is written in an instruction is in its type's range
abbrev pub IsNarrowInst : InstTree → Type 0
IsNarrowInst i = i.wide ≡ false

-- no instruction of a block is wide
abbrev pub IsNarrowBlock : BlockTree → Type 0
IsNarrowBlock b = AllByRecursion IsNarrowInst b.insts

-- none of a function
abbrev pub IsNarrowFunction : FunctionTree → Type 0
IsNarrowFunction f = AllByRecursion IsNarrowBlock f.body

-- none of a module
abbrev pub IsNarrow : ModuleTree → Type 0
IsNarrow m = AllByRecursion IsNarrowFunction m.functions
