use Rattle.std.proofs.Common.{◌≡◌, ◌++◌, map, take}
use Rattle.ir_reader.specs.Trees.{missing_symbol}
use Rattle.ir_reader.proofs.symbols.with_missing.Given as goal

abbrev pub invariant-loop-name : goal.invariant-loop-name
invariant-loop-name l = l.symbols.items ≡ l.fn.symbols.items ++ map missing_symbol (take l.name-index l.name-items)
