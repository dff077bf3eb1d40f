use Rattle.std.proofs.Common.{◌≡◌, ◌++◌, map, take}
use Rattle.ir_reader_items.specs.declared.source.FunctionSource.{FunctionSource}
use Rattle.ir_reader.specs.Trees.{function_symbols}
use Rattle.ir_reader.proofs.symbols.add_functions.Given as goal

abbrev pub invariant-loop-place : goal.invariant-loop-place
invariant-loop-place l = l.symbols.items ≡ l.fn.symbols.items ++ function_symbols 0 (map (λ (f : FunctionSource). f.name) (take l.place l.functions))
