use Rattle.std.proofs.Common.{◌≡◌, map, take}
use Rattle.ir_types.specs.declared.module.Symbol.{Symbol}
use Rattle.ir_reader.proofs.symbols.symbol_names.Given as goal

abbrev pub invariant-loop-symbol : goal.invariant-loop-symbol
invariant-loop-symbol l = l.names ≡ map (λ (s : Symbol). s.name) (take l.symbol-index l.symbols)
