use Rattle.std.proofs.Common.{◌≡◌, take, map}
use Rattle.ir_types.specs.declared.module.Symbol.{Symbol}
use Rattle.ir_check_names.specs.Definitions.{is_symbol_known}
use Rattle.ir_check_names.proofs.marks.symbol_marks.Given as goal

abbrev pub invariant-loop-symbol : goal.invariant-loop-symbol
invariant-loop-symbol l = l.marks.items ≡ map (λ (s : Symbol). is_symbol_known s.kind) (take l.symbol-index l.symbols)
