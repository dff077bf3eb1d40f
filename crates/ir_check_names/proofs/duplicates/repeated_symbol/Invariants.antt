use Rattle.std.proofs.Common.{◌≡◌, [], drop}
use Rattle.ir_check_names.specs.Repeated.{repeated_symbol}
use Rattle.ir_check_names.proofs.duplicates.repeated_symbol.Given as goal

abbrev pub invariant-loop-symbol : goal.invariant-loop-symbol
invariant-loop-symbol l = repeated_symbol l.seen (drop l.symbol-index l.symbols) ≡ repeated_symbol [] l.symbols
