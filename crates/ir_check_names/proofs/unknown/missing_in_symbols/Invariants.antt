use Rattle.std.proofs.Common.{◌≡◌, drop}
use Rattle.ir_types.specs.declared.module.Symbol.{Symbol}
use Rattle.ir_check_names.specs.Choice.{first_of}
use Rattle.ir_check_names.specs.Missing.{missing_in_symbol}
use Rattle.ir_check_names.proofs.unknown.missing_in_symbols.Given as goal

abbrev pub invariant-loop-symbol : goal.invariant-loop-symbol
invariant-loop-symbol l = first_of (λ (s : Symbol). missing_in_symbol l.missing s.kind) (drop l.symbol-index l.symbols) ≡ first_of (λ (s : Symbol). missing_in_symbol l.missing s.kind) l.symbols
