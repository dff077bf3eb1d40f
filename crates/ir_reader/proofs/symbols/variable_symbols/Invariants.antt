use Rattle.std.proofs.Common.{Some}
use Rattle.ir_reader_items.specs.declared.part.Variable.{Variable}
use Rattle.ir_reader.specs.Trees.{symbol_over, variable_symbol}
use Rattle.ir_reader.specs.Typed.{Made, variable_uses}
use Rattle.ir_reader.proofs.symbols.variable_symbols.Given as goal

abbrev pub invariant-loop-variable : goal.invariant-loop-variable
invariant-loop-variable l = Made symbol_over (λ (v : Variable). Some (variable_symbol v)) variable_uses l.fn.names l.fn.types.items l.yielded l.symbols.items l.names l.types.items
