use Rattle.std.proofs.Common.{◌≡◌, ◌++◌, drop}
use Rattle.std.specs.Prelude.{flat_map}
use Rattle.text_lex.specs.Layout.{text_of}
use Rattle.ir_types.specs.Denotes.{symbol_in}
use Rattle.ir_printer.specs.Print.{for_one, symbol_pieces}
use Rattle.ir_printer.proofs.item.put_variables.Given as goal

abbrev pub invariant-loop-symbol : goal.invariant-loop-symbol
invariant-loop-symbol l = l.out.items ++ text_of (flat_map (λ s. for_one symbol_pieces (symbol_in l.m s)) (drop l.symbol-index l.m.symbols)) ≡ l.initial.out.items ++ text_of (flat_map (λ s. for_one symbol_pieces (symbol_in l.m s)) l.m.symbols)
