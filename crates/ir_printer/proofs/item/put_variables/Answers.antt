use Rattle.std.proofs.Common.{◌≡◌, length, get_or, ap, arith}
use Rattle.ir_types.specs.declared.module.Symbol.{Symbol}
use Rattle.ir_shape.specs.Placed.{IsSymbolPlaced}
use Rattle.ir_types.specs.Denotes.{symbol_in}
use Rattle.ir_shape.proofs.Placing.{module_placed}
use Rattle.ir_printer.specs.Print.{for_one, symbol_pieces}
use Rattle.ir_printer.proofs.Appended.{at_place, one_printed, all_printed, for_each}
use Rattle.ir_printer.proofs.item.put_variables.Goals as goal

pub put_symbol-requires-clause-place : goal.put_symbol-requires-clause-place
put_symbol-requires-clause-place c =
    let is : c.symbol-item.result ≡ get_or c.args.m.now.symbols c.loop-symbol.symbol-index c.symbol-item.result = cc in
    at_place (λ (s : Symbol). IsSymbolPlaced c.args.m.now s.kind) c.args.m.now.symbols c.loop-symbol.symbol-index c.symbol-item.result (omega (arith, ap length c.as_slice-symbol-items.ensures)) is (module_placed c.args.m.now c.requires).symbols

pub loop-symbol-preserved : goal.loop-symbol-preserved
loop-symbol-preserved c =
    let is : c.symbol-item.result ≡ get_or c.args.m.now.symbols c.loop-symbol.symbol-index c.symbol-item.result = cc in
    one_printed (λ s. for_one symbol_pieces (symbol_in c.args.m.now s)) c.args.m.now.symbols c.loop-symbol.symbol-index c.symbol-item.result _ _ _ (omega (arith, ap length c.as_slice-symbol-items.ensures)) is c.in_ok-put_symbol.ensures c.loop-symbol.invariant

pub returns : goal.returns
returns c =
    rw (for_each symbol_pieces (symbol_in c.args.m.now) c.args.m.now.symbols)
    (all_printed (λ s. for_one symbol_pieces (symbol_in c.args.m.now s)) c.args.m.now.symbols c.loop-symbol.symbol-index _ _ (omega (arith, ap length c.as_slice-symbol-items.ensures)) c.loop-symbol.invariant)
