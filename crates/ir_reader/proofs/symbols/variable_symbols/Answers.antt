use Rattle.std.proofs.Common.{Some}
use Rattle.ir_reader_items.specs.declared.part.Variable.{Variable}
use Rattle.ir_reader.specs.Trees.{symbol_over, variable_symbol}
use Rattle.ir_reader.specs.Typed.{variable_uses}
use Rattle.ir_reader.proofs.Making.{made_more}
use Rattle.ir_reader.proofs.symbols.variable_symbols.Goals as goal

pub loop-variable-preserved : goal.loop-variable-preserved
loop-variable-preserved c =
    let e = c.in_ok-symbol.ensures in
    rw c.in_ok-push.ensures.items (made_more symbol_over (λ (v : Variable). Some (variable_symbol v)) variable_uses c.args.names.now c.loop-variable.names c.variable_symbol.new.names c.args.types.now.items c.loop-variable.types.items c.variable_symbol.new.types.items c.loop-variable.yielded c.loop-variable.symbols.items
    c.in-Some.variable c.in_ok-symbol.symbol c.loop-variable.invariant e.types_grow e.are e.names_grow e.stands)
