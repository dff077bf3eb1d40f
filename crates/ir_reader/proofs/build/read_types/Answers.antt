use Rattle.std.proofs.Common.{length, ap, ◌∙◌, arith}
use Rattle.ir_reader.specs.Typed.{with_types}
use Rattle.ir_reader.proofs.Typing.{typed, few}
use Rattle.ir_reader.proofs.build.read_types.Goals as goal

pub set_types-requires : goal.set_types-requires
set_types-requires c =
    let d = rw c.in_ok-names.ensures at c.in_ok-named.ensures.made in
    let less = few c.args.definitions.now c.args.variables.items c.new-types.result.items c.named_types.new.types.items c.variable_symbols.new.types.items c.in_ok-named.named.items c.in_ok-symbols.symbols.items c.named_types.new.names c.variable_symbols.new.names c.variable_symbols.new.names
    d c.in_ok-symbols.ensures in
    omega (arith, less, ap length c.as_slice.ensures.value)

pub returns : goal.returns
returns c =
    let d = rw c.in_ok-names.ensures at c.in_ok-named.ensures.made in
    typed c.args.definitions.now c.args.variables.items c.new-types.result.items c.named_types.new.types.items c.variable_symbols.new.types.items c.in_ok-named.named.items c.in_ok-symbols.symbols.items c.named_types.new.names c.variable_symbols.new.names c.set_types.new.names
    d c.in_ok-symbols.ensures c.in_ok-named.ensures.within (c.set_types.ensures ∙ ap (with_types c.variable_symbols.new.names) c.as_slice.ensures.value)
