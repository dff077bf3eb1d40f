use Rattle.std.proofs.Common.{◌≡◌, length, map, ap, ◌∙◌}
use Rattle.ir_types.specs.declared.module.Symbol.{Symbol}
use Rattle.ir_reader.proofs.Preparing.{prepared}
use Rattle.ir_reader.proofs.build.prepare.Goals as goal

pub returns : goal.returns
returns c =
    let symbols = c.add_functions.new.symbols.items in
    let names : c.in_ok-symbol_names.symbol_names ≡ map (λ (s : Symbol). s.name) symbols = c.in_ok-symbol_names.ensures ∙ ap (map (λ (s : Symbol). s.name)) c.as_slice.ensures.value in
    let e = c.in_ok-tables.ensures in
    prepared c.args.definitions.now c.args.variables.items c.args.functions.now c.in_ok-types.field-0.types.items c.in_ok-types.field-0.names c.in_ok-types.field-0.symbols.items symbols c.in_ok-tables.tables c.in_ok-types.ensures c.in_ok-add_functions.ensures
    (e.symbols ∙ names) (e.known ∙ ap length names) e.entries e.types
