use Rattle.std.proofs.Common.{◌<◌, length, arith}
use Rattle.std.proofs.lemmas.List.{length-map}
use Rattle.std.proofs.lemmas.Grind.{common_steps}
use Rattle.ir_types.specs.declared.module.Symbol.{Symbol}
use Rattle.ir_types.specs.Denotes.{tables_of}
use Rattle.ir_shape.proofs.Names.{within_names}
use Rattle.ir_printer_types.proofs.TypeNames.{named_by}
use Rattle.ir_printer.proofs.symbol.put_symbol.Goals as goal

pub at-requires : goal.at-requires
at-requires c =
    let lt = within_names (tables_of c.args.m.now).symbols c.args.symbol c.requires in
    omega (arith, lt, length-map c.args.m.now.symbols (λ (s : Symbol). s.name))

pub returns : goal.returns
returns c =
    let lt = within_names (tables_of c.args.m.now).symbols c.args.symbol c.requires in
    let within : c.args.symbol < length c.args.m.now.symbols = omega (arith, lt, length-map c.args.m.now.symbols (λ (s : Symbol). s.name)) in
    rw (named_by (λ (s : Symbol). s.name) c.args.m.now.symbols c.args.symbol c.at.result.now within c.at.ensures.item) (grind (arith, common_steps))
