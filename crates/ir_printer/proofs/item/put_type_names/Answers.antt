use Rattle.std.proofs.Common.{◌≡◌, length, get_or, ap, arith}
use Rattle.ir_types.specs.declared.memory_type.TypeName.{TypeName}
use Rattle.ir_shape.specs.Placed.{IsNamedPlaced}
use Rattle.ir_types.specs.Denotes.{type_name_in}
use Rattle.ir_shape.proofs.Placing.{module_placed}
use Rattle.ir_printer.specs.Print.{for_one, type_name_pieces}
use Rattle.ir_printer.proofs.Appended.{at_place, one_printed, all_printed, for_each}
use Rattle.ir_printer.proofs.item.put_type_names.Goals as goal

pub put_type_name-requires-clause-place : goal.put_type_name-requires-clause-place
put_type_name-requires-clause-place c =
    let is : c.name-item.result ≡ get_or c.args.m.now.type_names c.loop-name.name-index c.name-item.result = cc in
    at_place (λ (n : TypeName). IsNamedPlaced c.args.m.now.types n.ty) c.args.m.now.type_names c.loop-name.name-index c.name-item.result (omega (arith, ap length c.as_slice-name-items.ensures)) is (module_placed c.args.m.now c.requires).named

pub loop-name-preserved : goal.loop-name-preserved
loop-name-preserved c =
    let is : c.name-item.result ≡ get_or c.args.m.now.type_names c.loop-name.name-index c.name-item.result = cc in
    one_printed (λ n. for_one type_name_pieces (type_name_in c.args.m.now n)) c.args.m.now.type_names c.loop-name.name-index c.name-item.result _ _ _ (omega (arith, ap length c.as_slice-name-items.ensures)) is c.in_ok-put_type_name.ensures c.loop-name.invariant

pub returns : goal.returns
returns c =
    rw (for_each type_name_pieces (type_name_in c.args.m.now) c.args.m.now.type_names)
    (all_printed (λ n. for_one type_name_pieces (type_name_in c.args.m.now n)) c.args.m.now.type_names c.loop-name.name-index _ _ (omega (arith, ap length c.as_slice-name-items.ensures)) c.loop-name.invariant)
