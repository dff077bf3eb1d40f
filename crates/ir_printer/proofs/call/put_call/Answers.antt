use Rattle.std.proofs.Common.{append_assoc}
use Rattle.std.specs.Prelude.{map}
use Rattle.ir_types.specs.Denotes.{tables_of, operand_in}
use Rattle.ir_printer.proofs.Appended.{call_text}
use Rattle.ir_printer.proofs.call.put_call.Goals as goal

pub returns : goal.returns
returns c = rw (
  call_text c.args.callee.now c.args.ty (map (operand_in (tables_of c.args.m.now) c.args.names.now) c.args.operands.now),
  c.in_ok-push-3.ensures.items,
  c.in_ok-put_arguments.ensures,
  c.as_slice.ensures,
  c.in_ok-push-2.ensures.items,
  c.in_ok-put_name.ensures,
  c.in_ok-extend_from_slice.ensures.items,
  c.in_ok-put_signature.ensures,
  c.in_ok-put_type.ensures,
  c.in_ok-put_kept_then_blank.ensures,
  c.in_ok-push.ensures.items,
) (simp append_assoc)
