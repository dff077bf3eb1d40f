use Rattle.std.proofs.Common.{append_assoc}
use Rattle.ir_types.specs.Denotes.{tables_of, inst_in}
use Rattle.ir_printer.proofs.Appended.{inst_text}
use Rattle.ir_printer.proofs.line.put_inst.Goals as goal

pub put_ending-requires : goal.put_ending-requires
put_ending-requires c = (tables_of c.args.m.now, c.requires.known.body)

pub returns : goal.returns
returns c = rw (
  inst_text (inst_in (tables_of c.args.m.now) c.args.names.now c.args.inst.now),
  c.in_ok-push.ensures.items,
  c.in_ok-put_kept_behind.ensures,
  c.in_ok-put_ending.ensures (tables_of c.args.m.now),
  c.in_ok-put_operands_of.ensures,
  c.in_ok-put_opening.ensures (tables_of c.args.m.now),
  c.in_ok-put_result.ensures,
) (simp append_assoc)
