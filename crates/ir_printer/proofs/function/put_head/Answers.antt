use Rattle.std.proofs.Common.{append_assoc}
use Rattle.ir_printer.proofs.Appended.{head_text}
use Rattle.ir_printer.proofs.function.put_head.Goals as goal

pub returns : goal.returns
returns c tables = rw (
  head_text tables c.args.function.now,
  c.in_ok-put_blank_then_kept.ensures,
  c.in_ok-push-3.ensures.items,
  c.in_ok-put_all_params.ensures,
  c.in_ok-push-2.ensures.items,
  c.in_ok-put_name.ensures,
  c.in_ok-extend_from_slice-2.ensures.items,
  c.in_ok-put_type.ensures,
  c.in_ok-put_kept_then_blank.ensures,
  c.in_ok-push.ensures.items,
  c.in_ok-extend_from_slice.ensures.items,
  c.word_of_function.ensures,
) (simp append_assoc)
