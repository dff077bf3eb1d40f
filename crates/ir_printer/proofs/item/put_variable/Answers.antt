use Rattle.std.proofs.Common.{append_assoc}
use Rattle.text_lex.proofs.Layouts.{text_of-append}
use Rattle.ir_printer.proofs.item.put_variable.Goals as goal

pub returns : goal.returns
returns c = rw (
  c.in_ok-push-3.ensures.items,
  c.in_ok-put_kept_behind.ensures,
  c.in_ok-put_type_at.ensures,
  c.in_ok-push-2.ensures.items,
  c.in_ok-extend_from_slice-2.ensures.items,
  c.word_of_variable.ensures,
  c.in_ok-put_kept_then_blank.ensures,
  c.in_ok-extend_from_slice.ensures.items,
  c.in_ok-put_name.ensures,
  c.in_ok-push.ensures.items,
) (simp (text_of-append, append_assoc))
