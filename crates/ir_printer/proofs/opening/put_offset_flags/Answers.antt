use Rattle.std.proofs.Common.{append_assoc}
use Rattle.text_lex.proofs.Layouts.{text_of-append}
use Rattle.ir_printer.proofs.opening.put_offset_flags.Goals as goal

pub returns : goal.returns
returns c = rw (c.in_ok-put_flag-3.ensures, c.in_ok-put_flag-2.ensures, c.in_ok-put_flag.ensures) (simp (text_of-append, append_assoc))
