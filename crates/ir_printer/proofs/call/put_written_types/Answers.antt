use Rattle.std.proofs.Common.{◌≡◌, true, append_assoc}
use Rattle.text_lex.proofs.Layouts.{text_of-append}
use Rattle.ir_printer.proofs.call.put_written_types.Goals as goal

pub returns-in_ok-put_dots : goal.returns-in_ok-put_dots
returns-in_ok-put_dots c =
    let further : c.args.signature.now.varargs ≡ true = c.if-signature.true in
    rw (further, c.in_ok-put_dots.ensures, c.len.ensures, c.in_ok-put_types.ensures, c.as_slice.ensures) (simp (text_of-append, append_assoc))
