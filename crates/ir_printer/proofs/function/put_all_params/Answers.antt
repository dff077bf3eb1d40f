use Rattle.std.proofs.Common.{append_assoc, true, ◌≡◌}
use Rattle.std.proofs.lemmas.List.{length-map}
use Rattle.text_lex.proofs.Layouts.{text_of-append}
use Rattle.ir_types.specs.Denotes.{param_in}
use Rattle.ir_printer.proofs.function.put_all_params.Goals as goal

pub returns-in_ok-put_dots : goal.returns-in_ok-put_dots
returns-in_ok-put_dots c =
    let further : c.args.function.now.varargs ≡ true = c.if-function.true in
    rw (
      further,
      length-map c.args.function.now.params (param_in c.args.function.now.names),
      c.in_ok-put_dots.ensures,
      c.len.ensures,
      c.in_ok-put_params.ensures,
      c.as_slice.ensures,
    ) (simp (text_of-append, append_assoc))
