use Rattle.std.proofs.Common.{◌≡◌, false, eqb, length, append_assoc}
use Rattle.ir_printer.proofs.KeptPrinted.{then_blank_text}
use Rattle.ir_printer.proofs.kept.put_kept_then_blank.Goals as goal

pub returns : goal.returns
returns c =
    let some : eqb (length c.args.kept.now) 0 ≡ false = cc in
    rw (then_blank_text c.args.kept.now some, c.in_ok-push.ensures.items, c.in_ok-put_from.ensures) (append_assoc c.args.out.now.items _ _)
