use Rattle.std.proofs.Common.{◌≡◌, false, eqb, length, append_assoc}
use Rattle.ir_types.specs.Denotes.{tables_of}
use Rattle.ir_printer.proofs.Appended.{body_text}
use Rattle.ir_printer.proofs.function.put_body.Goals as goal

pub returns : goal.returns
returns c =
    let some : eqb (length c.args.blocks.now) 0 ≡ false = cc in
    rw (body_text (tables_of c.args.m.now) c.args.names.now c.args.blocks.now some, c.in_ok-extend_from_slice-2.ensures.items, c.in_ok-put_blocks.ensures, c.in_ok-extend_from_slice.ensures.items) (simp append_assoc)
