use Rattle.std.proofs.Common.{sym, ◌∙◌}
use Rattle.ir_intrinsics.specs.Intrinsics.{width_texts}
use Rattle.ir_intrinsics.proofs.Widths.{width_found, no_width}
use Rattle.ir_intrinsics.proofs.written.width_before.Goals as goal

pub returns-in-Some : goal.returns-in-Some
unfolding width_texts
returns-in-Some c =
    let ends = c.in-Some.ensures.cases in
    c.find.ensures ∙ sym (width_found width_texts c.args.end.now c.args.text.now c.in-Some.written.now ends.0 ends.1)

pub returns-in-None : goal.returns-in-None
returns-in-None c = sym (no_width width_texts c.args.end.now c.args.text.now c.in-None.ensures.cases)
