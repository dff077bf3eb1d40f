use Rattle.std.proofs.Common.{◌≡◌, true, false, arith}
use Rattle.std.specs.Prelude.{codes}
use Rattle.text_forms.specs.Form.{same_text}
use Rattle.ir_printer.proofs.KeptPrinted.{line_next, line_equal}
use Rattle.ir_printer.proofs.kept.put_to_equal.Goals as goal

pub returns-then-is_equal-clause-text : goal.returns-then-is_equal-clause-text
returns-then-is_equal-clause-text c =
    let y : same_text (codes "=") c.at-text.result.now ≡ true = cc in
    line_equal c.args.line.now c.loop-place.place c.at-text.result.now _ _ _ _ (omega arith) c.at-text.ensures.item y c.in_ok-extend_from_slice.ensures.items c.in_ok-push.ensures.items c.loop-place.invariant

pub loop-place-preserved : goal.loop-place-preserved
loop-place-preserved c =
    let n : same_text (codes "=") c.at-text.result.now ≡ false = cc in
    line_next c.args.line.now c.loop-place.place c.at-text.result.now _ _ _ _ (omega arith) c.at-text.ensures.item n c.in_ok-extend_from_slice.ensures.items c.in_ok-push.ensures.items c.loop-place.invariant
