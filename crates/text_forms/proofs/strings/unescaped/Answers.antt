use Rattle.std.proofs.Common.{◌+◌, arith, length-drop}
use Rattle.text_forms.specs.Strings.{unescaped}
use Rattle.text_forms.proofs.Unescaping.{unescapes_on}
use Rattle.text_forms.proofs.strings.unescaped.Goals as goal

pub loop-place-preserved : goal.loop-place-preserved
loop-place-preserved c = record {
  within = omega (arith, length-drop (c.loop-place.place + 1) c.args.text.now, c.byte_at-byte.ensures.within);
  reads = rw c.in_ok-push.ensures.items (unescapes_on c.loop-place.bytes.items c.args.text.now c.loop-place.place c.byte_at-byte.result (unescaped c.args.text.now) c.loop-place-test.true c.byte_at-byte.ensures.byte c.loop-place.invariant.reads);
}
