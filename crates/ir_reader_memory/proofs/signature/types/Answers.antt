use Rattle.std.proofs.Common.{refl, sym, ◌∙◌, arith}
use Rattle.text_forms.specs.declared.TokenKind.TheVariants.{Comma}
use Rattle.text_forms.specs.Reading.{read}
use Rattle.text_forms.specs.Gives.{left}
use Rattle.text_forms.proofs.Many.{shorter, goes_on}
use Rattle.text_forms.proofs.Viewed.{count_viewed}
use Rattle.text_forms.specs.Combined.{commas, marked}
use Rattle.ir_types.specs.TypeForms.{value_type}
use Rattle.ir_reader_memory.proofs.signature.types.Goals as goal

pub more-smaller : goal.more-smaller
more-smaller c =
    let lt = shorter (marked Comma value_type) (left c.more.rest) (c.in_ok-next.next, left c.in_ok-next.after) refl c.in_ok-next.ensures in
    omega (arith, lt, count_viewed c.more.rest.text.now c.more.rest.rest.now, count_viewed c.in_ok-next.after.text.now c.in_ok-next.after.rest.now)

pub more-preserved : goal.more-preserved
more-preserved c =
    rw c.in_ok-push-2.ensures.items (goes_on (marked Comma value_type) c.more.types.items c.in_ok-next.next (left c.more.rest) (left c.in_ok-next.after) (read (commas value_type) (left c.args.tokens)) refl (sym c.another.ensures ∙ c.more-test.true) c.in_ok-next.ensures c.more.invariant)
