use Rattle.std.proofs.Common.{◌≡◌, [], ◌∷◌, ◌++◌, refl, sym, ◌∙◌, arith}
use Rattle.std.proofs.lemmas.List.{map_push}
use Rattle.text_forms.specs.declared.TokenKind.TheVariants.{Comma}
use Rattle.text_forms.specs.Reading.{read}
use Rattle.text_forms.specs.Gives.{left}
use Rattle.text_forms.proofs.Many.{shorter, goes_on}
use Rattle.text_forms.proofs.Viewed.{count_viewed}
use Rattle.text_forms.specs.Combined.{commas, marked}
use Rattle.ir_types.specs.ValueForms.{typed_lane}
use Rattle.ir_reader_values.specs.View.{typed_lane_in, lanes_in}
use Rattle.ir_reader_values.proofs.lanes.some_lanes.Goals as goal

pub more-smaller : goal.more-smaller
more-smaller c =
    let lt = shorter (marked Comma typed_lane) (left c.more.rest) (typed_lane_in c.in_ok-next.next, left c.in_ok-next.after) refl c.in_ok-next.ensures in
    omega (arith, lt, count_viewed c.more.rest.text.now c.more.rest.rest.now, count_viewed c.in_ok-next.after.text.now c.in_ok-next.after.rest.now)

pub more-preserved : goal.more-preserved
more-preserved c =
    let before = c.more.lanes.items in
    let next = c.in_ok-next.next in
    let step : lanes_in c.push-in-more.new.self.items ≡ lanes_in before ++ typed_lane_in next ∷ [] = rw c.in_ok-push-2.ensures.items (map_push typed_lane_in before next) in
    rw step (goes_on (marked Comma typed_lane) (lanes_in before) (typed_lane_in next) (left c.more.rest) (left c.in_ok-next.after) (read (commas typed_lane) (left c.args.tokens)) refl (sym c.another.ensures ∙ c.more-test.true) c.in_ok-next.ensures c.more.invariant)
