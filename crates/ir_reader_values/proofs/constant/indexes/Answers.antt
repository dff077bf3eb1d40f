use Rattle.std.proofs.Common.{◌≡◌, [], ◌∷◌, ◌++◌, map, refl, sym, ◌∙◌, arith}
use Rattle.std.proofs.lemmas.List.{map_push}
use Rattle.std.proofs.lemmas.List.Elements.{All-push}
use Rattle.text_forms.specs.Reading.{read}
use Rattle.text_forms.specs.Gives.{left}
use Rattle.text_forms.proofs.Many.{shorter, goes_on}
use Rattle.text_forms.proofs.Viewed.{count_viewed}
use Rattle.ir_reader_values.specs.View.{index_in, HasWidth}
use Rattle.text_forms.specs.Combined.{some}
use Rattle.ir_types.specs.ValueForms.{comma_index}
use Rattle.ir_reader_values.proofs.constant.indexes.Goals as goal

pub more-smaller : goal.more-smaller
more-smaller c =
    let lt = shorter comma_index (left c.more.rest) (index_in c.in_ok-next.next, left c.in_ok-next.after) refl c.in_ok-next.ensures.reads in
    omega (arith, lt, count_viewed c.more.rest.text.now c.more.rest.rest.now, count_viewed c.in_ok-next.after.text.now c.in_ok-next.after.rest.now)

pub more-preserved : goal.more-preserved
more-preserved c =
    let before = c.more.indexes.items in
    let next = c.in_ok-next.next in
    let step : map index_in c.push-in-more.new.self.items ≡ map index_in before ++ index_in next ∷ [] = rw c.in_ok-push-2.ensures.items (map_push index_in before next) in
    record {
      reads = rw step (goes_on comma_index (map index_in before) (index_in next) (left c.more.rest) (left c.in_ok-next.after) (read (some comma_index) (left c.args.tokens)) refl (sym c.is_next.ensures ∙ c.more-test.true) c.in_ok-next.ensures.reads c.more.invariant.reads);
      within = rw c.in_ok-push-2.ensures.items (All-push HasWidth before next c.more.invariant.within c.in_ok-next.ensures.within);
    }
