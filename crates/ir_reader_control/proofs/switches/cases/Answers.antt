use Rattle.std.proofs.Common.{◌||◌, [], ◌∷◌, ◌++◌, sym, ap, ◌∙◌, arith}
use Rattle.text_forms.specs.Gives.{left}
use Rattle.text_forms.proofs.Walks.{shorter_completed}
use Rattle.text_forms.proofs.Viewed.{count_viewed}
use Rattle.ir_types.specs.InstForms.{case_of_switch}
use Rattle.ir_reader_values.specs.Seen.{name_seen}
use Rattle.ir_reader_control.specs.Labelled.{labels_in, case_at, case_in, cases_behind, cases_read}
use Rattle.ir_reader_values.proofs.Widening.{widens_trans}
use Rattle.ir_reader_values.proofs.Pushing.{push_seen, push_steady}
use Rattle.ir_reader_values.proofs.Split.{goes_gathered}
use Rattle.ir_reader_control.proofs.Labelled.{one_behind, case_takes}
use Rattle.ir_reader_control.proofs.switches.cases.Goals as goal

pub more-smaller : goal.more-smaller
more-smaller c =
    let lt = shorter_completed case_of_switch (case_at c.args.bits) (left c.more.rest) (case_in c.case.new.scope ((c.in_ok-number.number, c.in_ok-number.outside), c.in_ok-number.label), left c.in_ok-number.after) case_takes c.in_ok-number.ensures.reads in
    omega (arith, lt, count_viewed c.more.rest.text.now c.more.rest.rest.now, count_viewed c.in_ok-number.after.text.now c.in_ok-number.after.rest.now)

pub more-preserved : goal.more-preserved
more-preserved c =
    let before = c.more.scope in
    let now = c.case.new.scope in
    let grows = c.in_ok-number.ensures.grows in
    let label = c.in_ok-number.label in
    let ns = c.more.numbers.items in
    let wide = c.more.wide in
    let ls = labels_in before c.more.labels in
    let n = c.in_ok-number.number in
    let b = c.in_ok-number.outside in
    record {
      grows = widens_trans c.args.scope.now before now c.more.invariant.grows grows;
      reads = rw (push_seen name_seen before now c.more.labels c.push-in-more.new.self label c.in_ok-push-2.ensures.ok grows c.more.invariant.stays, c.in_ok-push.ensures.items)
          (goes_gathered case_of_switch (case_at c.args.bits) (cases_behind ns wide ls) (cases_behind (ns ++ n ∷ []) (wide || b) (ls ++ name_seen now label ∷ [])) (n, b) (name_seen now label) (left c.more.rest) (left c.in_ok-number.after)
          (cases_read c.args.bits (labels_in c.args.scope.now c.args.labels) (left c.args.tokens)) case_takes (sym c.begins_case.ensures ∙ c.more-test.true) c.in_ok-number.ensures.reads (one_behind ns wide ls n b (name_seen now label)) c.more.invariant.reads);
      stays = push_steady name_seen before now c.more.labels c.push-in-more.new.self label c.in_ok-push-2.ensures.ok grows c.more.invariant.stays (λ later e. ap (λ x. x.1) (c.in_ok-number.ensures.stays later e));
      tables = c.in_ok-number.ensures.tables ∙ c.more.invariant.tables;
    }
