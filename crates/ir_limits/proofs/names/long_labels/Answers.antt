use Rattle.std.proofs.Common.{sym, ◌∙◌}
use Rattle.ir_types.specs.Denotes.{name_in}
use Rattle.ir_limits.specs.Limits.{long_name}
use Rattle.ir_limits.proofs.Firsts.{found_here, none_at_all, first_of_map}
use Rattle.ir_limits.proofs.names.long_labels.Goals as goal

pub returns-in-Some : goal.returns-in-Some
returns-in-Some c =
    found_here (λ i. long_name (name_in c.args.names.now i)) c.args.labels.now c.loop-label.label-index _ c.in-Some.count c.loop-label-test.true c.loop-label.invariant (sym c.long_at.ensures ∙ c.in-Some.is) ∙ first_of_map (name_in c.args.names.now) c.args.labels.now

pub returns : goal.returns
returns c = none_at_all (λ i. long_name (name_in c.args.names.now i)) c.args.labels.now c.loop-label.label-index c.loop-label-test.false c.loop-label.invariant ∙ first_of_map (name_in c.args.names.now) c.args.labels.now
