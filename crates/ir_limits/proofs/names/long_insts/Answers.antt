use Rattle.std.proofs.Common.{sym, ◌∙◌}
use Rattle.ir_types.specs.Denotes.{inst_in}
use Rattle.ir_limits.specs.Mentioned.{in_inst}
use Rattle.ir_limits.specs.Limits.{first_long}
use Rattle.ir_limits.proofs.Firsts.{found_item, none_at_all, first_of_each}
use Rattle.ir_limits.proofs.names.long_insts.Goals as goal

pub returns-in-Some : goal.returns-in-Some
returns-in-Some c =
    found_item (λ i. first_long (in_inst (inst_in c.args.tables.now c.args.names.now i))) c.args.insts.now c.loop-inst.inst-index c.inst-item.result c.in-Some.count c.loop-inst-test.true c.inst-item.is c.loop-inst.invariant (sym c.long_inst.ensures ∙ c.in-Some.is) ∙ first_of_each (inst_in c.args.tables.now c.args.names.now) in_inst c.args.insts.now

pub returns : goal.returns
returns c = none_at_all (λ i. first_long (in_inst (inst_in c.args.tables.now c.args.names.now i))) c.args.insts.now c.loop-inst.inst-index c.loop-inst-test.false c.loop-inst.invariant ∙ first_of_each (inst_in c.args.tables.now c.args.names.now) in_inst c.args.insts.now
