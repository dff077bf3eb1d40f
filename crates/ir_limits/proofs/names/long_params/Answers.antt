use Rattle.std.proofs.Common.{sym, ◌∙◌}
use Rattle.ir_types.specs.declared.module.Param.{Param}
use Rattle.ir_types.specs.Denotes.{name_in, param_in}
use Rattle.ir_limits.specs.Limits.{long_name}
use Rattle.ir_limits.proofs.Firsts.{found_item, none_at_all, first_of_names}
use Rattle.ir_limits.proofs.names.long_params.Goals as goal

pub returns-in-Some : goal.returns-in-Some
returns-in-Some c =
    found_item (λ (p : Param). long_name (name_in c.args.names.now p.name)) c.args.params.now c.loop-param.param-index c.param-item.result c.in-Some.count c.loop-param-test.true c.param-item.is c.loop-param.invariant (sym c.long_at.ensures ∙ c.in-Some.is) ∙ first_of_names (param_in c.args.names.now) c.args.params.now

pub returns : goal.returns
returns c = none_at_all (λ (p : Param). long_name (name_in c.args.names.now p.name)) c.args.params.now c.loop-param.param-index c.loop-param-test.false c.loop-param.invariant ∙ first_of_names (param_in c.args.names.now) c.args.params.now
