use Rattle.std.proofs.Common.{ap, ◌∙◌}
use Rattle.ir_types.specs.declared.module.Function.{Function}
use Rattle.ir_check_calls.proofs.Once.{next_name}
use Rattle.ir_check_calls.proofs.called.places_of.Goals as goal

pub loop-function-preserved : goal.loop-function-preserved
loop-function-preserved c =
    next_name c.args.functions.now c.loop-function.function-index c.function-item.result c.in_ok-copy.field-0 c.loop-function.places.keys c.insert.new.self.keys c.requires c.loop-function-test.true
    (c.in_ok-copy.ensures ∙ ap (λ (f : Function). f.name) c.function-item.is) c.loop-function.invariant c.in_ok-insert.ensures.keys
