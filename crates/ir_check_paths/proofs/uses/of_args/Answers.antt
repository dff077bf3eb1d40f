use Rattle.std.proofs.Common.{◌∙◌, sym}
use Rattle.ir_check_paths.proofs.FindsLemmas.{args_more, args_stop, args_end, some_of, none_of}
use Rattle.ir_check_paths.proofs.uses.of_args.Goals as goal

pub returns-then-is_some-clause-finds : goal.returns-then-is_some-clause-finds
returns-then-is_some-clause-finds c =
    let some = some_of c.in_ok-found.found (sym c.is_some.ensures ∙ c.if-is_some.true) in
    args_stop _ _ _ c.loop-arg.arg-index c.args.args.now c.arg-item.result _ some.0 c.loop-arg-test.true c.arg-item.is some.1 c.in_ok-found.ensures.finds c.loop-arg.invariant.args

pub loop-arg-preserved : goal.loop-arg-preserved
loop-arg-preserved c = record {
  passed = c.in_ok-found.ensures.passed;
  args = args_more _ _ _ _ c.args.args.now c.arg-item.result c.in_ok-found.found c.loop-arg-test.true c.arg-item.is (none_of c.in_ok-found.found (sym c.is_some.ensures ∙ c.if-is_some.false)) c.in_ok-found.ensures.finds c.loop-arg.invariant.args;
}

pub returns-clause-finds : goal.returns-clause-finds
returns-clause-finds c = args_end _ _ _ c.loop-arg.arg-index c.args.args.now c.loop-arg-test.false c.loop-arg.invariant.args
