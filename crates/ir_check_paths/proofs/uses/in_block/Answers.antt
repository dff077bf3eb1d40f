use Rattle.std.proofs.Common.{◌≡◌, ◌<◌, ◌+◌, ℕ, length, Option, Some, sym, subst, arith}
use Rattle.ir_types.specs.declared.name.ValueId.{ValueId}
use Rattle.ir_check_paths.specs.Finding.{FindsAt, FindsIn}
use Rattle.ir_check_paths.proofs.BlockLemmas.{block_start, block_more, block_stop, block_end, inst_there, block_length, none_from}
use Rattle.ir_check_paths.proofs.uses.in_block.Goals as goal

pub loop-before-init : goal.loop-before-init
loop-before-init c = record { passed = c.requires.passed; insts = block_start c.args.function.now c.args.number c.args.start }

pub returns-in-Some-clause-finds : goal.returns-in-Some-clause-finds
returns-in-Some-clause-finds c b at =
    let lt : c.loop-before.before < length c.at.result.now.insts = omega (arith, c.len-before-end.ensures, c.loop-before-test.true) in
    let i = inst_there c.args.function.now c.args.number c.loop-before.before c.at.result.now c.at.ensures.found lt b at in
    let place : c.in_ok-place.place ≡ c.args.start + c.loop-before.before = (rw c.in_ok-place.ensures.ok_part at c.checked_add.ensures).1 in
    let finds = subst (λ (o : Option ValueId). FindsAt c.args.function.now b c.loop-before.before i.0 o) c.in-Some.is (c.in_ok-name.ensures.finds b i.0 at i.1) in
    subst (λ (k : ℕ). FindsIn c.args.function.now b c.args.start (Some (c.in-Some.name, k))) (sym place) (block_stop c.args.function.now c.args.number c.args.start c.loop-before.before c.in-Some.name b at i.0 i.1 finds c.loop-before.invariant.insts)

pub loop-before-preserved : goal.loop-before-preserved
loop-before-preserved c =
    let lt : c.loop-before.before < length c.at.result.now.insts = omega (arith, c.len-before-end.ensures, c.loop-before-test.true) in
    record {
      passed = c.in_ok-name.ensures.passed;
      insts = block_more c.args.function.now c.args.number c.args.start c.loop-before.before c.in_ok-name.field-0 (inst_there c.args.function.now c.args.number c.loop-before.before c.at.result.now c.at.ensures.found lt) (none_from c.in_ok-name.field-0 c.in_default.not-Some) c.in_ok-name.ensures.finds c.loop-before.invariant.insts;
    }

pub returns-clause-finds : goal.returns-clause-finds
returns-clause-finds c b at =
    block_end c.args.function.now c.args.number c.args.start c.loop-before.before b at (omega (arith, c.len-before-end.ensures, c.loop-before-test.false, block_length c.args.function.now c.args.number b c.at.result.now c.at.ensures.found at)) c.loop-before.invariant.insts
