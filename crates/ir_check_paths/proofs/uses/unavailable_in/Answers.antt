use Rattle.std.proofs.Common.{◌≡◌, ◌+◌, ◌∙◌, ℕ, List, length, Some, refl, sym, ap, subst, arith, slice_get}
use Rattle.std.proofs.lemmas.Option.{slice_get_read}
use Rattle.ir_types.specs.declared.module.Block.{Block}
use Rattle.ir_check_paths.proofs.FindsLemmas.{some_of, none_of}
use Rattle.ir_check_paths.proofs.FunctionLemmas.{FunctionRest, function_start, function_more, function_stop, function_end}
use Rattle.ir_check_paths.proofs.uses.unavailable_in.Goals as goal

pub loop-number-init : goal.loop-number-init
loop-number-init c = record { passed = tt; blocks = function_start c.args.function.now }

pub returns-then-is_some : goal.returns-then-is_some
returns-then-is_some c =
    let read = slice_get_read c.as_slice-block-items.result.now (length c.as_slice-block-items.result.now) c.loop-number.number c.block-item.result refl c.loop-number-test.true c.block-item.is in
    let at = subst (λ (x : List Block). slice_get x c.loop-number.number ≡ Some c.block-item.result) c.as_slice-block-items.ensures read in
    let some = some_of c.in_ok-found.found (sym c.is_some.ensures ∙ c.if-is_some.true) in
    function_stop c.args.function.now c.loop-number.number c.loop-number.start c.block-item.result c.in_ok-found.found some.0 at some.1 (c.in_ok-found.ensures.finds c.block-item.result at) c.loop-number.invariant.blocks

pub loop-number-preserved : goal.loop-number-preserved
loop-number-preserved c =
    let read = slice_get_read c.as_slice-block-items.result.now (length c.as_slice-block-items.result.now) c.loop-number.number c.block-item.result refl c.loop-number-test.true c.block-item.is in
    let at = subst (λ (x : List Block). slice_get x c.loop-number.number ≡ Some c.block-item.result) c.as_slice-block-items.ensures read in
    let none = none_of c.in_ok-found.found (sym c.is_some.ensures ∙ c.if-is_some.false) in
    let sum : c.in_ok-start.start ≡ c.loop-number.start + c.len.result = (rw c.in_ok-start.ensures.ok_part at c.checked_add.ensures).1 in
    let start : c.in_ok-start.start ≡ c.loop-number.start + length c.block-item.result.insts = sum ∙ ap (λ (k : ℕ). c.loop-number.start + k) c.len.ensures in
    record {
      passed = c.in_ok-found.ensures.passed;
      blocks = subst (λ (k : ℕ). FunctionRest c.args.function.now (c.loop-number.number + 1) k) (sym start) (function_more c.args.function.now c.loop-number.number c.loop-number.start c.block-item.result c.in_ok-found.found at none (c.in_ok-found.ensures.finds c.block-item.result at) c.loop-number.invariant.blocks);
    }

pub returns : goal.returns
returns c = function_end c.args.function.now c.loop-number.number c.loop-number.start (omega (arith, ap length c.as_slice-block-items.ensures, c.loop-number-test.false)) c.loop-number.invariant.blocks
