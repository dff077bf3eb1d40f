use Rattle.std.proofs.Common.{◌≡◌, ◌∙◌, List, length, arith, refl, ap, sym, subst, slice_get, Some}
use Rattle.std.proofs.lemmas.Option.{slice_get_read}
use Rattle.std.proofs.lemmas.List.{at_drop_all}
use Rattle.ir_types.specs.declared.module.Block.{Block}
use Rattle.ir_types.specs.declared.module.Param.{Param}
use Rattle.ir_check_paths.specs.declared.origins.Origin.{Origin}
use Rattle.ir_check_paths.specs.Setting.{blocks_set, params_set}
use Rattle.ir_check_paths.proofs.Noted.{blocks_more, results_size, are_origins}
use Rattle.ir_check_paths.proofs.noting.origins_of.Goals as goal

pub loop-number-preserved : goal.loop-number-preserved
loop-number-preserved c =
    let at = slice_get_read c.as_slice-block-items.result.now (length c.as_slice-block-items.result.now) c.loop-number.number c.block-item.result refl c.loop-number-test.true c.block-item.is in
    let got = subst (λ (x : List Block). slice_get x c.loop-number.number ≡ Some c.block-item.result) c.as_slice-block-items.ensures at in
    record {
      rest = blocks_more _ _ c.block-item.result c.as_slice.result.now c.loop-number.origins.items _ _ got c.as_slice.ensures c.set_results.ensures c.loop-number.invariant.rest;
      size = ap length c.set_results.ensures ∙ (results_size c.loop-number.number 0 c.as_slice.result.now c.loop-number.origins.items ∙ c.loop-number.invariant.size);
    }

pub returns : goal.returns
returns c =
    let done = at_drop_all (λ (x : List Block). blocks_set c.loop-number.number x c.loop-number.origins.items) c.args.function.now.body c.loop-number.number (omega (arith, ap length c.as_slice-block-items.ensures)) in
    are_origins _ c.requires _ (c.set_params.ensures ∙ (ap (λ (x : List Param). params_set x c.loop-number.origins.items) c.as_slice-2.ensures ∙ ap (λ (x : List Origin). params_set c.args.function.now.params x) (sym done ∙ c.loop-number.invariant.rest)))
