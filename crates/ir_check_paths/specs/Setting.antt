-- What names are given to, noted one after another.
use Rattle.std.specs.Prelude.{ℕ, suc, List, [], ◌∷◌, Option, Some, None, slice_set}
use Rattle.ir_types.specs.declared.name.ValueId.{ValueId}
use Rattle.ir_types.specs.declared.inst.Inst.{Inst}
use Rattle.ir_types.specs.declared.module.Block.{Block}
use Rattle.ir_types.specs.declared.module.Param.{Param}
use Rattle.ir_check_paths.specs.declared.origins.Origin.{Origin}
use Rattle.ir_check_paths.specs.declared.origins.Origin.TheVariants.{Parameter, Result}

-- of a result
abbrev pub result_set : Option ValueId → Origin → List Origin → List Origin
result_set (Some v) x origins = slice_set origins v.0 x
result_set None x origins = origins

-- of the results of a block's instructions, the first of this number
abbrev pub results_set : (block n : ℕ) → List Inst → List Origin → List Origin
results_set block n [] origins = origins
results_set block n (i ∷ is) origins = results_set block (suc n) is (result_set i.result (Result block n) origins)

-- of blocks, the first of this number
abbrev pub blocks_set : ℕ → List Block → List Origin → List Origin
blocks_set n [] origins = origins
blocks_set n (b ∷ bs) origins = blocks_set (suc n) bs (results_set n 0 b.insts origins)

-- of parameters
abbrev pub params_set : List Param → List Origin → List Origin
params_set [] origins = origins
params_set (p ∷ ps) origins = params_set ps (slice_set origins p.name.0 Parameter)
