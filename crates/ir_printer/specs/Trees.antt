-- Parts of a module and of its functions, as trees.
use Rattle.std.specs.Prelude.{List, map}
use Rattle.ir_types.specs.declared.name.Name.{Name}
use Rattle.ir_types.specs.declared.name.ValueId.{ValueId}
use Rattle.ir_types.specs.declared.inst.Operand.{Operand}
use Rattle.ir_types.specs.declared.inst.Inst.{Inst}
use Rattle.ir_types.specs.declared.module.Block.{Block}
use Rattle.ir_types.specs.declared.module.Param.{Param}
use Rattle.ir_types.specs.declared.module.Function.{Function}
use Rattle.ir_types.specs.declared.module.Module.{Module}
use Rattle.ir_types.specs.Tree.{OperandTree, InstTree, BlockTree, ParamTree, FunctionTree}
use Rattle.ir_types.specs.Denotes.{name_in, tables_of, operand_in, inst_in, block_in, param_in, function_in}

-- an operand in a function with these names, and a list of them
abbrev pub operand_of : Module → List Name → Operand → OperandTree
operand_of m names operand = operand_in (tables_of m) names operand

abbrev pub operands_of : Module → List Name → List Operand → List OperandTree
operands_of m names operands = map (operand_in (tables_of m) names) operands

-- labels
abbrev pub labels_of : List Name → List ValueId → List Name
labels_of names labels = map (name_in names) labels

-- an instruction, and a list of them
abbrev pub inst_of : Module → List Name → Inst → InstTree
inst_of m names inst = inst_in (tables_of m) names inst

abbrev pub insts_of : Module → List Name → List Inst → List InstTree
insts_of m names insts = map (inst_in (tables_of m) names) insts

-- a block, and a list of them
abbrev pub block_of : Module → List Name → Block → BlockTree
block_of m names block = block_in (tables_of m) names block

abbrev pub blocks_of : Module → List Name → List Block → List BlockTree
blocks_of m names blocks = map (block_in (tables_of m) names) blocks

-- parameters
abbrev pub params_of : List Name → List Param → List ParamTree
params_of names params = map (param_in names) params

-- a function, and a list of them
abbrev pub function_of : Module → Function → FunctionTree
function_of m function = function_in (tables_of m) function

abbrev pub functions_of : Module → List Function → List FunctionTree
functions_of m functions = map (function_in (tables_of m)) functions
