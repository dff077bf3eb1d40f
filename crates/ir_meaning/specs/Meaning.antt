-- What a module does: its steps. A state in which the module says nothing of the next step stands still.
use Rattle.std.specs.Prelude.{ℕ, map, replicate, ◌+◌, if◌then◌else◌, nat_eq, is_some, List, [], ◌∷◌, length, slice_get, find, zip, take_while, Option, Some, None}
use Rattle.text_forms.specs.Bind.{◌>>=◌}
use Rattle.ir_types.specs.declared.name.Name.{Name}
use Rattle.ir_types.specs.declared.inst.Ty.{Ty}
use Rattle.ir_types.specs.declared.inst.Ty.TheVariants.{Int as IntTy, Vector}
use Rattle.ir_types.specs.declared.call.Callee.{Callee}
use Rattle.ir_types.specs.Names.{same_name}
use Rattle.ir_types.specs.Kinds.{Kind, is_phi_kind, Binary, Compare, Call, Jump, Branch, Return, ReturnVoid, operand_types, actual_types}
use Rattle.ir_types.specs.Tree.{OperandTree, local, number, null, poison, lanes, global, out_of_range, InstTree, BlockTree, ParamTree, FunctionTree, ModuleTree}
use Rattle.ir_types.specs.ValueForms.{width_of}
use Rattle.ir_intrinsics.specs.Intrinsics.{meant_by}
use Rattle.ir_meaning.specs.declared.value.Pointer.{Pointer}
use Rattle.ir_meaning.specs.declared.value.Value.{Value}
use Rattle.ir_meaning.specs.declared.value.Value.TheVariants.{Int, Ptr, Poison, Lanes}
use Rattle.ir_meaning.specs.declared.value.Outcome.{Outcome}
use Rattle.ir_meaning.specs.declared.value.Outcome.TheVariants.{Value as Result, Undefined}
use Rattle.ir_meaning.specs.Values.{typed, Typed, combined, compared}
use Rattle.ir_meaning.specs.Memory.{Memory}
use Rattle.ir_meaning.specs.State.{Env, no_values, set_value, Frame, World, Running, State, Live, Over, Wrong}

-- ---- what stands where

-- the first function of that name
abbrev pub function_of : ModuleTree → Name → Option FunctionTree
function_of m name = find (λ (f : FunctionTree). same_name f.name name) m.functions

abbrev pub blocks_of : Option FunctionTree → List BlockTree
blocks_of None = []
blocks_of (Some f) = f.body

-- the first block of that name
abbrev pub block_at : ModuleTree → (function block : Name) → Option BlockTree
block_at m f name = find (λ (b : BlockTree). same_name b.name name) (blocks_of (function_of m f))

-- the instruction that a frame carries out next
abbrev pub inst_at : ModuleTree → Frame → Option InstTree
inst_at m frame = block_at m frame.function frame.block >>= λ b. slice_get b.insts frame.place

-- ---- the values of operands

-- the null pointer: address 0, in no allocation
abbrev pub null_pointer : Pointer
null_pointer = record { address = 0; allocation = None }

-- the poison of a type: of a vector in each lane
abbrev pub poison_of : Ty → Value
poison_of (Vector n w) = Lanes w (replicate n None)
poison_of ty = Poison

-- the bits of a vector's elements, and 0 of other types
abbrev pub lane_width : Ty → ℕ
lane_width (Vector n w) = w
lane_width ty = 0

-- the value of an operand, where it has one of that type; a symbol has none yet, and a number out of its type's range has none
abbrev pub operand_value : Memory → Env → Ty → OperandTree → Option Value
operand_value memory env ty (local name) = env name >>= λ v. typed ty v
operand_value memory env ty (number x) = typed ty (Int (width_of ty) x)
operand_value memory env ty null = typed ty (Ptr null_pointer)
operand_value memory env ty poison = typed ty (poison_of ty)
operand_value memory env ty (lanes xs) = typed ty (Lanes (lane_width ty) xs)
operand_value memory env ty (global name bytes) = None
operand_value memory env ty (out_of_range name) = None

-- the values of the operands, where there is one for each type
abbrev pub values_of : Memory → Env → List Ty → List OperandTree → Option (List Value)
values_of memory env [] [] = Some []
values_of memory env [] (a ∷ args) = None
values_of memory env (ty ∷ types) [] = None
values_of memory env (ty ∷ types) (a ∷ args) = operand_value memory env ty a >>= λ v. values_of memory env types args >>= λ vs. Some (v ∷ vs)

-- ---- what an instruction asks for

-- what an instruction leaves behind itself: the value of its result, where it has one
pub record Passing : Type 0 where
  pub value : Option Value

-- where a branch goes: the label of a block
pub record Branching : Type 0 where
  pub label : Name

-- a call: the function's name, and the arguments
pub record Calling : Type 0 where
  pub name : Name
  pub args : List Typed

-- a return: its value, where it has one
pub record Leaving : Type 0 where
  pub value : Option Typed

pub data Effect : Type 0 where
  -- on to the next instruction
  Passes : Passing → Effect
  -- on to another block
  Goes : Branching → Effect
  -- into a function
  Calls : Calling → Effect
  -- back to the caller
  Leaves : Leaving → Effect
  -- the run is undefined
  Fails : Effect
  -- the run stands still
  Waits : Effect

-- an operation's result, or undefined; without a meaning the run stands still
abbrev pub gives : Option Outcome → Effect
gives None = Waits
gives (Some (Result v)) = Passes (record { value = Some v })
gives (Some Undefined) = Fails

-- on to the block of this label
abbrev pub goes_to : Name → Effect
goes_to label = Goes (record { label = label })

-- a branch: to the second label where the condition is 0, and else to the first; on poison the run is undefined
abbrev pub branched : List Name → Value → Effect
branched (on ∷ off ∷ []) (Int w x) = goes_to (if nat_eq x 0 then off else on)
branched (on ∷ off ∷ []) Poison = Fails
branched labels v = Waits

-- values with their types
abbrev pub with_types : List Ty → List Value → List Typed
with_types types values = map (λ x. record { ty = x.0; value = x.1 }) (zip types values)

-- a call; of a name with a meaning of its own, none of which is said here yet, the run stands still
abbrev pub called : Callee → List Value → Effect
called callee args =
    if is_some (meant_by callee.name) then Waits else Calls (record { name = callee.name; args = with_types (actual_types callee) args })

-- what an instruction asks for, by its kind, its type, its labels and the values of its operands; operations of pointers and of vectors, and
-- what reads or writes memory or takes numbers, have no meaning yet
abbrev pub effect_of : ModuleTree → Memory → Kind → Ty → List Name → List Value → Effect
effect_of m memory (Binary op flags) (IntTy w) labels (x ∷ y ∷ []) = gives (combined op flags x y)
effect_of m memory (Compare p (IntTy w)) ty labels (x ∷ y ∷ []) = gives (Some (Result (compared p x y)))
effect_of m memory (Call callee) ty labels args = called callee args
effect_of m memory Jump ty (label ∷ []) [] = goes_to label
effect_of m memory Branch ty labels (x ∷ []) = branched labels x
effect_of m memory (Return of) ty labels (x ∷ []) = Leaves (record { value = Some (record { ty = of; value = x }) })
effect_of m memory ReturnVoid ty labels [] = Leaves (record { value = None })
effect_of m memory kind ty labels values = Waits

-- the same where each operand has a value; else the run stands still
abbrev pub effect_with : ModuleTree → Memory → InstTree → Option (List Value) → Effect
effect_with m memory i None = Waits
effect_with m memory i (Some values) = effect_of m memory i.kind i.ty i.labels values

-- what an instruction asks for where the names have these values
abbrev pub effect_in : ModuleTree → Memory → Env → InstTree → Effect
effect_in m memory env i = effect_with m memory i (values_of memory env (operand_types i.kind i.ty (length i.args)) i.args)

-- ---- into a block

-- the phis at the head of a block
abbrev pub phis_of : BlockTree → List InstTree
phis_of b = take_while (λ (i : InstTree). is_phi_kind i.kind) b.insts

-- the operand of a phi for the block that was left: that of the first entry with its label
abbrev pub entry_for : (left : Name) → List OperandTree → List Name → Option OperandTree
entry_for left [] labels = None
entry_for left (a ∷ args) [] = None
entry_for left (a ∷ args) (l ∷ ls) = if same_name l left then Some a else entry_for left args ls

-- the value of a phi behind the block that was left, by the values before
abbrev pub phi_value : Memory → Env → (left : Name) → InstTree → Option Value
phi_value memory env left i = entry_for left i.args i.labels >>= operand_value memory env i.ty

-- with a value for the result, where it has a name
abbrev pub set_result : Env → Option Name → Value → Env
set_result env None v = env
set_result env (Some name) v = set_value env name v

-- the values `now` with those of the phis, each by the values `before` the branch
abbrev pub after_phis : Memory → (before : Env) → Name → List InstTree → (now : Env) → Option Env
after_phis m before left [] now = Some now
after_phis m before left (i ∷ phis) now =
    phi_value m before left i >>= λ v. after_phis m before left phis (set_result now i.result v)

-- the frame behind the phis of the block
abbrev pub entered_at : Memory → Frame → BlockTree → Option Frame
entered_at memory frame b =
    after_phis memory frame.env frame.block (phis_of b) frame.env >>= λ env. Some (record frame { block = b.name; place = length (phis_of b); env = env })

-- the frame behind a branch to the block of that label
abbrev pub entered : ModuleTree → Memory → Frame → (label : Name) → Option Frame
entered m memory frame label = block_at m frame.function label >>= entered_at memory frame

-- ---- into a function

-- the values of the parameters; of several with one name the first counts, a parameter without a value has none, and further values are dropped
abbrev pub arguments_in : List ParamTree → List Value → Env
arguments_in [] values = no_values
arguments_in (p ∷ params) [] = no_values
arguments_in (p ∷ params) (v ∷ values) = set_value (arguments_in params values) p.name v

-- the frame at the first place of a function's first block, with its parameters' values; none where it has no block
abbrev pub first_frame : ModuleTree → (function : Name) → List Value → Option Frame
first_frame m function values =
    function_of m function >>= λ f. slice_get f.body 0 >>= λ b. Some (record { function = function; block = b.name; place = 0; env = arguments_in f.params values })

-- ---- steps

-- the values of the names where a result has one
abbrev pub with_result : Env → Option Name → Option Value → Env
with_result env result None = env
with_result env result (Some v) = set_result env result v

-- the frame behind its instruction, whose result has a value or none
abbrev pub passed : Frame → (result : Option Name) → Option Value → Frame
passed frame name v = record frame { place = frame.place + 1; env = with_result frame.env name v }

-- the name of an instruction's result
abbrev pub result_of : Option InstTree → Option Name
result_of None = None
result_of (Some i) = i.result

abbrev pub value_in : Option Typed → Option Value
value_in None = None
value_in (Some t) = Some t.value

-- the run with another frame at work
abbrev pub with_frame : Running → Frame → Running
with_frame r frame = record r { frame = frame }

-- into a function that is defined here, whose frame comes to stand before the caller's; any other one is outside, of which nothing is said yet
abbrev pub called_in : ModuleTree → Calling → Running → State
called_in m c r = elim (first_frame m c.name (map (λ (t : Typed). t.value) c.args)) [
  | None ↦ Live r
  | Some frame ↦ Live (record r { frame = frame; callers = r.frame ∷ r.callers })
]

-- a return, to the caller behind its call, or out of the run
abbrev pub returned : ModuleTree → Leaving → Running → State
returned m l r = elim r.callers [
  | [] ↦ Over (record { value = l.value; memory = r.memory; events = r.events })
  | caller ∷ callers ↦ Live (record r { frame = passed caller (result_of (inst_at m caller)) (value_in l.value); callers = callers })
]

-- carries out what an instruction asks for
abbrev pub carried : ModuleTree → InstTree → Effect → Running → State
carried m i (Passes p) r = Live (with_frame r (passed r.frame i.result p.value))
carried m i (Goes g) r = elim (entered m r.memory r.frame g.label) [ None ↦ Live r | Some next ↦ Live (with_frame r next) ]
carried m i (Calls c) r = called_in m c r
carried m i (Leaves l) r = returned m l r
carried m i Fails r = Wrong
carried m i Waits r = Live r

-- one step: an instruction, a call, a return, or a branch with all phis of the block that it enters
abbrev pub step : ModuleTree → State → State
step m (Live r) = elim (inst_at m r.frame) [ None ↦ Live r | Some i ↦ carried m i (effect_in m r.memory r.frame.env i) r ]
step m (Over e) = Over e
step m Wrong = Wrong

-- ---- the start

-- the first state of a run; to run a function that isn't defined is undefined
abbrev pub start : ModuleTree → (function : Name) → List Value → Memory → World → State
start m function values memory world = elim (first_frame m function values) [
  | None ↦ Wrong
  | Some f ↦ Live (record { frame = f; callers = []; memory = memory; world = world; events = [] })
]
