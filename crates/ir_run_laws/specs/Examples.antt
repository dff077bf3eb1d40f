-- Small modules, to try the definitions on.
use Rattle.std.specs.Prelude.{true, ◌≡◌, ℕ, ◌+◌, codes, List, [], ◌∷◌, map, Option, Some}
use Prim.Native.String.{String}
use Rattle.std.specs.List.{AllByRecursion}
use Rattle.ir_types.specs.declared.name.Name.{Name}
use Rattle.ir_types.specs.declared.name.Name.TheVariants.{Text, Number}
use Rattle.ir_types.specs.declared.inst.Ty.{Ty}
use Rattle.ir_types.specs.declared.inst.BinOp.TheVariants.{Add}
use Rattle.ir_types.specs.declared.inst.Pred.{Pred}
use Rattle.ir_types.specs.declared.inst.Pred.TheVariants.{Ne}
use Rattle.ir_types.specs.Kinds.{Binary}
use Rattle.ir_types.specs.Tree.{OperandTree, number, FunctionTree, ModuleTree}
use Rattle.ir_types.specs.FlagForms.{no_flags}
use Rattle.ir_types.specs.InstForms.{bare_inst}
use Rattle.ir_making.specs.Trees.{i1, i32, at, gives_name, jump, branch, ret, ret_at, phi, add, icmp, call, block, param, function_named, with_functions, f, one_function}
use Rattle.ir_meaning.specs.declared.value.Value.{Value}
use Rattle.ir_meaning.specs.declared.value.Value.TheVariants.{Int}
use Rattle.ir_meaning.specs.Values.{Typed}
use Rattle.ir_meaning.specs.Memory.{Memory}
use Rattle.ir_meaning.specs.State.{Env, no_values, set_value, Frame, World, Event, State, Live}
use Rattle.ir_meaning.specs.Meaning.{step, start}
use Rattle.ir_meaning.specs.Runs.{run, Observation, Going, Returned, observed}
use Rattle.ir_meaning.specs.Allows.{Allows}
use Rattle.ir_run_laws.specs.Tolls.{BlockName, Charge}

abbrev pub int32 : ℕ → Value
int32 x = Int 32 x

abbrev pub bit : ℕ → Value
bit x = Int 1 x

-- a returned value
abbrev pub of_i32 : ℕ → Typed
of_i32 x = record { ty = i32; value = int32 x }

-- a returned value of a type
abbrev pub of_type : Ty → Value → Typed
of_type t v = record { ty = t; value = v }

-- what is seen of a run without events that has returned this value, with this memory
abbrev pub returned_with : Typed → Memory → Observation
returned_with t memory = Returned (record { value = Some t; memory = memory; events = [] })

-- what is seen of the run of `@f` with these arguments after so many steps, whatever the memory and the world
abbrev pub Shows : ModuleTree → List Value → ℕ → Observation → Type 0
Shows m args n o = (memory : Memory) (v : World) → observed m f args memory v n ≡ o

-- `@f` with these arguments has returned this value after so many steps, and has left the memory as it was
abbrev pub ReturnsIn : ModuleTree → List Value → ℕ → Typed → Type 0
ReturnsIn m args n t = (memory : Memory) (v : World) → observed m f args memory v n ≡ returned_with t memory

-- ---- modules

-- define i32 @f(i32 %0, i1 %1): from %2 to the block `on` where %1 is 1, else to `off`; %3 goes on to %4, which returns
-- phi i32 [ %0, %2 ], [ x, %3 ]
abbrev pub chooses_with : (on off x : ℕ) → ModuleTree
chooses_with on off x =
    one_function (param i32 0 ∷ param i1 1 ∷ []) (block 2 (branch 1 on off ∷ []) ∷ block 3 (jump 4 ∷ []) ∷ block 4 (phi 5 (at 0) 2 (number x) 3 ∷ ret (at 5) ∷ []) ∷ [])

-- the first example of the README: to %3 where %1 is 1, and there 7 comes out
abbrev pub chooses : ModuleTree
chooses = chooses_with 3 4 7

-- the same with the branch's targets in each other's place
abbrev pub swapped : ModuleTree
swapped = chooses_with 4 3 7

-- the same with another number in the phi's second entry
abbrev pub another_entry : ModuleTree
another_entry = chooses_with 3 4 8

-- the same, but the first block goes to itself for ever
abbrev pub loops : ModuleTree
loops =
    one_function (param i32 0 ∷ param i1 1 ∷ []) (block 2 (jump 2 ∷ []) ∷ block 3 (jump 4 ∷ []) ∷ block 4 (phi 5 (at 0) 2 (number 7) 3 ∷ ret (at 5) ∷ []) ∷ [])

-- no function
abbrev pub empty : ModuleTree
empty = with_functions []

-- define i32 @f(): %1 = add i32 x, y; ret i32 %1
abbrev pub adds : (x y : ℕ) → ModuleTree
adds x y = one_function [] (block 0 (add 1 (number x) (number y) ∷ ret (at 1) ∷ []) ∷ [])

-- the same sum with `nuw`
abbrev pub adds_with_flag : (x y : ℕ) → ModuleTree
adds_with_flag x y =
    one_function [] (block 0 (gives_name 1 (bare_inst (Binary Add (record no_flags { nuw = true })) i32 (number x ∷ number y ∷ []) []) ∷ ret (at 1) ∷ []) ∷ [])

-- define i32 @f(): returns an operand at a type
abbrev pub gives_back : Ty → OperandTree → ModuleTree
gives_back ty x = one_function [] (block 0 (ret_at ty x ∷ []) ∷ [])

-- define i32 @f(): returns 1 where the predicate holds of x and y, and else 0
abbrev pub tests : Pred → (x y : ℕ) → ModuleTree
tests p x y =
    one_function [] (block 0 (icmp 1 p (number x) (number y) ∷ branch 1 2 3 ∷ []) ∷ block 2 (ret (number 1) ∷ []) ∷ block 3 (ret (number 0) ∷ []) ∷ [])

-- define i32 @f(): the second time in %1, %2 is 10 and %3 is what %2 was before, which is returned
abbrev pub reads_the_old : ModuleTree
reads_the_old =
    one_function [] (block 0 (jump 1 ∷ []) ∷ block 1 (phi 2 (number 5) 0 (number 10) 1 ∷ phi 3 (number 0) 0 (at 2) 1 ∷ icmp 4 Ne (at 3) (number 0) ∷ branch 4 5 1 ∷ []) ∷ block 5 (ret (at 3) ∷ []) ∷ [])

-- ---- calls

-- define i32 @f(i32 %0): %2 = call i32 @name(i32 %0); %3 = add i32 %2, 1; ret i32 %3
abbrev pub calling : Name → FunctionTree
calling name = function_named f (param i32 0 ∷ []) (block 1 (call 2 name (i32 ∷ []) (at 0 ∷ []) ∷ add 3 (at 2) (number 1) ∷ ret (at 3) ∷ []) ∷ [])

-- define i32 @name(i32 %3), with its block %4: %5 = add i32 %3, %3; ret i32 %5
abbrev pub doubling : Name → FunctionTree
doubling name = function_named name (param i32 3 ∷ []) (block 4 (add 5 (at 3) (at 3) ∷ ret (at 5) ∷ []) ∷ [])

-- the name `@g`
abbrev pub g : Name
g = Text (codes "g")

-- `@f` returns one more than what it is given by `@g`, which doubles
abbrev pub calls_g : ModuleTree
calls_g = with_functions (calling g ∷ doubling g ∷ [])

-- carried out in a function, at that place of its block %n, where the names have these values
abbrev pub frame_in : (function : Name) (n place : ℕ) → Env → Frame
frame_in function n place env = record { function = function; block = Number n; place = place; env = env }

-- a run that goes on without events, with this frame at work, these callers, this memory and this world
abbrev pub live_with : Frame → (callers : List Frame) → Memory → World → State
live_with frame callers memory v = Live (record { frame = frame; callers = callers; memory = memory; world = v; events = [] })

-- the name %n has the value x, and no other name has one
abbrev pub one_value : (n x : ℕ) → Env
one_value n x = set_value no_values (Number n) (int32 x)

-- the run of `@f` with 5, after n steps
abbrev pub calls_g_after : ℕ → Memory → World → State
calls_g_after n memory v = run (step calls_g) n (start calls_g f (int32 5 ∷ []) memory v)

-- no other function than `@f`
abbrev pub calls_outside : ModuleTree
calls_outside = with_functions (calling g ∷ [])

-- `@g` is declared, and has no block
abbrev pub calls_declared : ModuleTree
calls_declared = with_functions (calling g ∷ function_named g (param i32 0 ∷ []) [] ∷ [])

-- a name with a meaning
abbrev pub smax : Name
smax = Text (codes "llvm.smax.i32")

-- a function of this name has a block here
abbrev pub calls_smax : ModuleTree
calls_smax = with_functions (calling smax ∷ doubling smax ∷ [])

-- with no factor does the module allow any of these
abbrev pub AllowsNone : ModuleTree → List ModuleTree → Type 0
AllowsNone read others = AllByRecursion (λ printed. (c : ℕ) → Allows read printed c → ⊥) others

-- ---- a block more

-- define i32 @f(): from %0 to %1, which returns 5
abbrev pub direct : ModuleTree
direct = one_function [] (block 0 (jump 1 ∷ []) ∷ block 1 (ret (number 5) ∷ []) ∷ [])

-- the same by way of a block %2 between them
abbrev pub detour : ModuleTree
detour = one_function [] (block 0 (jump 2 ∷ []) ∷ block 1 (ret (number 5) ∷ []) ∷ block 2 (jump 1 ∷ []) ∷ [])

-- the block %n of @f
abbrev pub block_name : ℕ → BlockName
block_name n = record { function = f; block = Number n }

-- each entry of %1 costs one step
abbrev pub one_more : Charge
one_more = record { block = block_name 1; cost = 1 }

-- ---- modules that stand still, and such in which the first of several counts

-- the run stands still after 9 steps: a further one changes nothing, and it has not returned
abbrev pub StandsStill : ModuleTree → List Value → Type 0
StandsStill m args =
    (memory : Memory) (v : World) → (run (step m) 10 (start m f args memory v) ≡ run (step m) 9 (start m f args memory v)) × (observed m f args memory v 9 ≡ Going [])

-- define i32 @f(): returns %1, which has no value
abbrev pub without_value : ModuleTree
without_value = one_function [] (block 0 (ret (at 1) ∷ []) ∷ [])

-- define i32 @f(i1 %1): returns %1 as an i32
abbrev pub of_another_type : ModuleTree
of_another_type = one_function (param i1 1 ∷ []) (block 0 (ret (at 1) ∷ []) ∷ [])

-- goes to a block that isn't there
abbrev pub without_block : ModuleTree
without_block = one_function [] (block 0 (jump 1 ∷ []) ∷ [])

-- begins with a phi
abbrev pub phi_at_the_start : ModuleTree
phi_at_the_start = one_function [] (block 0 (phi 1 (number 5) 0 (number 6) 0 ∷ ret (number 7) ∷ []) ∷ [])

-- a phi behind a sum
abbrev pub phi_behind : ModuleTree
phi_behind =
    one_function [] (block 0 (jump 1 ∷ []) ∷ block 1 (add 2 (number 1) (number 1) ∷ phi 3 (number 5) 0 (number 6) 0 ∷ ret (at 3) ∷ []) ∷ [])

-- a phi without an entry for the block that was left
abbrev pub without_entry : ModuleTree
without_entry = one_function [] (block 0 (jump 1 ∷ []) ∷ block 1 (phi 2 (number 5) 3 (number 6) 4 ∷ ret (at 2) ∷ []) ∷ [])

-- define i32 @f(): returns x
abbrev pub returns : ℕ → FunctionTree
returns x = function_named f [] (block 0 (ret (number x) ∷ []) ∷ [])

-- two functions, two parameters, two blocks and two entries of one name
abbrev pub two_functions : ModuleTree
two_functions = with_functions (returns 1 ∷ returns 2 ∷ [])

abbrev pub two_parameters : ModuleTree
two_parameters = one_function (param i32 1 ∷ param i32 1 ∷ []) (block 0 (ret (at 1) ∷ []) ∷ [])

abbrev pub two_blocks : ModuleTree
two_blocks = one_function [] (block 0 (jump 1 ∷ []) ∷ block 1 (ret (number 1) ∷ []) ∷ block 1 (ret (number 2) ∷ []) ∷ [])

abbrev pub two_entries : ModuleTree
two_entries = one_function [] (block 0 (jump 1 ∷ []) ∷ block 1 (phi 2 (number 1) 0 (number 2) 0 ∷ ret (at 2) ∷ []) ∷ [])

-- ---- comparisons at the edges of i32

abbrev pub edges : List ℕ
edges = 0 ∷ 1 ∷ 2147483647 ∷ 2147483648 ∷ 4294967295 ∷ []

abbrev pub digit_of : Value → ℕ
digit_of (Int w x) = 48 + x
digit_of v = 63

abbrev pub digit_from : Option Typed → List Event → ℕ
digit_from (Some t) [] = digit_of t.value
digit_from v events = 63

-- the digit of a returned number, which is below 10 here; a question mark for everything else
abbrev pub digit_in : Observation → ℕ
digit_in (Returned e) = digit_from e.value e.events
digit_in o = 63

-- for each edge x a line with the digit that `tests p x y` returns for each edge y
abbrev pub table_of : Pred → Memory → World → List (List ℕ)
table_of p memory v = map (λ x. map (λ y. digit_in (observed (tests p x y) f [] memory v 3)) edges) edges

-- five lines of five digits
abbrev pub lines : (a b c d e : List ℕ) → List (List ℕ)
lines a b c d e = a ∷ b ∷ c ∷ d ∷ e ∷ []

-- by the predicate the five lines of the table are these, whatever the memory and the world
abbrev pub Compares : Pred → (a b c d e : String) → Type 0
Compares p a b c d e = (memory : Memory) (v : World) → table_of p memory v ≡ lines (codes a) (codes b) (codes c) (codes d) (codes e)
