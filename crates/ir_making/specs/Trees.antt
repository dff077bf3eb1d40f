-- Instructions, functions and modules from their parts, as trees whose locals are numbers.
use Rattle.std.specs.Prelude.{ℕ, false, codes, List, [], ◌∷◌, map, Option, Some, None}
use Rattle.ir_types.specs.declared.name.Name.{Name}
use Rattle.ir_types.specs.declared.name.Name.TheVariants.{Text, Number}
use Rattle.ir_types.specs.declared.inst.Ty.{Ty}
use Rattle.ir_types.specs.declared.inst.Ty.TheVariants.{Int, Vector, Void}
use Rattle.ir_types.specs.declared.inst.BinOp.TheVariants.{Add}
use Rattle.ir_types.specs.declared.inst.Pred.{Pred}
use Rattle.ir_types.specs.declared.call.Actual.{Actual}
use Rattle.ir_types.specs.declared.call.TailKind.TheVariants.{Unmarked}
use Rattle.ir_types.specs.Kinds.{Kind, Binary, Compare, Phi, Call, Jump, Branch, Return}
use Rattle.ir_types.specs.Tree.{OperandTree, local, InstTree, BlockTree, ParamTree, FunctionTree, ModuleTree}
use Rattle.ir_types.specs.FlagForms.{no_flags}
use Rattle.ir_types.specs.InstForms.{bare_inst}
use Rattle.ir_types.specs.FunctionForms.{named_by}
use Rattle.ir_types.specs.Collected.{symbol_of_function}

abbrev pub i1 : Ty
i1 = Int 1

abbrev pub i32 : Ty
i32 = Int 32

abbrev pub i8x2 : Ty
i8x2 = Vector 2 8

-- `%n`
abbrev pub at : ℕ → OperandTree
at n = local (Number n)

-- ---- instructions, without attachments

-- an instruction with a result of this name
abbrev pub gives_name : ℕ → InstTree → InstTree
gives_name n i = named_by i (Some (Number n))

-- `br label %n`
abbrev pub jump : ℕ → InstTree
jump n = bare_inst Jump Void [] (Number n ∷ [])

-- `br i1 %c, label %on, label %off`
abbrev pub branch : (c on off : ℕ) → InstTree
branch c on off = bare_inst Branch Void (at c ∷ []) (Number on ∷ Number off ∷ [])

-- `ret T x`
abbrev pub ret_at : Ty → OperandTree → InstTree
ret_at ty x = bare_inst (Return ty) Void (x ∷ []) []

-- `ret i32 x`
abbrev pub ret : OperandTree → InstTree
ret x = ret_at i32 x

-- `%n = phi i32 [ x, %l ], [ y, %m ]`
abbrev pub phi : (n : ℕ) (x : OperandTree) (l : ℕ) (y : OperandTree) (m : ℕ) → InstTree
phi n x l y m = gives_name n (bare_inst Phi i32 (x ∷ y ∷ []) (Number l ∷ Number m ∷ []))

-- `%n = add i32 x, y`
abbrev pub add : (n : ℕ) → (x y : OperandTree) → InstTree
add n x y = gives_name n (bare_inst (Binary Add no_flags) i32 (x ∷ y ∷ []) [])

-- `%n = icmp p i32 x, y`
abbrev pub icmp : (n : ℕ) → Pred → (x y : OperandTree) → InstTree
icmp n p x y = gives_name n (bare_inst (Compare p i32) i1 (x ∷ y ∷ []) [])

-- an argument of a type
abbrev pub actual : Ty → Actual
actual ty = record { ty = ty; kept = [] }

-- `%n = call i32 @name(T x, ..)`
abbrev pub call : (n : ℕ) → Name → List Ty → List OperandTree → InstTree
call n name types args =
    gives_name n (bare_inst (Call (record { tail = Unmarked; before = []; signature = None; name = name; actuals = map actual types; after = [] })) i32 args [])

-- ---- blocks, functions and modules

abbrev pub block : ℕ → List InstTree → BlockTree
block n insts = record { name = Number n; insts = insts }

abbrev pub param : Ty → ℕ → ParamTree
param ty n = record { ty = ty; kept = []; name = Number n }

-- a function that returns an i32
abbrev pub function_named : Name → List ParamTree → List BlockTree → FunctionTree
function_named name params body = record { name = name; before = []; ret = i32; params = params; varargs = false; after = []; body = body }

-- a module of these functions alone
abbrev pub with_functions : List FunctionTree → ModuleTree
with_functions fs = record { head = []; type_names = []; symbols = map symbol_of_function fs; functions = fs; tail = [] }

-- the name `@f`
abbrev pub f : Name
f = Text (codes "f")

-- a module with the function `@f` alone
abbrev pub one_function : List ParamTree → List BlockTree → ModuleTree
one_function params body = with_functions (function_named f params body ∷ [])
