-- A function of a module, and what is said in its tree.
use Rattle.std.specs.Prelude.{◌≡◌, ◌<◌, ℕ, Bool, ◌&&◌, List, map, length, IfSome}
use Rattle.std.specs.List.{list_any, AllByRecursion}
use Rattle.ir_types.specs.declared.name.ValueId.{ValueId}
use Rattle.ir_types.specs.declared.inst.Operand.{Operand}
use Rattle.ir_types.specs.declared.inst.Operand.TheVariants.{Local}
use Rattle.ir_types.specs.declared.inst.InstKind.{InstKind}
use Rattle.ir_types.specs.declared.inst.Inst.{Inst}
use Rattle.ir_types.specs.declared.module.Function.{Function}
use Rattle.ir_types.specs.declared.module.Module.{Module}
use Rattle.ir_types.specs.Names.{name_at, same_name}
use Rattle.ir_types.specs.Denotes.{tables_of, operand_in, kind_in, inst_in, function_in, tree_of}
use Rattle.ir_types.specs.Kinds.{Kind}
use Rattle.ir_types.specs.Tree.{OperandTree, InstTree}
use Rattle.ir_rules.specs.Locals.{Given, Definition, definitions_of}
use Rattle.ir_rules.specs.Mismatch.{Around, around}
use Rattle.ir_check_fits.specs.declared.locals.Role.{Role}
use Rattle.ir_check_fits.specs.Roles.{has_role}

-- a function of a module
pub record Site : Type 0 where
  pub whole : Module
  pub part : Function

-- an operand and operands there, what an instruction does, and an instruction
abbrev pub operand_at : Site → Operand → OperandTree
operand_at s a = operand_in (tables_of s.whole) s.part.names a

abbrev pub operands_at : Site → List Operand → List OperandTree
operands_at s args = map (operand_at s) args

abbrev pub kind_at : Site → InstKind → Kind
kind_at s k = kind_in (tables_of s.whole) k

abbrev pub inst_at : Site → Inst → InstTree
inst_at s i = inst_in (tables_of s.whole) s.part.names i

-- what local names are given to there, and all that instructions work on
abbrev pub locals_at : Site → List Definition
locals_at s = definitions_of (function_in (tables_of s.whole) s.part)

abbrev pub around_at : Site → Around
around_at s = around (tree_of s.whole) (function_in (tables_of s.whole) s.part)

-- a local name is given to something that passes a test
abbrev pub is_given : Site → ℕ → (Given → Bool) → Bool
is_given s i p = list_any (λ (d : Definition). same_name (name_at s.part.names i) d.name && p d.given) (locals_at s)

-- the roles of each name are what it is given to
abbrev pub AreRoles : Site → List (List Role) → Type 0
AreRoles s lists = (i : ℕ) (p : Given → Bool) → i < length s.part.names → has_role lists i p ≡ is_given s i p

-- ---- places of local names

-- a local name's place is one of so many
abbrev pub IsHere : ℕ → Operand → Type 0
IsHere count (Local id) = id.0 < count
IsHere count a = Unit {0}

abbrev pub IsNamed : ℕ → ValueId → Type 0
IsNamed count id = id.0 < count

-- so is each in an instruction
pub record IsInstHere (count : ℕ) (i : Inst) : Type 0 where
  pub args : AllByRecursion (IsHere count) i.args
  pub labels : AllByRecursion (IsNamed count) i.labels
  pub result : IfSome i.result (IsNamed count)
