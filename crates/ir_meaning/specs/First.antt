-- The modules of which it is claimed by now that what is printed does what they allow: those of i1 and i32 alone, and of `add` without a flag, `icmp`,
-- `phi`, `br` and `ret` of a value, without variables.
use Rattle.std.specs.Prelude.{◌≡◌, ◌⊎◌, false}
use Rattle.std.specs.List.{AllByRecursion}
use Rattle.ir_types.specs.declared.inst.Ty.{Ty}
use Rattle.ir_types.specs.declared.inst.Ty.TheVariants.{Int, Ptr, Vector, Void}
use Rattle.ir_types.specs.declared.inst.BinOp.TheVariants.{Add}
use Rattle.ir_types.specs.Kinds.{Kind, Binary, Compare, Phi, Jump, Branch, Return}
use Rattle.ir_types.specs.Tree.{InstTree, BlockTree, ParamTree, FunctionTree, SymbolKindTree, variable, function, SymbolTree, ModuleTree}
use Rattle.ir_meaning.specs.Values.{has_flag}

-- i1 or i32
abbrev pub IsFirstType : Ty → Type 0
IsFirstType (Int w) = (w ≡ 1) ⊎ (w ≡ 32)
IsFirstType Ptr = ⊥
IsFirstType (Vector n w) = ⊥
IsFirstType Void = ⊥

-- `add` without a flag, `icmp`, `phi`, `br` or `ret`, of i1 or i32
abbrev pub IsFirstInst : Kind → Ty → Type 0
IsFirstInst (Binary op flags) ty = (op ≡ Add) × (has_flag flags ≡ false) × IsFirstType ty
IsFirstInst (Compare p of) ty = IsFirstType of
IsFirstInst Phi ty = IsFirstType ty
IsFirstInst Jump ty = Unit {0}
IsFirstInst Branch ty = Unit {0}
IsFirstInst (Return of) ty = IsFirstType of
IsFirstInst kind ty = ⊥

-- a function of such types and instructions alone
pub record IsFirstFunction (f : FunctionTree) : Type 0 where
  pub ret : IsFirstType f.ret
  pub params : AllByRecursion (λ (p : ParamTree). IsFirstType p.ty) f.params
  pub insts : AllByRecursion (λ (b : BlockTree). AllByRecursion (λ (i : InstTree). IsFirstInst i.kind i.ty) b.insts) f.body

-- no variable
abbrev pub IsNoVariable : SymbolKindTree → Type 0
IsNoVariable (variable nodes writable) = ⊥
IsNoVariable function = Unit {0}

-- a module of such functions alone, without variables
pub record IsFirstModule (m : ModuleTree) : Type 0 where
  pub functions : AllByRecursion IsFirstFunction m.functions
  pub symbols : AllByRecursion (λ (s : SymbolTree). IsNoVariable s.kind) m.symbols
