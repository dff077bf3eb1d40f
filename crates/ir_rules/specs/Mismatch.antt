-- Rule: operands, results, labels, numbers, alignments and memory types fit their instructions. (LLVM's Language Reference, "Instruction
-- Reference".)
use Rattle.std.specs.Prelude.{ℕ, zero, suc, ◌^◌, Bool, true, false, not, ◌&&◌, nat_eq, is_none, List, [], ◌∷◌, ◌++◌, length, map, drop, zip, Option, Some, None, if◌then◌else◌}
use Rattle.std.specs.List.{list_any, list_all}
use Rattle.text_forms.specs.Nested.{concat}
use Rattle.ir_types.specs.declared.name.Name.{Name}
use Rattle.ir_types.specs.declared.inst.Ty.{Ty}
use Rattle.ir_types.specs.declared.inst.Ty.TheVariants.{Int, Vector, Void}
use Rattle.ir_types.specs.Kinds.{Kind, Binary, Compare, Select, Freeze, Trunc, Zext, Sext, PtrToInt, Phi, Offset, Load, Store, Call, Extract, Insert, Shuffle, Jump, Branch, Switch, ReturnVoid, Return, Unreachable, operand_types, actual_types}
use Rattle.ir_types.specs.Tree.{OperandTree, local, number, InstTree, FunctionTree, SymbolKindTree, variable, function, SymbolTree, ModuleTree}
use Rattle.ir_types.specs.TypeNodes.{TypeNode}
use Rattle.ir_types.specs.Offsets.{Definitions as TypeDefinitions}
use Rattle.ir_rules.specs.declared.fault.Subject.{Subject}
use Rattle.ir_rules.specs.declared.fault.Subject.TheVariants.{Nothing}
use Rattle.ir_rules.specs.declared.fault.Breach.{Breach}
use Rattle.ir_rules.specs.Breaches.{Found, outside, in_functions, in_insts, result_of}
use Rattle.ir_rules.specs.Locals.{Definition, definitions_of}
use Rattle.ir_rules.specs.Operands.{same_type, is_integral, is_vector, is_bits, is_wider, is_condition_for, is_label, fit}
use Rattle.ir_rules.specs.Steps.{type_definitions, has_size, is_stepped}
use Rattle.ir_intrinsics.specs.Intrinsics.{Intrinsic, masked_load, masked_store, Meant, meant_by}

-- ---- numbers

-- the alignments: the powers of two from 1 to 2^32
abbrev pub powers_below : ℕ → List ℕ
powers_below zero = []
powers_below (suc n) = 2 ^ n ∷ powers_below n

abbrev pub is_alignment : ℕ → Bool
is_alignment n = list_any (nat_eq n) (powers_below 33)

-- an operand that is a written alignment
abbrev pub is_written_alignment : OperandTree → Bool
is_written_alignment (number n) = is_alignment n
is_written_alignment a = false

-- the type of a shuffle's mask: a vector of 32 bits each
abbrev pub is_mask_type : Ty → Bool
is_mask_type (Vector n w) = nat_eq w 32
is_mask_type t = false

-- an integer
abbrev pub is_integer : Ty → Bool
is_integer (Int w) = true
is_integer t = false

-- a type is that of a vector's elements, which are integers
abbrev pub is_element_of : Ty → Ty → Bool
is_element_of (Vector n v) (Int w) = nat_eq w v
is_element_of t u = false

-- the operand is no local: a mask has to be a constant
abbrev pub is_constant : OperandTree → Bool
is_constant (local n) = false
is_constant a = true

-- ---- calls

-- where the argument behind the pointer of a masked access is its alignment, of 32 bits: what is loaded or stored has no elements of one bit, and the alignment
-- is a number that is written there
abbrev pub is_access_right : Intrinsic → Ty → List Ty → List OperandTree → Bool
is_access_right masked_load ty (place ∷ width ∷ types) (pointer ∷ align ∷ args) = if same_type width (Int 32) then not (is_bits ty) && is_written_alignment align else true
is_access_right masked_store ty (stored ∷ place ∷ width ∷ types) (a ∷ pointer ∷ align ∷ args) = if same_type width (Int 32) then not (is_bits stored) && is_written_alignment align else true
is_access_right intrinsic ty types args = true

-- the same of what is called, where it is an intrinsic
abbrev pub is_meant_right : Option Meant → Ty → List Ty → List OperandTree → Bool
is_meant_right None ty types args = true
is_meant_right (Some meant) ty types args = is_access_right meant.intrinsic ty types args

-- ---- instructions

-- what an instruction works on: the definitions of names of types and of locals, and the type that its function returns
pub record Around : Type 0 where
  pub types : TypeDefinitions
  pub locals : List Definition
  pub ret : Ty

-- whether indexes lead on from a pointer through a memory type
abbrev pub leads_on : TypeDefinitions → List TypeNode → List ℕ → List OperandTree → Bool
leads_on defs nodes widths [] = false
leads_on defs nodes widths (pointer ∷ indexes) = is_stepped defs nodes (zip widths indexes)

-- whether types, alignments and what is stepped through, called or returned fit an instruction of a kind with a result of a type
abbrev pub kind_fits : Around → Kind → Ty → List OperandTree → Bool
kind_fits x (Binary op flags) ty args = is_integral ty
kind_fits x (Compare p of) ty args = true
kind_fits x (Select condition last) ty args = is_condition_for ty condition && same_type ty last
kind_fits x Freeze ty args = true
kind_fits x (Trunc from nuw nsw) ty args = is_wider from ty
kind_fits x (Zext from nneg) ty args = is_wider ty from
kind_fits x (Sext from) ty args = is_wider ty from
kind_fits x PtrToInt ty args = is_integer ty
kind_fits x Phi ty args = true
kind_fits x (Offset nodes widths inbounds nuw nusw) ty args = leads_on x.types nodes widths args
kind_fits x (Load align) ty args = not (is_bits ty) && is_alignment align
kind_fits x (Store of align) ty args = not (is_bits of) && is_alignment align
kind_fits x (Call c) ty args = is_meant_right (meant_by c.name) ty (actual_types c) args
kind_fits x (Extract of width) ty args = is_vector of
kind_fits x (Insert element width) ty args = is_element_of ty element
kind_fits x (Shuffle of other mask) ty args = is_vector of && (same_type of other && (is_mask_type mask && list_all is_constant (drop 2 args)))
kind_fits x Jump ty args = true
kind_fits x Branch ty args = true
kind_fits x (Switch width cases) ty args = true
kind_fits x ReturnVoid ty args = same_type x.ret Void
kind_fits x (Return of) ty args = same_type x.ret of
kind_fits x Unreachable ty args = true

-- whether the operands have the types that an instruction of a kind takes
abbrev pub operands_fit : Around → Kind → Ty → List OperandTree → Bool
operands_fit x kind ty args = fit x.locals (operand_types kind ty (length args)) args

-- only an instruction that gives a value has a result
abbrev pub result_fits : Ty → Option Name → Bool
result_fits Void result = is_none result
result_fits t result = true

-- whether an instruction fits: no number in it is out of its type's range, and its result, its labels, its operands and its types fit
abbrev pub inst_fits : Around → InstTree → Bool
inst_fits x i =
    not i.wide
    && (result_fits i.ty i.result
    && (list_all (is_label x.locals) i.labels
    && (operands_fit x i.kind i.ty i.args && kind_fits x i.kind i.ty i.args)))

-- ---- where something doesn't fit

-- an instruction that doesn't fit is named by its result
abbrev pub misfits : Around → InstTree → List Subject
misfits x i = if inst_fits x i then [] else result_of i ∷ []

abbrev pub around : ModuleTree → FunctionTree → Around
around m f = record { types = type_definitions m; locals = definitions_of f; ret = f.ret }

-- in a function
abbrev pub mismatches : ModuleTree → FunctionTree → List Found
mismatches m f = in_insts (misfits (around m f)) f

-- a variable whose type has no size
abbrev pub sizeless : ModuleTree → SymbolKindTree → List Breach
sizeless m (variable nodes writable) = if has_size (type_definitions m) nodes then [] else outside Nothing ∷ []
sizeless m function = []

abbrev pub type_mismatches : ModuleTree → List Breach
type_mismatches m = concat (map (λ (s : SymbolTree). sizeless m s.kind) m.symbols) ++ in_functions (mismatches m) m
