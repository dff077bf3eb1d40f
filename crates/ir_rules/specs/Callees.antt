-- Rule: what is called is a function whose types are the call's, and a name that this project gives a meaning has the signature that goes with it
-- and no body.
use Rattle.std.specs.Prelude.{Bool, true, false, not, ◌&&◌, List, [], ◌∷◌, ◌++◌, map, take, length, Option, Some, None, if◌then◌else◌}
use Rattle.std.specs.List.{list_any}
use Rattle.text_forms.specs.Nested.{concat}
use Rattle.ir_types.specs.declared.name.Name.{Name}
use Rattle.ir_types.specs.declared.call.Callee.{Callee}
use Rattle.ir_types.specs.declared.call.Signature.{Signature}
use Rattle.ir_types.specs.declared.inst.Ty.{Ty}
use Rattle.ir_types.specs.Names.{same_name}
use Rattle.ir_types.specs.Kinds.{Kind, Call, actual_types}
use Rattle.ir_types.specs.Tree.{ParamTree, BlockTree, FunctionTree, SymbolKindTree, variable, function, SymbolTree, ModuleTree}
use Rattle.ir_rules.specs.declared.fault.Subject.{Subject}
use Rattle.ir_rules.specs.declared.fault.Subject.TheVariants.{Symbol}
use Rattle.ir_rules.specs.declared.fault.Breach.{Breach}
use Rattle.ir_rules.specs.Breaches.{Found, outside, in_functions, in_insts}
use Rattle.ir_rules.specs.Operands.{same_type}
use Rattle.ir_intrinsics.specs.Intrinsics.{Signed, Meant, meant_by}

-- whether two lists of types are one
abbrev pub same_types : List Ty → List Ty → Bool
same_types [] [] = true
same_types (t ∷ ts) (u ∷ us) = same_type t u && same_types ts us
same_types ts us = false

-- whether two flags are one
abbrev pub same_flag : Bool → Bool → Bool
same_flag true b = b
same_flag false b = not b

-- the types of a function's parameters
abbrev pub param_types : FunctionTree → List Ty
param_types f = map (λ (p : ParamTree). p.ty) f.params

-- ---- names with a meaning

-- no block: the function is declared
abbrev pub is_declared : List BlockTree → Bool
is_declared [] = true
is_declared (b ∷ bs) = false

-- a function has this signature, takes no further arguments, and has no body
abbrev pub has_signature : FunctionTree → Signed → Bool
has_signature f s = is_declared f.body && (not f.varargs && (same_type s.ret f.ret && same_types s.params (param_types f)))

-- a function may have a name with this meaning: it is declared, with the signature if there is one; the lifetimes have any
abbrev pub may_mean : FunctionTree → Meant → Bool
may_mean f meant = elim meant.signature [ Some s ↦ has_signature f s | None ↦ is_declared f.body ]

-- a symbol with a meaning is no variable, and a function of its name may have the meaning
abbrev pub means_rightly : List FunctionTree → Name → SymbolKindTree → Meant → Bool
means_rightly fs name (variable nodes writable) meant = false
means_rightly fs name function meant = list_any (λ f. same_name name f.name && may_mean f meant) fs

-- a symbol whose name has a meaning that it can't have
abbrev pub misdeclared : List FunctionTree → SymbolTree → List Breach
misdeclared fs s = elim (meant_by s.name) [ Some meant ↦ if means_rightly fs s.name s.kind meant then [] else outside (Symbol s.name) ∷ [] | None ↦ [] ]

-- ---- calls

-- the types that a call writes before the name, where it does, are the function's
abbrev pub signature_agrees : Option Signature → FunctionTree → Bool
signature_agrees None f = true
signature_agrees (Some s) f = same_types s.params (param_types f) && same_flag s.varargs f.varargs

-- the types of the arguments are those of the parameters; where the function takes further ones, there may be more
abbrev pub arguments_agree : List Ty → FunctionTree → Bool
arguments_agree types f = same_types (if f.varargs then take (length f.params) types else types) (param_types f)

-- a function is called with its types
abbrev pub is_called_rightly : Callee → Ty → FunctionTree → Bool
is_called_rightly callee ty f =
    same_name callee.name f.name && (same_type ty f.ret && (signature_agrees callee.signature f && arguments_agree (actual_types callee) f))

-- what an instruction calls, where no function of the name has the call's types
abbrev pub miscalled_by : List FunctionTree → Kind → Ty → List Subject
miscalled_by fs (Call callee) ty = if list_any (is_called_rightly callee ty) fs then [] else Symbol callee.name ∷ []
miscalled_by fs kind ty = []

-- in a function
abbrev pub miscalls : ModuleTree → FunctionTree → List Found
miscalls m f = in_insts (λ i. miscalled_by m.functions i.kind i.ty) f

abbrev pub unknown_callees : ModuleTree → List Breach
unknown_callees m = concat (map (misdeclared m.functions) m.symbols) ++ in_functions (miscalls m) m
