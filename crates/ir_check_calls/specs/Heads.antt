-- The rule in the words of functions that names are looked up among.
use Rattle.std.specs.Prelude.{◌≡◌, Bool, true, false, not, ◌&&◌, slice_get, position, List, [], ◌∷◌, map, take, length, Option, Some, None, if◌then◌else◌}
use Rattle.ir_types.specs.declared.name.Name.{Name}
use Rattle.ir_types.specs.declared.call.Actual.{Actual}
use Rattle.ir_types.specs.declared.call.Callee.{Callee}
use Rattle.ir_types.specs.declared.call.Signature.{Signature}
use Rattle.ir_types.specs.declared.inst.Ty.{Ty}
use Rattle.ir_types.specs.declared.module.Block.{Block}
use Rattle.ir_types.specs.declared.module.Param.{Param}
use Rattle.ir_types.specs.declared.module.Function.{Function}
use Rattle.ir_types.specs.declared.module.Module.{Module}
use Rattle.ir_types.specs.declared.module.Symbol.{Symbol}
use Rattle.ir_types.specs.declared.module.SymbolKind.{SymbolKind}
use Rattle.ir_types.specs.declared.module.SymbolKind.TheVariants as symbols
use Rattle.ir_types.specs.Names.{same_name, has_name}
use Rattle.ir_types.specs.Kinds.{Kind, Call}
use Rattle.ir_types.specs.Denotes.{tables_of, function_in}
use Rattle.ir_rules.specs.declared.fault.Subject.{Subject}
use Rattle.ir_rules.specs.declared.fault.Subject.TheVariants.{Symbol as SymbolSubject}
use Rattle.ir_rules.specs.declared.fault.Breach.{Breach}
use Rattle.ir_rules.specs.Breaches.{first, outside, inside, in_insts}
use Rattle.ir_rules.specs.Operands.{same_type}
use Rattle.ir_rules.specs.Callees.{same_types, same_flag}
use Rattle.ir_intrinsics.specs.Intrinsics.{Signed, Meant, meant_by}

-- no name stands twice
abbrev pub Apart : List Name → Type 0
Apart [] = Unit {0}
Apart (n ∷ ns) = (has_name n ns ≡ false) × Apart ns

abbrev pub function_names : List Function → List Name
function_names fs = map (λ (f : Function). f.name) fs

-- the types of parameters
abbrev pub types_of : List Param → List Ty
types_of params = map (λ (p : Param). p.ty) params

-- ---- declared names

abbrev pub has_no_block : List Block → Bool
has_no_block [] = true
has_no_block (b ∷ bs) = false

abbrev pub has_signature_of : Function → Signed → Bool
has_signature_of f s = has_no_block f.body && (not f.varargs && (same_type s.ret f.ret && same_types s.params (types_of f.params)))

abbrev pub may_mean_of : Function → Meant → Bool
may_mean_of f meant = elim meant.signature [ Some s ↦ has_signature_of f s | None ↦ has_no_block f.body ]

-- what is only used isn't looked at
abbrev pub means_rightly_of : List Function → SymbolKind → Meant → Bool
means_rightly_of fs kind meant = elim kind [
  | symbols.Variable id writable ↦ false
  | symbols.Function id ↦ elim (slice_get fs id.0) [ Some f ↦ may_mean_of f meant | None ↦ true ]
  | symbols.Missing ↦ true
]

abbrev pub misdeclared_of : List Function → Symbol → Option Breach
misdeclared_of fs s = elim (meant_by s.name) [ Some meant ↦ if means_rightly_of fs s.kind meant then None else Some (outside (SymbolSubject s.name)) | None ↦ None ]

-- ---- calls

abbrev pub signature_agrees_with : Option Signature → Function → Bool
signature_agrees_with None f = true
signature_agrees_with (Some s) f = same_types s.params (types_of f.params) && same_flag s.varargs f.varargs

abbrev pub types_of_actuals : List Actual → List Ty
types_of_actuals actuals = map (λ (a : Actual). a.ty) actuals

abbrev pub arguments_agree_with : List Actual → Function → Bool
arguments_agree_with actuals f = same_types (types_of_actuals (if f.varargs then take (length f.params) actuals else actuals)) (types_of f.params)

abbrev pub types_agree : Callee → Ty → Function → Bool
types_agree callee ty f = same_type ty f.ret && (signature_agrees_with callee.signature f && arguments_agree_with callee.actuals f)

-- the function at the place of the name has the call's types
abbrev pub is_called_so : List Name → List Function → Callee → Ty → Bool
is_called_so names fs callee ty =
    elim (position (same_name callee.name) names) [ Some i ↦ elim (slice_get fs i) [ Some f ↦ types_agree callee ty f | None ↦ false ] | None ↦ false ]

abbrev pub miscalled_so : List Name → List Function → Kind → Ty → List Subject
miscalled_so names fs (Call callee) ty = if is_called_so names fs callee ty then [] else SymbolSubject callee.name ∷ []
miscalled_so names fs kind ty = []

-- the first wrong call in a function
abbrev pub miscalled_in : Module → List Name → Function → Option Breach
miscalled_in m names f = first (map (inside f.name) (in_insts (λ i. miscalled_so names m.functions i.kind i.ty) (function_in (tables_of m) f)))
