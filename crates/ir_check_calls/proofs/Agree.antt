-- What is said of functions as they are held is what the rule says of their trees.
use Rattle.std.proofs.Common.{◌≡◌, Bool, true, false, not, ◌&&◌, List, [], ◌∷◌, map, take, length, Option, Some, None, refl, ap, ◌∙◌, if◌then◌else◌}
use Rattle.std.proofs.lemmas.List.{take-map, length-map}
use Rattle.ir_types.specs.declared.name.Name.{Name}
use Rattle.ir_types.specs.declared.call.Actual.{Actual}
use Rattle.ir_types.specs.declared.call.Callee.{Callee}
use Rattle.ir_types.specs.declared.call.Signature.{Signature}
use Rattle.ir_types.specs.declared.inst.Ty.{Ty}
use Rattle.ir_types.specs.declared.module.Block.{Block}
use Rattle.ir_types.specs.declared.module.Param.{Param}
use Rattle.ir_types.specs.declared.module.Function.{Function}
use Rattle.ir_types.specs.Names.{same_name}
use Rattle.ir_types.specs.Kinds.{actual_types}
use Rattle.ir_types.specs.Denotes.{Tables, block_in, param_in, function_in}
use Rattle.ir_types.specs.Tree.{ParamTree}
use Rattle.ir_rules.specs.Operands.{same_type}
use Rattle.ir_intrinsics.specs.Intrinsics.{Signed, Meant}
use Rattle.ir_rules.specs.Callees.{same_types, same_flag, param_types, is_declared, has_signature, may_mean, signature_agrees, arguments_agree, is_called_rightly}
use Rattle.ir_check_calls.specs.Heads.{types_of, has_no_block, has_signature_of, may_mean_of, signature_agrees_with, arguments_agree_with, types_agree}

declared_same : (t : Tables) (ns : List Name) (bs : List Block) → is_declared (map (block_in t ns) bs) ≡ has_no_block bs
declared_same t ns [] = refl
declared_same t ns (b ∷ bs) = refl

types_same : (ns : List Name) (ps : List Param) → map (λ (p : ParamTree). p.ty) (map (param_in ns) ps) ≡ types_of ps
types_same ns [] = refl
types_same ns (p ∷ ps) = ap (λ ts. p.ty ∷ ts) (types_same ns ps)

-- ---- declared names

signature_same : (t : Tables) (f : Function) (s : Signed) → has_signature (function_in t f) s ≡ has_signature_of f s
signature_same t f s =
    ap (λ b. b && (not f.varargs && (same_type s.ret f.ret && same_types s.params (param_types (function_in t f))))) (declared_same t f.names f.body)
    ∙ ap (λ ts. has_no_block f.body && (not f.varargs && (same_type s.ret f.ret && same_types s.params ts))) (types_same f.names f.params)

meaning_same : (t : Tables) (f : Function) (o : Option Signed) → ◌≡◌ {A = Bool} (elim o [ Some s ↦ has_signature (function_in t f) s | None ↦ is_declared (map (block_in t f.names) f.body) ]) (elim o [ Some s ↦ has_signature_of f s | None ↦ has_no_block f.body ])
meaning_same t f None = declared_same t f.names f.body
meaning_same t f (Some s) = signature_same t f s

-- what a function may mean is the same of its tree
pub may_mean_same : (t : Tables) (f : Function) (meant : Meant) → may_mean (function_in t f) meant ≡ may_mean_of f meant
may_mean_same t f meant = meaning_same t f meant.signature

-- ---- calls

written_same : (t : Tables) (f : Function) (o : Option Signature) → signature_agrees o (function_in t f) ≡ signature_agrees_with o f
written_same t f None = refl
written_same t f (Some s) = ap (λ ts. same_types s.params ts && same_flag s.varargs f.varargs) (types_same f.names f.params)

counted_same : (b : Bool) (ps : List Param) (ns : List Name) (actuals : List Actual) → (if b then take (length (map (param_in ns) ps)) (map (λ (a : Actual). a.ty) actuals) else map (λ (a : Actual). a.ty) actuals) ≡ map (λ (a : Actual). a.ty) (if b then take (length ps) actuals else actuals)
counted_same true ps ns actuals = ap (λ n. take n (map (λ (a : Actual). a.ty) actuals)) (length-map ps (param_in ns)) ∙ take-map (λ (a : Actual). a.ty) (length ps) actuals
counted_same false ps ns actuals = refl

arguments_same : (t : Tables) (f : Function) (actuals : List Actual) → arguments_agree (map (λ (a : Actual). a.ty) actuals) (function_in t f) ≡ arguments_agree_with actuals f
arguments_same t f actuals =
    ap (λ ts. same_types ts (param_types (function_in t f))) (counted_same f.varargs f.params f.names actuals)
    ∙ ap (λ ts. same_types (map (λ (a : Actual). a.ty) (if f.varargs then take (length f.params) actuals else actuals)) ts) (types_same f.names f.params)

-- and whether it is called rightly
pub called_same : (t : Tables) (callee : Callee) (ty : Ty) (f : Function) → is_called_rightly callee ty (function_in t f) ≡ (same_name callee.name f.name && types_agree callee ty f)
called_same t callee ty f =
    ap (λ b. same_name callee.name f.name && (same_type ty f.ret && (b && arguments_agree (actual_types callee) (function_in t f)))) (written_same t f callee.signature)
    ∙ ap (λ b. same_name callee.name f.name && (same_type ty f.ret && (signature_agrees_with callee.signature f && b))) (arguments_same t f callee.actuals)
