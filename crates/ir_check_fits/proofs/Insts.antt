-- Results of instructions.
use Rattle.std.proofs.Common.{◌≡◌, Bool, true, false, ◌||◌, ◌&&◌, not, List, map, Option, Some, None, is_none, option_map, refl, ap}
use Rattle.std.specs.List.{list_all}
use Rattle.ir_types.specs.declared.name.Name.{Name}
use Rattle.ir_types.specs.declared.name.ValueId.{ValueId}
use Rattle.ir_types.specs.declared.inst.Ty.{Ty}
use Rattle.ir_types.specs.declared.inst.Ty.TheVariants.{Int, Ptr, Vector, Void}
use Rattle.ir_types.specs.declared.inst.Inst.{Inst}
use Rattle.ir_types.specs.Denotes.{name_in}
use Rattle.ir_rules.specs.Operands.{is_valued, is_label}
use Rattle.ir_rules.specs.Mismatch.{result_fits, operands_fit, kind_fits, inst_fits}
use Rattle.ir_check_fits.specs.Sites.{Site, locals_at, around_at, operand_at, kind_at, inst_at}

result_right : (ty : Ty) (names : List Name) (o : Option ValueId) → result_fits ty (option_map (name_in names) o) ≡ (is_none o || is_valued ty)
result_right Void names None = refl
result_right Void names (Some id) = refl
result_right (Int w) names None = refl
result_right (Int w) names (Some id) = refl
result_right Ptr names None = refl
result_right Ptr names (Some id) = refl
result_right (Vector n w) names None = refl
result_right (Vector n w) names (Some id) = refl

-- the head, and what is behind it
pub inst_right : (s : Site) (i : Inst) → inst_fits (around_at s) (inst_at s i) ≡ (not i.wide && (is_none i.result || is_valued i.ty) && (list_all (is_label (locals_at s)) (map (name_in s.part.names) i.labels) && (operands_fit (around_at s) (kind_at s i.kind) i.ty (map (operand_at s) i.args) && kind_fits (around_at s) (kind_at s i.kind) i.ty (map (operand_at s) i.args))))
inst_right s i = together (not i.wide) _ _ _ (result_right i.ty s.part.names i.result)
  where
    together : (w a b c : Bool) → a ≡ b → (w && (a && c)) ≡ (w && b && c)
    together true a b c e = ap (λ (x : Bool). x && c) e
    together false a b c e = refl
