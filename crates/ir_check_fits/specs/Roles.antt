-- What the places of a function's names are given to.
use Rattle.std.specs.Prelude.{◌≡◌, ◌<◌, ℕ, Bool, true, false, ◌&&◌, ◌||◌, nat_eq, List, [], length, slice_index_or, Some, None}
use Rattle.std.specs.List.{list_any}
use Rattle.ir_types.specs.declared.name.ValueId.{ValueId}
use Rattle.ir_types.specs.declared.inst.Inst.{Inst}
use Rattle.ir_types.specs.declared.module.Param.{Param}
use Rattle.ir_types.specs.declared.module.Block.{Block}
use Rattle.ir_types.specs.declared.module.Function.{Function}
use Rattle.ir_rules.specs.Locals.{Given, block, value}
use Rattle.ir_rules.specs.Operands.{same_type}
use Rattle.ir_check_fits.specs.declared.locals.Role.{Role}
use Rattle.ir_check_fits.specs.declared.locals.Role.TheVariants as roles

-- a role as what a name is given to
abbrev pub as_given : Role → Given
as_given roles.Block = block
as_given (roles.Value t) = value t

-- whether two roles are one
abbrev pub same_role : Role → Role → Bool
same_role roles.Block roles.Block = true
same_role (roles.Value t) (roles.Value u) = same_type t u
same_role r s = false

-- one of some roles passes a test
abbrev pub any_passes : (Given → Bool) → List Role → Bool
any_passes p rs = list_any (λ r. p (as_given r)) rs

-- one of the roles at a place does
abbrev pub has_role : List (List Role) → ℕ → (Given → Bool) → Bool
has_role lists i p = any_passes p (slice_index_or lists i [])

-- a place is this one, and what it is given to passes a test
abbrev pub is_there : ℕ → (Given → Bool) → ValueId → Given → Bool
is_there i p id g = nat_eq i id.0 && p g

-- a place is a parameter's
abbrev pub at_param : ℕ → (Given → Bool) → Param → Bool
at_param i p x = is_there i p x.name (value x.ty)

-- or that of an instruction's result
abbrev pub at_result : ℕ → (Given → Bool) → Inst → Bool
at_result i p x = elim x.result [ Some id ↦ is_there i p id (value x.ty) | None ↦ false ]

-- or that of a block or of what is in it
abbrev pub at_block : ℕ → (Given → Bool) → Block → Bool
at_block i p b = is_there i p b.name block || list_any (at_result i p) b.insts

-- or one of a function's
abbrev pub at_function : ℕ → (Given → Bool) → Function → Bool
at_function i p f = list_any (at_param i p) f.params || list_any (at_block i p) f.body

-- each place has the roles that it had, and those that more says
abbrev pub AddsRoles : (old new : List (List Role)) → (ℕ → (Given → Bool) → Bool) → Type 0
AddsRoles old new more = (i : ℕ) (p : Given → Bool) → i < length old → has_role new i p ≡ (has_role old i p || more i p)
