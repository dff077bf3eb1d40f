-- Where a `getelementptr` leads, by the places of types.
use Rattle.std.specs.Prelude.{◌^◌, ℕ, Bool, true, false, ◌&&◌, nat_eq, nat_lt, is_some, List, [], ◌∷◌, slice_get, Option, Some, None, if◌then◌else◌}
use Rattle.text_forms.specs.Bind.{◌>>=◌}
use Rattle.ir_types.specs.declared.memory_type.TypeId.{TypeId}
use Rattle.ir_types.specs.declared.memory_type.MemTy.{MemTy}
use Rattle.ir_types.specs.declared.memory_type.MemTy.TheVariants.{One, Array, Struct, Named}
use Rattle.ir_types.specs.declared.memory_type.Extent.{Extent}
use Rattle.ir_types.specs.declared.module.Module.{Module}
use Rattle.ir_types.specs.Tree.{OperandTree, number}
use Rattle.ir_types.specs.Denotes.{tree_of}
use Rattle.ir_sizes.specs.Known.{extent_at}
use Rattle.ir_sizes.specs.Definitions.{AreDefinitions}
use Rattle.ir_sizes.specs.Stepping.{small_extent}
use Rattle.ir_sizes.specs.Prepared.{StepLists, end_at, ArePrepared}
use Rattle.ir_rules.specs.Steps.{type_definitions}

-- whether the type at a place has a size
abbrev pub is_sized_at : List Extent → TypeId → Bool
is_sized_at extents id = is_some (small_extent (extent_at extents id.0))

-- the member that an index chooses: a number of 32 bits that isn't negative
abbrev pub chosen : ℕ × OperandTree → Option ℕ
chosen (width, number n) = if nat_eq width 32 && nat_lt n (2 ^ 31) then Some n else None
chosen (width, a) = None

-- where a type at a place leads through names
abbrev pub end_from : List (Option TypeId) → TypeId → MemTy → Option TypeId
end_from ends id (One t) = Some id
end_from ends id (Array n element) = Some id
end_from ends id (Struct packed members) = Some id
end_from ends id (Named k) = end_at ends k

abbrev pub end_behind : List MemTy → List (Option TypeId) → TypeId → Option TypeId
end_behind types ends id = slice_get types id.0 >>= end_from ends id

-- where an index leads from a type that is no name
abbrev pub part_of : List Extent → ℕ × OperandTree → MemTy → Option TypeId
part_of extents i (One t) = None
part_of extents i (Array n element) = if is_sized_at extents element then Some element else None
part_of extents i (Struct packed members) = chosen i >>= λ k. slice_get members k
part_of extents i (Named k) = None

-- where an index leads from the type at a place
abbrev pub part_at : List MemTy → List (Option TypeId) → List Extent → TypeId → ℕ × OperandTree → Option TypeId
part_at types ends extents id i = end_behind types ends id >>= λ last. slice_get types last.0 >>= part_of extents i

-- whether indexes lead into the type at a place, one after another
abbrev pub leads_at : List MemTy → List (Option TypeId) → List Extent → TypeId → List (ℕ × OperandTree) → Bool
leads_at types ends extents id [] = true
leads_at types ends extents id (i ∷ more) = elim (part_at types ends extents id i) [ Some next ↦ leads_at types ends extents next more | None ↦ false ]

-- what is prepared of a module's types, whose definitions are those of its tree
pub record AreModuleSteps (m : Module) (steps : StepLists) : Type 0 where
  pub prepared : ArePrepared m.types m.type_names m.extents steps
  pub definitions : AreDefinitions m.types m.type_names (type_definitions (tree_of m))
