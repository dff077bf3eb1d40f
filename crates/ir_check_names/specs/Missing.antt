-- The first name in each memory type of a list that is not defined, by its place.
use Rattle.std.specs.Prelude.{ℕ, List, [], ◌∷◌, ◌++◌, slice_get, slice_index_or, Option, Some, None}
use Rattle.ir_types.specs.declared.memory_type.TypeId.{TypeId}
use Rattle.ir_types.specs.declared.memory_type.TypeName.{TypeName}
use Rattle.ir_types.specs.declared.memory_type.NamedType.{NamedType}
use Rattle.ir_types.specs.declared.memory_type.NamedType.TheVariants as named
use Rattle.ir_types.specs.declared.memory_type.MemTy.{MemTy}
use Rattle.ir_types.specs.declared.memory_type.MemTy.TheVariants.{One, Array, Struct, Named}
use Rattle.ir_types.specs.declared.module.SymbolKind.{SymbolKind}
use Rattle.ir_types.specs.declared.module.SymbolKind.TheVariants as symbols
use Rattle.ir_check_names.specs.Choice.{first_of}

-- what is known of the type at a place
abbrev pub missing_at : List (Option ℕ) → TypeId → Option ℕ
missing_at missing id = slice_index_or missing id.0 None

-- the place, where what stands there is not defined
abbrev pub if_missing : ℕ → NamedType → Option ℕ
if_missing k named.Missing = Some k
if_missing k ty = None

-- the place of a name, where that isn't defined
abbrev pub missing_called : List TypeName → ℕ → Option ℕ
missing_called names k = elim (slice_get names k) [ Some n ↦ if_missing k n.ty | None ↦ None ]

-- in a type, from what is known of the types before it
abbrev pub missing_from : List TypeName → List (Option ℕ) → MemTy → Option ℕ
missing_from names missing (One t) = None
missing_from names missing (Array n element) = missing_at missing element
missing_from names missing (Struct packed members) = first_of (missing_at missing) members
missing_from names missing (Named k) = missing_called names k

-- in each type of a list, behind those of the types before
abbrev pub missing_names : List TypeName → List (Option ℕ) → List MemTy → List (Option ℕ)
missing_names names missing [] = missing
missing_names names missing (t ∷ ts) = missing_names names (missing ++ missing_from names missing t ∷ []) ts

-- in what a name of a type is defined as
abbrev pub missing_in_definition : List (Option ℕ) → NamedType → Option ℕ
missing_in_definition missing (named.Defined id) = missing_at missing id
missing_in_definition missing ty = None

-- in what a symbol stands for
abbrev pub missing_in_symbol : List (Option ℕ) → SymbolKind → Option ℕ
missing_in_symbol missing (symbols.Variable id writable) = missing_at missing id
missing_in_symbol missing kind = None
