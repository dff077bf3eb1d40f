-- The names of types of a module, and where a name stands first among them.
use Rattle.std.specs.Prelude.{◌≡◌, ℕ, zero, suc, ◌⊎◌, List, [], ◌∷◌, ◌++◌, map, position, Contains}
use Rattle.std.specs.Map.{lookup}
use Rattle.ir_types.specs.declared.name.Name.{Name}
use Rattle.ir_types.specs.declared.memory_type.TypeName.{TypeName}
use Rattle.ir_types.specs.declared.memory_type.NamedType.{NamedType}
use Rattle.ir_types.specs.declared.memory_type.NamedType.TheVariants.{Missing}
use Rattle.ir_types.specs.Names.{name_at, same_name, unknown}
use Rattle.ir_types.specs.Types.{IsFirst}
use Rattle.ir_types.specs.TypeNodes.{TypeNode, names_used}

-- the names alone
abbrev pub names_of : List TypeName → List Name
names_of types = map (λ t. t.name) types

-- the places have for each name where it stands first, and none for a name that stands nowhere
abbrev pub HasFirstPlaces : List Name → List (Name × ℕ) → Type 0
HasFirstPlaces names places = (n : Name) → lookup (same_name n) places ≡ position (same_name n) names

-- the name stands there first
abbrev pub IsPlaceOf : List Name → Name → ℕ → Type 0
IsPlaceOf names name place = IsFirst names place × (name_at names place ≡ name)

-- entries among which a name was looked up: they stay where they have it, and else it stands at their end, and is missing
abbrev pub LooksUp : List TypeName → Name → List TypeName → Type 0
LooksUp old name new =
    (Contains (names_of old) name × (new ≡ old)) ⊎ ((¬ Contains (names_of old) name) × (new ≡ old ++ record { name = name; ty = Missing } ∷ []))

-- the entries, where the name at a place stands for another type
abbrev pub with_type : List TypeName → ℕ → NamedType → List TypeName
with_type [] place ty = []
with_type (t ∷ ts) zero ty = record t { ty = ty } ∷ ts
with_type (t ∷ ts) (suc place) ty = t ∷ with_type ts place ty

-- the entry of a name that is used and not defined
abbrev pub missing_entry : Name → TypeName
missing_entry n = record { name = n; ty = Missing }

-- entries among which some names were looked up one after another
pub record LooksUpSome (old new : List TypeName) : Type 0 where
  pub used : List Name
  pub parts : new ≡ old ++ map missing_entry (unknown (names_of old) used)

-- entries among which the names of a type were looked up one after another: those that they lack stand at their end, each once, and are missing
abbrev pub LooksUpAll : List TypeName → List TypeNode → List TypeName → Type 0
LooksUpAll old nodes new = new ≡ old ++ map missing_entry (unknown (names_of old) (names_used nodes))
