-- What a module has for its functions while they are read: the names of its symbols, the names of its types, its types and their extents.
use Rattle.std.specs.Prelude.{◌≡◌, ◌≢◌, ◌<◌, ◌≤◌, ℕ, List, slice_get, length, Option, Some, None}
use Rattle.std.specs.List.{AllByRecursion, filter_map}
use Rattle.text_forms.specs.View.{Extends}
use Rattle.ir_types.specs.declared.name.Name.{Name}
use Rattle.ir_types.specs.declared.memory_type.TypeId.{TypeId}
use Rattle.ir_types.specs.declared.memory_type.TypeName.{TypeName}
use Rattle.ir_types.specs.declared.memory_type.NamedType.TheVariants.{Defined, Opaque, Missing}
use Rattle.ir_types.specs.declared.memory_type.MemTy.{MemTy}
use Rattle.ir_types.specs.declared.memory_type.Extent.{Extent}
use Rattle.ir_types.specs.Types.{AreTypes}
use Rattle.ir_types.specs.TypeNodes.{TypeNode, type_nodes}
use Rattle.ir_types.specs.Sizes.{AreExtents}
use Rattle.ir_types.specs.Offsets.{Definitions}
use Rattle.ir_types.specs.Denotes.{Tables}
use Rattle.ir_reader_types.specs.TypeTable.{names_of}

-- the names of symbols, so many of which are defined or declared, and the others only used; the names of types, the types, and their extents
pub record TableLists : Type 0 where
  pub symbols : List Name
  pub known : ℕ
  pub entries : List TypeName
  pub types : List MemTy
  pub extents : List Extent

-- what places in functions stand for
abbrev pub tables_in : TableLists → Tables
tables_in t = record { symbols = t.symbols; type_names = names_of t.entries; types = t.types }

-- the nodes of the type at a place
abbrev pub nodes_there : TableLists → TypeId → List TypeNode
nodes_there t id = type_nodes (names_of t.entries) t.types id

-- the definition of a name, over these names and types, where it has one
abbrev pub definition_over : List Name → List MemTy → TypeName → Option (Name × Option (List TypeNode))
definition_over names types n = elim n.ty [ Defined id ↦ Some (n.name, Some (type_nodes names types id)) | Opaque ↦ Some (n.name, None) | Missing ↦ None ]

-- the definitions of names of types
abbrev pub definitions_of : TableLists → Definitions
definitions_of t = filter_map (definition_over (names_of t.entries) t.types) t.entries

-- The lists have grown at their ends, by what is only used.
pub record Grows (old new : TableLists) : Type 0 where
  pub symbols : Extends old.symbols new.symbols
  pub known : new.known ≡ old.known
  pub entries : Extends old.entries new.entries
  pub types : Extends old.types new.types
  pub definitions : definitions_of new ≡ definitions_of old

-- a name stands for a type before a place, if for any
abbrev pub IsDefinedBefore : ℕ → TypeName → Type 0
IsDefinedBefore i n = elim n.ty as (λ _. Type 0) [ Defined id ↦ id.0 < i | Opaque ↦ Unit {0} | Missing ↦ Unit {0} ]

-- a name of a type that is only used is no other's
abbrev pub AreEntriesApart : List TypeName → Type 0
AreEntriesApart entries = (i j : ℕ) (x y : TypeName) → slice_get entries i ≡ Some x → slice_get entries j ≡ Some y → x.ty ≡ Missing → i ≢ j → x.name ≢ y.name

-- the lists fit each other
pub record AreTables (t : TableLists) : Type 0 where
  pub known : t.known ≤ length t.symbols
  pub types_are : AreTypes (names_of t.entries) 0 t.types
  pub defined : AllByRecursion (IsDefinedBefore (length t.types)) t.entries
  pub entries_apart : AreEntriesApart t.entries
  pub extents_are : AreExtents t.types t.entries t.extents
