-- Reading a memory type with a list of what it stands in: how far the reading has come.
use Rattle.std.specs.Prelude.{ℕ, Bool, true, false, List, [], ◌∷◌, ◌++◌, length, map, Option, Some, None}
use Rattle.std.specs.List.{AllByRecursion}
use Rattle.text_forms.specs.declared.Around.{Around}
use Rattle.text_forms.specs.declared.Around.TheVariants.{InArray, InStruct}
use Rattle.text_forms.specs.declared.cursor.SyntaxFault.{SyntaxFault}
use Rattle.text_forms.specs.declared.cursor.SyntaxFault.TheVariants.{NoReading, Memory}
use Rattle.text_forms.specs.Form.{Lexeme}
use Rattle.text_forms.specs.Nested.{concat}
use Rattle.text_forms.specs.Machine.{whole}
use Rattle.ir_types.specs.declared.name.Name.{Name}
use Rattle.ir_types.specs.declared.memory_type.TypeId.{TypeId}
use Rattle.ir_types.specs.declared.memory_type.TypeName.{TypeName}
use Rattle.ir_types.specs.declared.memory_type.MemTy.{MemTy}
use Rattle.ir_types.specs.declared.memory_type.MemTy.TheVariants.{Array, Struct}
use Rattle.ir_types.specs.TypeNodes.{TypeNode, array, opening, closing, type_nodes}
use Rattle.ir_reader_types.specs.TypeTable.{names_of, LooksUpAll}
use Rattle.ir_types.specs.Types.{IsBefore, AreTypes}
use Rattle.ir_types.specs.TypeForms.{type_parts}

-- what a type that is read stands in
pub data Frame : Type 0 where
  -- an array of so many elements
  in_array : ℕ → Frame
  -- a struct, packed or not, with its members so far
  in_struct : Bool → List TypeId → Frame

-- its kind
abbrev pub around_of : Frame → Around
around_of (in_array n) = InArray
around_of (in_struct p ids) = InStruct p

-- the kind of the innermost, where there is one; in a list of frames it stands first
abbrev pub innermost : List Frame → Option Around
innermost [] = None
innermost (f ∷ outer) = Some (around_of f)

-- the frame with one more member
abbrev pub with_member : Frame → TypeId → Frame
with_member (in_array n) id = in_array n
with_member (in_struct p ids) id = in_struct p (ids ++ id ∷ [])

-- the type that the frame is, with this as its last part
abbrev pub closed : Frame → TypeId → MemTy
closed (in_array n) id = Array n id
closed (in_struct p ids) id = Struct p (ids ++ id ∷ [])

-- the nodes of the frame so far
abbrev pub frame_nodes : List Name → List MemTy → Frame → List TypeNode
frame_nodes names types (in_array n) = array n ∷ []
frame_nodes names types (in_struct p ids) = opening p ∷ concat (map (λ id. type_nodes names types id) ids)

-- of all frames, the innermost last
abbrev pub opened_nodes : List Name → List MemTy → List Frame → List TypeNode
opened_nodes names types [] = []
opened_nodes names types (f ∷ outer) = opened_nodes names types outer ++ frame_nodes names types f

-- their kinds, in the same order
abbrev pub arounds : List Frame → List Around
arounds [] = []
arounds (f ∷ outer) = arounds outer ++ around_of f ∷ []

-- the nodes of a type that is complete, if one is
abbrev pub done_nodes : List Name → List MemTy → Option TypeId → List TypeNode
done_nodes names types None = []
done_nodes names types (Some id) = type_nodes names types id

-- the nodes of all that was read
abbrev pub nodes_so_far : List Name → List MemTy → List Frame → Option TypeId → List TypeNode
nodes_so_far names types frames done = opened_nodes names types frames ++ done_nodes names types done

-- the names that these use were looked up among some entries, which became these
abbrev pub Looked : List TypeName → List TypeName → List MemTy → List Frame → Option TypeId → Type 0
Looked base entries types frames done = LooksUpAll base (nodes_so_far (names_of entries) types frames done) entries

-- a type is to be read next, as none is complete
abbrev pub is_wanted : Option TypeId → Bool
is_wanted None = true
is_wanted (Some id) = false

-- what the whole gives from there on
abbrev pub goes_on : ℕ → List Name → List MemTy → List Frame → Option TypeId → List Lexeme → Option (List TypeNode × List Lexeme)
goes_on d names types frames done ts = whole type_parts d (opened_nodes names types frames ++ done_nodes names types done) (arounds frames) (is_wanted done) ts

-- the members of the frames stand before a place
abbrev pub AreBefore : ℕ → List Frame → Type 0
AreBefore n [] = Unit {0}
AreBefore n (in_array c ∷ outer) = AreBefore n outer
AreBefore n (in_struct p ids ∷ outer) = AllByRecursion (IsBefore n) ids × AreBefore n outer

-- and so does the type that is complete, if one is
abbrev pub IsDoneBefore : ℕ → Option TypeId → Type 0
IsDoneBefore n None = Unit {0}
IsDoneBefore n (Some id) = IsBefore n id

-- a list of types, and parts of it that are in use
pub record Holds (names : List Name) (types : List MemTy) (frames : List Frame) (done : Option TypeId) : Type 0 where
  pub types_are : AreTypes names 0 types
  pub frames_before : AreBefore (length types) frames
  pub done_before : IsDoneBefore (length types) done

-- reading stopped, and not for want of memory
abbrev pub is_refusal : SyntaxFault → Bool
is_refusal (NoReading place) = true
is_refusal Memory = false

-- the nodes at the end of what is of this kind
abbrev pub end_nodes : Around → List TypeNode
end_nodes InArray = []
end_nodes (InStruct p) = closing ∷ []
