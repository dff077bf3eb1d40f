-- How many bytes behind a symbol a constant `getelementptr` stands. (LLVM's Language Reference, "'getelementptr' Instruction".)
use Rattle.std.specs.Prelude.{ℕ, zero, suc, ◌+◌, ◌-◌, ◌*◌, ◌%◌, ◌^◌, Bool, true, false, nat_lt, List, [], ◌∷◌, ◌++◌, length, map, take, find, slice_get, sum_by, Option, Some, None, if◌then◌else◌}
use Rattle.std.specs.List.{filter_map}
use Rattle.text_forms.specs.Bind.{◌>>=◌}
use Rattle.text_forms.specs.Nested.{concat}
use Rattle.ir_types.specs.declared.name.Name.{Name}
use Rattle.ir_types.specs.Names.{same_name}
use Rattle.ir_types.specs.TypeNodes.{TypeNode, scalar, called, array, opening, closing}
use Rattle.ir_types.specs.Tree.{Item, type_item}
use Rattle.ir_types.specs.Sizes.{Layout, value_size, aligned, end_behind, struct_layout, SIZE_CAP}

-- the definitions of names of types, none of an opaque one; of several of one name the first counts
abbrev pub Definitions : Type 0
Definitions = List (Name × Option (List TypeNode))

-- the definition of a name of a type
abbrev pub as_definition : {F : Type 0} → Item F → Option (Name × Option (List TypeNode))
as_definition (type_item n t) = Some (n, t)
as_definition i = None

-- the definitions among a module's items
abbrev pub definitions_in : {F : Type 0} → List (Item F) → Definitions
definitions_in items = filter_map as_definition items

-- the nodes of a name
abbrev pub nodes_of_name : Definitions → Name → Option (List TypeNode)
nodes_of_name defs n = find (λ d. same_name d.0 n) defs >>= λ d. d.1

-- ---- layouts of memory types, by their nodes; they are those of `Sizes`, where types stand in a list (ir_sizes proves it)

-- a memory type with its layout
pub record Laid : Type 0 where
  pub nodes : List TypeNode
  pub layout : Layout

-- a memory type that is laid out, or the end of a struct
pub data Cell : Type 0 where
  whole : Laid → Cell
  end : Cell

-- the types before the first end, and what stands behind that
abbrev pub up_to_end : List Cell → Option (List Laid × List Cell)
up_to_end [] = None
up_to_end (end ∷ cells) = Some ([], cells)
up_to_end (whole x ∷ cells) = up_to_end cells >>= λ y. Some (x ∷ y.0, y.1)

abbrev pub layouts : List Laid → List Layout
layouts xs = map (λ x. x.layout) xs

-- an array of so many of a type
abbrev pub array_of : ℕ → Laid → Laid
array_of n x = record { nodes = array n ∷ x.nodes; layout = record { size = n * x.layout.size; align = x.layout.align } }

-- a struct, packed or not, of these members
abbrev pub struct_of : Bool → List Laid → Laid
struct_of packed xs = record { nodes = opening packed ∷ (concat (map (λ x. x.nodes) xs) ++ closing ∷ []); layout = struct_layout packed (layouts xs) }

-- a node before cells: an array takes the first of them, a struct all up to an end
abbrev pub cell_before : (Name → Option Layout) → TypeNode → List Cell → Option (List Cell)
cell_before sizes (scalar t) cells = Some (whole (record { nodes = scalar t ∷ []; layout = record { size = value_size t; align = value_size t } }) ∷ cells)
cell_before sizes (called n) cells = sizes n >>= λ l. Some (whole (record { nodes = called n ∷ []; layout = l }) ∷ cells)
cell_before sizes (array n) [] = None
cell_before sizes (array n) (end ∷ cells) = None
cell_before sizes (array n) (whole x ∷ cells) = Some (whole (array_of n x) ∷ cells)
cell_before sizes (opening p) cells = up_to_end cells >>= λ y. Some (whole (struct_of p y.0) ∷ y.1)
cell_before sizes closing cells = Some (end ∷ cells)

-- the types and ends that nodes are, where each name that they use has a layout
abbrev pub cells_of : (Name → Option Layout) → List TypeNode → Option (List Cell)
cells_of sizes [] = Some []
cells_of sizes (n ∷ nodes) = cells_of sizes nodes >>= cell_before sizes n

-- the one type that they are
abbrev pub one_type : List Cell → Option Laid
one_type (whole x ∷ []) = Some x
one_type cells = None

-- the layout of a memory type
abbrev pub layout_by : (Name → Option Layout) → List TypeNode → Option Layout
layout_by sizes nodes = cells_of sizes nodes >>= one_type >>= λ x. Some x.layout

-- the layout of a name, where its type and those in it lead through so many names at most
abbrev pub layout_within : ℕ → Definitions → Name → Option Layout
layout_within zero defs n = None
layout_within (suc depth) defs n = nodes_of_name defs n >>= layout_by (layout_within depth defs)

-- the layout of a name; one that leads through more names than there are has itself as a part, and none
abbrev pub layout_of_name : Definitions → Name → Option Layout
layout_of_name defs n = layout_within (length defs) defs n

-- the layout of a memory type
abbrev pub layout_of : Definitions → List TypeNode → Option Layout
layout_of defs nodes = layout_by (layout_of_name defs) nodes

-- its size; from 2^61 on a type counts as having none
abbrev pub small_size : Definitions → List TypeNode → Option ℕ
small_size ds ns = layout_of ds ns >>= λ l. if nat_lt l.size SIZE_CAP then Some l.size else None

-- ---- steps

-- a size times a number of w bits, which is read as signed, modulo 2^64
abbrev pub scaled : ℕ → ℕ × ℕ → ℕ
scaled size i = if nat_lt i.1 (2 ^ (i.0 - 1)) then (size * i.1) % 2 ^ 64 else (size * (2 ^ 64 - (2 ^ i.0 - i.1))) % 2 ^ 64

-- the nodes behind all names with which a type begins, so many at most
abbrev pub unnamed : ℕ → Definitions → List TypeNode → Option (List TypeNode)
unnamed depth defs [] = None
unnamed zero defs (called n ∷ nodes) = None
unnamed (suc depth) defs (called n ∷ nodes) = nodes_of_name defs n >>= unnamed depth defs
unnamed depth defs (node ∷ nodes) = Some (node ∷ nodes)

-- where a member of a struct begins, behind those before it, and the member's nodes
abbrev pub member_at : Bool → List Laid → ℕ → Option (ℕ × List TypeNode)
member_at true xs k = slice_get xs k >>= λ x. Some (sum_by (λ (l : Layout). l.size) (layouts (take k xs)), x.nodes)
member_at false xs k = slice_get xs k >>= λ x. Some (aligned x.layout.align (end_behind 0 (layouts (take k xs))), x.nodes)

-- a number of w bits, where it is not negative as a signed one
abbrev pub counted : ℕ × ℕ → Option ℕ
counted i = if nat_lt i.1 (2 ^ (i.0 - 1)) then Some i.1 else None

-- one index into a type: how many bytes it leads on, and the nodes of the type there; it leads into an array's element or a struct's member
abbrev pub stepped_into : Definitions → List TypeNode → ℕ × ℕ → Option (ℕ × List TypeNode)
stepped_into ds (array n ∷ element) i = small_size ds element >>= λ s. Some (scaled s i, element)
stepped_into defs (opening packed ∷ nodes) i = cells_of (layout_of_name defs) nodes >>= up_to_end >>= λ y. counted i >>= member_at packed y.0
stepped_into defs nodes i = None

-- indexes into a type, one after another
abbrev pub path_offset : Definitions → List TypeNode → List (ℕ × ℕ) → Option ℕ
path_offset defs nodes [] = Some 0
path_offset defs nodes (i ∷ more) = unnamed (length defs) defs nodes >>= λ u. stepped_into defs u i >>= λ s. path_offset defs s.1 more >>= λ o. Some ((s.0 + o) % 2 ^ 64)

-- the first index leads over whole types, and the others into them
abbrev pub offset_of : Definitions → List TypeNode → List (ℕ × ℕ) → Option ℕ
offset_of defs nodes [] = None
offset_of defs nodes (i ∷ more) = small_size defs nodes >>= λ s. path_offset defs nodes more >>= λ o. Some ((scaled s i + o) % 2 ^ 64)
