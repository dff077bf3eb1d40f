-- In a module each position is one of its list.
use Rattle.std.proofs.Common.{◌≡◌, ◌+◌, ◌<◌, ℕ, zero, suc, Bool, List, [], ◌∷◌, ◌++◌, length, Option, Some, None, sym, subst, zero-add, arith}
use Rattle.std.specs.Prelude.{map, IfSome}
use Rattle.std.specs.Option.{option_map}
use Rattle.std.specs.List.{AllByRecursion, AllZip, filter_map, cons_option, range_with_len}
use Rattle.std.proofs.lemmas.List.{length-append}
use Rattle.text_lex.proofs.Lexed.{each_append}
use Rattle.ir_types.specs.declared.name.Name.{Name}
use Rattle.ir_types.specs.declared.name.ValueId.{ValueId}
use Rattle.ir_types.specs.declared.inst.Ty.{Ty}
use Rattle.ir_types.specs.declared.inst.Ty.TheVariants as types
use Rattle.ir_types.specs.declared.inst.Operand.{Operand}
use Rattle.ir_types.specs.declared.inst.Operand.TheVariants.{Local, Int, Null, Poison, Lanes, Global, OutOfRange}
use Rattle.ir_types.specs.declared.inst.InstKind.{InstKind}
use Rattle.ir_types.specs.declared.inst.InstKind.TheVariants.{Offset}
use Rattle.ir_types.specs.declared.inst.Inst.{Inst}
use Rattle.ir_types.specs.declared.module.Block.{Block}
use Rattle.ir_types.specs.declared.module.Param.{Param}
use Rattle.ir_types.specs.declared.module.Function.{Function}
use Rattle.ir_types.specs.declared.module.Symbol.{Symbol}
use Rattle.ir_types.specs.declared.module.SymbolKind.{SymbolKind}
use Rattle.ir_types.specs.declared.module.SymbolKind.TheVariants.{Variable}
use Rattle.ir_types.specs.declared.module.SymbolKind.TheVariants as symbols
use Rattle.ir_types.specs.declared.module.Module.{Module}
use Rattle.ir_types.specs.declared.memory_type.TypeId.{TypeId}
use Rattle.ir_types.specs.declared.memory_type.MemTy.{MemTy}
use Rattle.ir_types.specs.declared.memory_type.NamedType.{NamedType}
use Rattle.ir_types.specs.declared.memory_type.NamedType.TheVariants.{Defined, Opaque, Missing}
use Rattle.ir_types.specs.declared.memory_type.TypeName.{TypeName}
use Rattle.ir_types.specs.Denotes.{name_in, Tables, operand_in, kind_in, inst_in, block_in, param_in, function_in, type_names_of, type_name_in, symbol_in, tables_of, tree_of, function_place}
use Rattle.ir_types.specs.Collected.{as_type, as_variable, as_function, of_definition, symbol_of, symbol_of_function}
use Rattle.ir_types.specs.Names.{name_at}
use Rattle.ir_types.specs.TypeNodes.{TypeNode, nodes_at, nodes_from, all_nodes, type_nodes}
use Rattle.ir_types.specs.Tree.{FunctionTree, NamedTree, defined, opaque, SymbolKindTree, variable, function, ModuleTree, Item, head_line, comdat_line, type_item, variable_item, function_item, attribute_line, metadata_line}
use Rattle.ir_shape.specs.Shape.{IsName, IsNameThere, IsMemory, IsOperandIn, IsTypedIn, IsResult, HasParts, IsReadInst, IsBlockOf, IsParam, IsFunctionOf, IsDefinition, IsItemOf, HasShape}
use Rattle.ir_shape.specs.Modules.{IsModule}
use Rattle.ir_shape.specs.Placed.{IsPlace, IsOperandPlaced, IsInstPlaced, IsKindPlaced, IsBlockPlaced, IsParamPlaced, IsFunctionPlaced, IsNamedPlaced, IsSymbolPlaced, IsPlaced}
use Rattle.ir_shape.proofs.Memory.{has_node}
use Rattle.ir_shape.proofs.Narrowed.{by_both}
use Rattle.ir_shape.proofs.Names.{within_names}
use Rattle.ir_shape.proofs.Sure.{IsThere}

-- what holds of each element by what is known of its image
each : {A B : Type 0} (P : B → Type 0) (Q : A → Type 0) (f : A → B) → ((a : A) → P (f a) → Q a) → (xs : List A) → AllByRecursion P (map f xs) → AllByRecursion Q xs
each P Q f so [] h = tt
each P Q f so (x ∷ xs) h = (so x h.0, each P Q f so xs h.1)

-- the same, where it may have none
of_there : {A : Type 0} (P : A → Type 0) (o : Option A) (more : List A) → AllByRecursion P (cons_option o more) → IsThere P o × AllByRecursion P more
of_there P None more h = (tt, h)
of_there P (Some a) more h = h

each_there : {A B : Type 0} (P : B → Type 0) (Q : A → Type 0) (f : A → Option B) → ((a : A) → IsThere P (f a) → Q a) → (xs : List A) → AllByRecursion P (filter_map f xs) → AllByRecursion Q xs
each_there P Q f so [] h = tt
each_there P Q f so (x ∷ xs) h = let both = of_there P (f x) (filter_map f xs) h in (so x both.0, each_there P Q f so xs both.1)

-- ---- places in a module's lists

node_within : (xs : List (List TypeNode)) (i : ℕ) → 0 < length (nodes_at xs i) → i < length xs
node_within [] i h = absurd (omega arith)
node_within (x ∷ xs) zero h = omega arith
node_within (x ∷ xs) (suc i) h = omega (arith, node_within xs i h)

-- a list of types adds as many to those before it
pub as_many : (names : List Name) (before : List (List TypeNode)) (ts : List MemTy) → length (all_nodes names before ts) ≡ length before + length ts
as_many names before [] = omega arith
as_many names before (t ∷ ts) =
    let e = as_many names (before ++ nodes_from names before t ∷ []) ts in
    let l = length-append before (nodes_from names before t ∷ []) in
    omega (arith, e, l)

-- a type that has a node stands in the list
type_placed : (names : List Name) (types : List MemTy) (id : TypeId) → 0 < length (type_nodes names types id) → id.0 < length types
type_placed names types id h =
    let w = node_within (all_nodes names [] types) id.0 h in
    let e = as_many names [] types in
    omega (arith, w, e)

pub memory_placed : (names : List Name) (types : List MemTy) (id : TypeId) → IsMemory (type_nodes names types id) → id.0 < length types
memory_placed names types id m = type_placed names types id (has_node (type_nodes names types id) m)

-- ---- positions in functions

-- a position of a proper name
placed : (names : List Name) (id : ValueId) → IsName (name_in names id) → IsPlace names id
placed names id h = within_names names id.0 h

-- a symbol, where there is one
symbol_there : (names : List Name) (o : Option ℕ) → IsNameThere (option_map (name_at names) o) → IfSome o (λ (i : ℕ). i < length names)
symbol_there names None h = tt
symbol_there names (Some i) h = within_names names i h

operand_placed : (wide : Bool) (t : Tables) (names : List Name) (ty : Ty) (a : Operand) → IsOperandIn wide ty (operand_in t names a) → IsOperandPlaced t names a
operand_placed wide t names ty (Local id) h = placed names id h
operand_placed wide t names ty (Int n) h = tt
operand_placed wide t names ty Null h = tt
operand_placed wide t names ty Poison h = tt
operand_placed wide t names ty (Lanes xs) h = tt
operand_placed wide t names ty (Global i bytes) h = within_names t.symbols i h.0
operand_placed wide t names ty (OutOfRange i) h = symbol_there t.symbols i h.1

operands_placed : (wide : Bool) (t : Tables) (names : List Name) (ts : List Ty) (args : List Operand) → AllZip (IsTypedIn wide) ts (map (operand_in t names) args) → AllByRecursion (IsOperandPlaced t names) args
operands_placed wide t names ts [] h = tt
operands_placed wide t names [] (a ∷ args) h = absurd h
operands_placed wide t names (ty ∷ ts) (a ∷ args) h = (operand_placed wide t names ty a h.0.1, operands_placed wide t names ts args h.1)

-- the type of an instruction of a right kind stands in the list
pub kind_placed : (t : Tables) (k : InstKind) (n : ℕ) → HasParts (kind_in t k) n → IsKindPlaced t k
kind_placed t (Offset id widths inbounds nuw nusw) n h = memory_placed t.type_names t.types id h.0
kind_placed t k n h = tt

result_placed : (names : List Name) (t : Ty) (o : Option ValueId) → IsResult t (option_map (name_in names) o) → IfSome o (IsPlace names)
result_placed names t None h = tt
result_placed names (types.Int w) (Some id) h = placed names id h
result_placed names types.Ptr (Some id) h = placed names id h
result_placed names (types.Vector n w) (Some id) h = placed names id h
result_placed names types.Void (Some id) h = placed names id h

inst_placed : (t : Tables) (names : List Name) (i : Inst) → IsReadInst (inst_in t names i) → IsInstPlaced t names i
inst_placed t names i h = record {
  kind = kind_placed t i.kind _ h.body.parts;
  args = operands_placed i.wide t names _ i.args h.body.args;
  labels = each IsName (IsPlace names) (name_in names) (placed names) i.labels h.body.labels;
  result = result_placed names i.ty i.result h.result;
}

block_placed : (t : Tables) (names : List Name) (b : Block) → IsBlockOf IsReadInst (block_in t names b) → IsBlockPlaced t names b
block_placed t names b h = record {
  name = placed names b.name h.name;
  insts = each IsReadInst (IsInstPlaced t names) (inst_in t names) (inst_placed t names) b.insts h.insts;
}

param_placed : (names : List Name) (p : Param) → IsParam (param_in names p) → IsParamPlaced names p
param_placed names p h = record { name = placed names p.name h.name }

function_placed : (t : Tables) (f : Function) → IsFunctionOf IsReadInst (function_in t f) → IsFunctionPlaced t f
function_placed t f h = record {
  params = each IsParam (IsParamPlaced f.names) (param_in f.names) (param_placed f.names) f.params h.params;
  blocks = each (IsBlockOf IsReadInst) (IsBlockPlaced t f.names) (block_in t f.names) (block_placed t f.names) f.body h.blocks;
}

-- ---- the functions, types and symbols of some items

functions_known : (items : List (Item FunctionTree)) → AllByRecursion (IsItemOf IsReadInst) items → AllByRecursion (IsFunctionOf IsReadInst) (filter_map as_function items)
functions_known [] h = tt
functions_known (head_line xs ∷ items) h = functions_known items h.1
functions_known (comdat_line xs ∷ items) h = functions_known items h.1
functions_known (type_item n t ∷ items) h = functions_known items h.1
functions_known (variable_item v ∷ items) h = functions_known items h.1
functions_known (function_item f ∷ items) h = (h.0, functions_known items h.1)
functions_known (attribute_line xs ∷ items) h = functions_known items h.1
functions_known (metadata_line xs ∷ items) h = functions_known items h.1

-- the functions of a tree with the shape of a module have that of a function
pub shaped_functions : (m : ModuleTree) → HasShape m → AllByRecursion (IsFunctionOf IsReadInst) m.functions
shaped_functions m h = subst (λ (t : ModuleTree). AllByRecursion (IsFunctionOf IsReadInst) t.functions) h.says (functions_known h.items h.known)

-- what is defined has a node
abbrev HasNode : NamedTree → Type 0
HasNode (defined nodes) = 0 < length nodes
HasNode opaque = Unit {0}

-- a variable's type has a node
abbrev HasPlace : SymbolKindTree → Type 0
HasPlace (variable nodes writable) = 0 < length nodes
HasPlace function = Unit {0}

definition_known : (t : Option (List TypeNode)) → IsDefinition t → HasNode (of_definition t)
definition_known None h = tt
definition_known (Some nodes) h = has_node nodes h

types_known : (items : List (Item FunctionTree)) → AllByRecursion (IsItemOf IsReadInst) items → AllByRecursion (λ t. HasNode t.ty) (filter_map as_type items)
types_known [] h = tt
types_known (head_line xs ∷ items) h = types_known items h.1
types_known (comdat_line xs ∷ items) h = types_known items h.1
types_known (type_item n t ∷ items) h = (definition_known t h.0.1, types_known items h.1)
types_known (variable_item v ∷ items) h = types_known items h.1
types_known (function_item f ∷ items) h = types_known items h.1
types_known (attribute_line xs ∷ items) h = types_known items h.1
types_known (metadata_line xs ∷ items) h = types_known items h.1

variables_known : (items : List (Item FunctionTree)) → AllByRecursion (IsItemOf IsReadInst) items → AllByRecursion (λ s. HasPlace s.kind) (map symbol_of (filter_map as_variable items))
variables_known [] h = tt
variables_known (head_line xs ∷ items) h = variables_known items h.1
variables_known (comdat_line xs ∷ items) h = variables_known items h.1
variables_known (type_item name t ∷ items) h = variables_known items h.1
variables_known (variable_item v ∷ items) h = (has_node v.ty h.0.ty, variables_known items h.1)
variables_known (function_item f ∷ items) h = variables_known items h.1
variables_known (attribute_line xs ∷ items) h = variables_known items h.1
variables_known (metadata_line xs ∷ items) h = variables_known items h.1

functions_placed : (fs : List FunctionTree) → AllByRecursion (λ s. HasPlace s.kind) (map symbol_of_function fs)
functions_placed [] = tt
functions_placed (f ∷ fs) = (tt, functions_placed fs)

-- numbers that count on from one are below where they end
below_end : (a n : ℕ) → AllByRecursion (λ (i : ℕ). i < a + n) (range_with_len a n)
below_end a zero = tt
below_end a (suc n) = (omega arith, subst (λ (e : ℕ). AllByRecursion (λ (i : ℕ). i < e) (range_with_len (a + 1) n)) (omega arith) (below_end (a + 1) n))

-- ---- positions in a module

named_placed : (m : Module) (n : Name) (t : NamedType) → IsThere (λ x. HasNode x.ty) (type_name_in m (record { name = n; ty = t })) → IsNamedPlaced m.types t
named_placed m n (Defined id) h = type_placed (type_names_of m) m.types id h
named_placed m n Opaque h = tt
named_placed m n Missing h = tt

-- what is known of a symbol: of a variable by the tree, and of a function by its place
abbrev IsVariablePlaced : Module → Symbol → Type 0
IsVariablePlaced m s = IsThere (λ x. HasPlace x.kind) (symbol_in m s)

abbrev IsPlaceBelow : ℕ → Symbol → Type 0
IsPlaceBelow n s = IsThere (λ (i : ℕ). i < n) (function_place s)

symbol_placed : (m : Module) (s : Symbol) (k : SymbolKind) → IsVariablePlaced m (record s { kind = k }) → IsPlaceBelow (length m.functions) (record s { kind = k }) → IsSymbolPlaced m k
symbol_placed m s (Variable id writable) h g = type_placed (type_names_of m) m.types id h
symbol_placed m s (symbols.Function f) h g = g
symbol_placed m s symbols.Missing h g = tt

-- In a module each position is one of its list.
pub module_placed : (m : Module) → IsModule m → IsPlaced m
module_placed m is =
    let h = is.shape in
    let n = length m.functions in
    let fs = filter_map as_function h.items in
    let kinds = each_append (λ s. HasPlace s.kind) (map symbol_of (filter_map as_variable h.items)) _ (variables_known h.items h.known) (functions_placed fs) in
    let variables = each_there (λ s. HasPlace s.kind) (IsVariablePlaced m) (symbol_in m) (λ s k. k) m.symbols (subst (λ (t : ModuleTree). AllByRecursion (λ s. HasPlace s.kind) t.symbols) h.says kinds) in
    let places = each_there (λ (i : ℕ). i < n) (IsPlaceBelow n) function_place (λ s k. k) m.symbols (subst (AllByRecursion (λ (i : ℕ). i < n)) (sym is.denotes.functions) (subst (λ (e : ℕ). AllByRecursion (λ (i : ℕ). i < e) (range_with_len 0 n)) (zero-add n) (below_end 0 n))) in
    record {
      functions = each (IsFunctionOf IsReadInst) (IsFunctionPlaced (tables_of m)) (function_in (tables_of m)) (function_placed (tables_of m)) m.functions (shaped_functions (tree_of m) h);
      types = is.denotes.types;
      named = each_there (λ t. HasNode t.ty) (λ (n : TypeName). IsNamedPlaced m.types n.ty) (type_name_in m) (λ n. named_placed m n.name n.ty) m.type_names (subst (λ (t : ModuleTree). AllByRecursion (λ n. HasNode n.ty) t.type_names) h.says (types_known h.items h.known));
      symbols = by_both (IsVariablePlaced m) (IsPlaceBelow n) (λ (s : Symbol). IsSymbolPlaced m s.kind) (λ s. symbol_placed m s s.kind) m.symbols variables places;
    }
