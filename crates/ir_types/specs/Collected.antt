-- The module of some items: each group in the text's order.
use Rattle.std.specs.Prelude.{List, [], ◌++◌, map, Option, Some, None}
use Rattle.std.specs.List.{filter_map}
use Rattle.ir_types.specs.TypeNodes.{TypeNode}
use Rattle.ir_types.specs.Tree.{KeptTexts, FunctionTree, NamedTree, defined, opaque, TypeNameTree, variable, function, SymbolTree, ModuleTree, VariableTree, Item, head_line, comdat_line, type_item, variable_item, function_item, attribute_line, metadata_line}

-- ---- the items of each group

abbrev pub as_head : Item FunctionTree → Option KeptTexts
as_head (head_line xs) = Some xs
as_head i = None

abbrev pub as_comdat : Item FunctionTree → Option KeptTexts
as_comdat (comdat_line xs) = Some xs
as_comdat i = None

-- what a defined name stands for
abbrev pub of_definition : Option (List TypeNode) → NamedTree
of_definition None = opaque
of_definition (Some nodes) = defined nodes

abbrev pub as_type : Item FunctionTree → Option TypeNameTree
as_type (type_item n t) = Some (record { name = n; ty = of_definition t })
as_type i = None

abbrev pub as_variable : Item FunctionTree → Option VariableTree
as_variable (variable_item v) = Some v
as_variable i = None

abbrev pub as_function : Item FunctionTree → Option FunctionTree
as_function (function_item f) = Some f
as_function i = None

abbrev pub as_attributes : Item FunctionTree → Option KeptTexts
as_attributes (attribute_line xs) = Some xs
as_attributes i = None

abbrev pub as_metadata : Item FunctionTree → Option KeptTexts
as_metadata (metadata_line xs) = Some xs
as_metadata i = None

-- ---- symbols

-- a variable's
abbrev pub symbol_of : VariableTree → SymbolTree
symbol_of v = record { name = v.name; kind = variable v.ty v.writable; before = v.before; after = v.after }

-- a function's
abbrev pub symbol_of_function : FunctionTree → SymbolTree
symbol_of_function f = record { name = f.name; kind = function; before = []; after = [] }

-- ---- the module

abbrev pub collected : List (Item FunctionTree) → ModuleTree
collected items = record {
  head = filter_map as_head items ++ filter_map as_comdat items;
  type_names = filter_map as_type items;
  symbols = map symbol_of (filter_map as_variable items) ++ map symbol_of_function (filter_map as_function items);
  functions = filter_map as_function items;
  tail = filter_map as_attributes items ++ filter_map as_metadata items;
}
