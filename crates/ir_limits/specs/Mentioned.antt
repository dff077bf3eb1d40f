-- The names that a module's text mentions, in the text's order; things without a name are there by their numbers. Of a constant
-- `getelementptr` it is the symbol alone: the names of types in it are defined by other items, or it has no bytes to count.
use Rattle.std.specs.Prelude.{List, [], ◌∷◌, ◌++◌, map, Option, Some, None}
use Rattle.text_forms.specs.Nested.{concat}
use Rattle.ir_types.specs.declared.name.Name.{Name}
use Rattle.ir_types.specs.Kinds.{Kind, Phi, Offset, Call}
use Rattle.ir_types.specs.Tree.{OperandTree, local, global, out_of_range, InstTree, BlockTree, ParamTree, FunctionTree, Item, head_line, comdat_line, type_item, variable_item, function_item, attribute_line, metadata_line}
use Rattle.ir_types.specs.TypeNodes.{TypeNode, names_used}

-- in an operand: a local's or a symbol's, also where that is stepped from by a number out of its type's range
abbrev pub in_operand : OperandTree → List Name
in_operand (local n) = n ∷ []
in_operand (global n o) = n ∷ []
in_operand (out_of_range (Some n)) = n ∷ []
in_operand a = []

-- in operands behind one another
abbrev pub in_operands : List OperandTree → List Name
in_operands args = concat (map in_operand args)

-- in the entries of a phi: each operand stands before its label
abbrev pub in_entries : List OperandTree → List Name → List Name
in_entries (a ∷ args) (l ∷ labels) = in_operand a ++ (l ∷ in_entries args labels)
in_entries [] labels = labels
in_entries args [] = in_operands args

-- before the operands: what is called, or the names in a memory type
abbrev pub before_operands : Kind → List Name
before_operands (Call callee) = callee.name ∷ []
before_operands (Offset nodes widths inbounds nuw nusw) = names_used nodes
before_operands kind = []

-- in operands and labels, and what stands before them: those of a phi in pairs, and else all operands first
abbrev pub in_parts : Kind → List OperandTree → List Name → List Name
in_parts Phi args labels = in_entries args labels
in_parts kind args labels = before_operands kind ++ (in_operands args ++ labels)

-- of a result
abbrev pub of_result : Option Name → List Name
of_result None = []
of_result (Some n) = n ∷ []

-- in an instruction
abbrev pub in_inst : InstTree → List Name
in_inst i = of_result i.result ++ in_parts i.kind i.args i.labels

-- in a block
abbrev pub in_block : BlockTree → List Name
in_block b = b.name ∷ concat (map in_inst b.insts)

-- in a function
abbrev pub in_function : FunctionTree → List Name
in_function f = f.name ∷ (map (λ (p : ParamTree). p.name) f.params ++ concat (map in_block f.body))

-- in a definition of a type, which may be opaque
abbrev pub in_definition : Option (List TypeNode) → List Name
in_definition None = []
in_definition (Some nodes) = names_used nodes

-- in an item; what is kept mentions none
abbrev pub in_item : Item FunctionTree → List Name
in_item (head_line xs) = []
in_item (comdat_line xs) = []
in_item (type_item n t) = n ∷ in_definition t
in_item (variable_item v) = v.name ∷ names_used v.ty
in_item (function_item f) = in_function f
in_item (attribute_line xs) = []
in_item (metadata_line xs) = []

-- in a module's items
abbrev pub in_items : List (Item FunctionTree) → List Name
in_items items = concat (map in_item items)
