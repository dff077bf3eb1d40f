-- Rule: a local, a label, a type or a symbol that is used is defined or declared. What is called is not looked at here.
use Rattle.std.specs.Prelude.{List, [], ◌∷◌, ◌++◌, map, filter, not, Bool, true, Some}
use Rattle.text_forms.specs.Nested.{concat}
use Rattle.ir_types.specs.declared.name.Name.{Name}
use Rattle.ir_types.specs.Names.{has_name}
use Rattle.ir_types.specs.Kinds.{Kind, Phi}
use Rattle.ir_types.specs.Tree.{OperandTree, local, global, out_of_range, InstTree, FunctionTree, TypeNameTree, SymbolTree, ModuleTree}
use Rattle.ir_types.specs.Used.{types_in, types_of_definition, types_of_symbol}
use Rattle.ir_rules.specs.declared.fault.Subject.{Subject}
use Rattle.ir_rules.specs.declared.fault.Subject.TheVariants.{Nothing, Local, Symbol, TypeName as TypeOf}
use Rattle.ir_rules.specs.declared.fault.Breach.{Breach}
use Rattle.ir_rules.specs.Breaches.{Found, outside, in_functions, in_insts}
use Rattle.ir_rules.specs.Locals.{definitions_of, names_of}

-- ---- what instructions use, in the text's order

-- an operand: a local or a symbol
abbrev pub used_by_operand : OperandTree → List Subject
used_by_operand (local n) = Local n ∷ []
used_by_operand (global n o) = Symbol n ∷ []
used_by_operand (out_of_range (Some n)) = Symbol n ∷ []
used_by_operand a = []

-- operands behind one another
abbrev pub used_by_operands : List OperandTree → List Subject
used_by_operands args = concat (map used_by_operand args)

-- labels
abbrev pub used_as_labels : List Name → List Subject
used_as_labels labels = map Local labels

-- the entries of a phi: each operand before its label
abbrev pub used_by_entries : List OperandTree → List Name → List Subject
used_by_entries (a ∷ args) (l ∷ ls) = used_by_operand a ++ (Local l ∷ used_by_entries args ls)
used_by_entries [] labels = used_as_labels labels
used_by_entries args [] = used_by_operands args

-- an instruction of a kind: a memory type before the operands, and labels behind them; those of a phi in pairs
abbrev pub used_by : Kind → List OperandTree → List Name → List Subject
used_by Phi args labels = used_by_entries args labels
used_by kind args ls = map TypeOf (types_in kind) ++ (used_by_operands args ++ used_as_labels ls)

abbrev pub used_by_inst : InstTree → List Subject
used_by_inst i = used_by i.kind i.args i.labels

-- ---- what is known

-- the names of a module's types, of its symbols, and of a function's locals
pub record Known : Type 0 where
  pub types : List Name
  pub symbols : List Name
  pub locals : List Name

-- outside functions
abbrev pub known_in : ModuleTree → Known
known_in m = record { types = map (λ (t : TypeNameTree). t.name) m.type_names; symbols = map (λ (s : SymbolTree). s.name) m.symbols; locals = [] }

-- in a function
abbrev pub known_within : ModuleTree → FunctionTree → Known
known_within m f = record (known_in m) { locals = names_of (definitions_of f) }

-- whether something is known
abbrev pub is_known : Known → Subject → Bool
is_known known Nothing = true
is_known known (Local n) = has_name n known.locals
is_known known (Symbol n) = has_name n known.symbols
is_known known (TypeOf n) = has_name n known.types

-- what isn't
abbrev pub unknown_of : Known → List Subject → List Subject
unknown_of known subjects = filter (λ s. not (is_known known s)) subjects

-- ---- where something unknown is used

-- in a list of names of types
abbrev pub unknown_types : ModuleTree → List Name → List Breach
unknown_types m names = map outside (unknown_of (known_in m) (map TypeOf names))

-- in a function
abbrev pub unknown_uses : ModuleTree → FunctionTree → List Found
unknown_uses m f = in_insts (λ i. unknown_of (known_within m f) (used_by_inst i)) f

abbrev pub unknown_names : ModuleTree → List Breach
unknown_names m =
    concat (map (λ (t : TypeNameTree). unknown_types m (types_of_definition t.ty)) m.type_names)
    ++ (concat (map (λ (s : SymbolTree). unknown_types m (types_of_symbol s.kind)) m.symbols) ++ in_functions (unknown_uses m) m)
