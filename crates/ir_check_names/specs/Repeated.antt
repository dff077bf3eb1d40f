-- The first name that is repeated, as it is looked for.
use Rattle.std.specs.Prelude.{Bool, true, false, ◌&&◌, List, [], ◌∷◌, ◌++◌, length, replicate, slice_get, slice_index_or, slice_set, Option, Some, None, if◌then◌else◌}
use Rattle.std.specs.Option.{option_map}
use Rattle.ir_types.specs.declared.name.Name.{Name}
use Rattle.ir_types.specs.declared.name.ValueId.{ValueId}
use Rattle.ir_types.specs.declared.memory_type.TypeName.{TypeName}
use Rattle.ir_types.specs.declared.memory_type.NamedType.{NamedType}
use Rattle.ir_types.specs.declared.memory_type.NamedType.TheVariants.{Missing}
use Rattle.ir_types.specs.declared.module.Symbol.{Symbol}
use Rattle.ir_types.specs.declared.module.Function.{Function}
use Rattle.ir_types.specs.declared.module.Module.{Module}
use Rattle.ir_types.specs.Names.{has_name}
use Rattle.ir_rules.specs.declared.fault.Subject.TheVariants as subjects
use Rattle.ir_rules.specs.declared.fault.Breach.{Breach}
use Rattle.ir_rules.specs.Breaches.{outside}
use Rattle.ir_rules.specs.Locals.{is_text}
use Rattle.ir_check_names.specs.declared.definitions.Definition.{Definition}
use Rattle.ir_check_names.specs.Choice.{or_else, first_of}
use Rattle.ir_check_names.specs.Definitions.{of_function, is_symbol_known, breach_at}

-- whether a type is defined
abbrev pub is_type_known : NamedType → Bool
is_type_known Missing = false
is_type_known ty = true

-- the first of the types whose name stands before it, or among these
abbrev pub repeated_type : List Name → List TypeName → Option Name
repeated_type seen [] = None
repeated_type seen (e ∷ es) = if is_type_known e.ty then (if has_name e.name seen then Some e.name else repeated_type (seen ++ e.name ∷ []) es) else repeated_type seen es

-- the same of symbols
abbrev pub repeated_symbol : List Name → List Symbol → Option Name
repeated_symbol seen [] = None
repeated_symbol seen (s ∷ ss) = if is_symbol_known s.kind then (if has_name s.name seen then Some s.name else repeated_symbol (seen ++ s.name ∷ []) ss) else repeated_symbol seen ss

-- whether there is a text at a place
abbrev pub is_text_at : List Name → ValueId → Bool
is_text_at names id = elim (slice_get names id.0) [ Some n ↦ is_text n | None ↦ false ]

-- the first of the definitions whose name is a text, and is marked or stands before
abbrev pub repeated_from : List Name → List Bool → List Definition → Option Definition
repeated_from names given [] = None
repeated_from names given (d ∷ ds) = if is_text_at names d.name && slice_index_or given d.name.0 false then Some d else repeated_from names (slice_set given d.name.0 true) ds

-- in a function
abbrev pub repeated_in : Function → Option Breach
repeated_in f = option_map (breach_at f) (repeated_from f.names (replicate (length f.names) false) (of_function f))

-- in a module
abbrev pub first_repeated : Module → Option Breach
first_repeated m =
    or_else (option_map (λ n. outside (subjects.TypeName n)) (repeated_type [] m.type_names))
    (or_else (option_map (λ n. outside (subjects.Symbol n)) (repeated_symbol [] m.symbols)) (first_of repeated_in m.functions))
