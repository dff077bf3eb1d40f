-- The first use in a module of what is neither defined nor declared, as it is looked for.
use Rattle.std.specs.Prelude.{ℕ, Bool, false, List, [], map, length, replicate, slice_get, Option, Some, None}
use Rattle.std.specs.Option.{option_map}
use Rattle.ir_types.specs.declared.name.Name.{Name}
use Rattle.ir_types.specs.declared.memory_type.TypeName.{TypeName}
use Rattle.ir_types.specs.declared.module.Symbol.{Symbol}
use Rattle.ir_types.specs.declared.module.Function.{Function}
use Rattle.ir_types.specs.declared.module.Module.{Module}
use Rattle.ir_rules.specs.declared.fault.Subject.{Subject}
use Rattle.ir_rules.specs.declared.fault.Subject.TheVariants as subjects
use Rattle.ir_rules.specs.declared.fault.Breach.{Breach}
use Rattle.ir_rules.specs.Breaches.{outside}
use Rattle.ir_check_names.specs.declared.instructions.Used.{Used}
use Rattle.ir_check_names.specs.declared.instructions.Used.TheVariants as used
use Rattle.ir_check_names.specs.Choice.{or_else, first_of}
use Rattle.ir_check_names.specs.Definitions.{of_function, all_marked, is_symbol_known, local_subject}
use Rattle.ir_check_names.specs.Missing.{missing_names, missing_in_definition, missing_in_symbol}
use Rattle.ir_check_names.specs.Uses.{unknown_blocks}

-- a name of a type, by its place; a place without a name says nothing
abbrev pub type_subject : List TypeName → ℕ → Subject
type_subject names k = elim (slice_get names k) [ Some n ↦ subjects.TypeName n.name | None ↦ subjects.Nothing ]

-- a symbol, by its place; a place without a symbol says nothing
abbrev pub symbol_subject : List Symbol → ℕ → Subject
symbol_subject symbols k = elim (slice_get symbols k) [ Some s ↦ subjects.Symbol s.name | None ↦ subjects.Nothing ]

-- what is used
abbrev pub used_subject : Module → List Name → Used → Subject
used_subject m names (used.Local id) = local_subject names id
used_subject m names (used.Symbol k) = symbol_subject m.symbols k
used_subject m names (used.TypeName k) = type_subject m.type_names k

-- a breach in a function
abbrev pub breach_of : Module → Function → Used × ℕ → Breach
breach_of m f u = record { function = Some f.name; subject = used_subject m f.names u.0; place = u.1 }

-- the locals of a function that are defined, marked
abbrev pub local_marks : Function → List Bool
local_marks f = all_marked (replicate (length f.names) false) (of_function f)

-- in a function
abbrev pub unknown_in : Module → List Bool → List (Option ℕ) → Function → Option Breach
unknown_in m symbols missing f = option_map (breach_of m f) (unknown_blocks (local_marks f) symbols missing 0 f.body)

-- in the heads of a module
abbrev pub unknown_in_heads : Module → List (Option ℕ) → Option ℕ
unknown_in_heads m missing = or_else (first_of (λ (n : TypeName). missing_in_definition missing n.ty) m.type_names) (first_of (λ (s : Symbol). missing_in_symbol missing s.kind) m.symbols)

-- in a module
abbrev pub first_unknown : Module → Option Breach
first_unknown m =
    let missing = missing_names m.type_names [] m.types in
    or_else (option_map (λ k. outside (type_subject m.type_names k)) (unknown_in_heads m missing))
    (first_of (unknown_in m (map (λ (s : Symbol). is_symbol_known s.kind) m.symbols) missing) m.functions)
