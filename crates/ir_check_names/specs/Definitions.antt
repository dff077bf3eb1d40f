-- The locals of a function where they are defined, by their places in its names.
use Rattle.std.specs.Prelude.{ℕ, suc, ◌+◌, Bool, true, false, List, [], ◌∷◌, ◌++◌, map, length, slice_get, slice_set, Some, None}
use Rattle.ir_types.specs.declared.name.Name.{Name}
use Rattle.ir_types.specs.declared.name.ValueId.{ValueId}
use Rattle.ir_types.specs.declared.inst.Inst.{Inst}
use Rattle.ir_types.specs.declared.module.Block.{Block}
use Rattle.ir_types.specs.declared.module.Param.{Param}
use Rattle.ir_types.specs.declared.module.Function.{Function}
use Rattle.ir_types.specs.declared.module.SymbolKind.{SymbolKind}
use Rattle.ir_types.specs.declared.module.SymbolKind.TheVariants as symbols
use Rattle.ir_rules.specs.declared.fault.Subject.{Subject}
use Rattle.ir_rules.specs.declared.fault.Subject.TheVariants.{Nothing, Local}
use Rattle.ir_rules.specs.declared.fault.Breach.{Breach}
use Rattle.ir_check_names.specs.declared.definitions.Definition.{Definition}

-- of the parameters
abbrev pub of_params : List Param → List Definition
of_params params = map (λ (p : Param). record { name = p.name; place = 0 }) params

-- of the results, where the first instruction has this number
abbrev pub of_results : ℕ → List Inst → List Definition
of_results n [] = []
of_results n (i ∷ is) = elim i.result [ Some r ↦ record { name = r; place = n } ∷ of_results (suc n) is | None ↦ of_results (suc n) is ]

-- of the blocks and what is in them
abbrev pub of_blocks : ℕ → List Block → List Definition
of_blocks n [] = []
of_blocks n (b ∷ bs) = record { name = b.name; place = n } ∷ (of_results n b.insts ++ of_blocks (n + length b.insts) bs)

-- of a function, in the text's order
abbrev pub of_function : Function → List Definition
of_function f = of_params f.params ++ of_blocks 0 f.body

-- the places of the definitions, marked
abbrev pub all_marked : List Bool → List Definition → List Bool
all_marked marks [] = marks
all_marked marks (d ∷ ds) = all_marked (slice_set marks d.name.0 true) ds

-- whether a symbol is defined or declared
abbrev pub is_symbol_known : SymbolKind → Bool
is_symbol_known symbols.Missing = false
is_symbol_known kind = true

-- a local, by its place; a place without a name says nothing
abbrev pub local_subject : List Name → ValueId → Subject
local_subject names id = elim (slice_get names id.0) [ Some n ↦ Local n | None ↦ Nothing ]

-- a breach where a local is defined
abbrev pub breach_at : Function → Definition → Breach
breach_at f d = record { function = Some f.name; subject = local_subject f.names d.name; place = d.place }
