-- The first use in instructions of what is neither defined nor declared, by its place. What is known: the locals and the symbols, marked, and in
-- each type the first name that isn't defined.
use Rattle.std.specs.Prelude.{ℕ, suc, ◌+◌, Bool, false, List, [], ◌∷◌, length, slice_index_or, Option, Some, None, if◌then◌else◌}
use Rattle.std.specs.Option.{option_map}
use Rattle.ir_types.specs.declared.name.ValueId.{ValueId}
use Rattle.ir_types.specs.declared.inst.Operand.{Operand}
use Rattle.ir_types.specs.declared.inst.Operand.TheVariants as operands
use Rattle.ir_types.specs.declared.inst.InstKind.{InstKind}
use Rattle.ir_types.specs.declared.inst.InstKind.TheVariants as kinds
use Rattle.ir_types.specs.declared.inst.Inst.{Inst}
use Rattle.ir_types.specs.declared.module.Block.{Block}
use Rattle.ir_check_names.specs.declared.instructions.Used.{Used}
use Rattle.ir_check_names.specs.declared.instructions.Used.TheVariants.{Local, Symbol, TypeName}
use Rattle.ir_check_names.specs.Choice.{or_else, first_of}
use Rattle.ir_check_names.specs.Missing.{missing_at}

-- a local, where it isn't known
abbrev pub unknown_local : List Bool → ValueId → Option Used
unknown_local locals id = if slice_index_or locals id.0 false then None else Some (Local id)

-- a symbol, where it isn't known
abbrev pub unknown_symbol : List Bool → ℕ → Option Used
unknown_symbol symbols place = if slice_index_or symbols place false then None else Some (Symbol place)

-- in an operand
abbrev pub unknown_operand : (locals symbols : List Bool) → Operand → Option Used
unknown_operand locals symbols (operands.Local id) = unknown_local locals id
unknown_operand locals symbols (operands.Global place bytes) = unknown_symbol symbols place
unknown_operand locals symbols (operands.OutOfRange (Some place)) = unknown_symbol symbols place
unknown_operand locals symbols operand = None

-- in the entries of a phi: each operand before its label
abbrev pub unknown_entries : (locals symbols : List Bool) → List Operand → List ValueId → Option Used
unknown_entries locals symbols (a ∷ args) (l ∷ labels) = or_else (or_else (unknown_operand locals symbols a) (unknown_local locals l)) (unknown_entries locals symbols args labels)
unknown_entries locals symbols [] labels = first_of (unknown_local locals) labels
unknown_entries locals symbols args [] = first_of (unknown_operand locals symbols) args

-- in the memory type of an instruction
abbrev pub unknown_kind : List (Option ℕ) → InstKind → Option Used
unknown_kind missing (kinds.Offset id widths inbounds nuw nusw) = option_map TypeName (missing_at missing id)
unknown_kind missing kind = None

-- in an instruction of a kind
abbrev pub unknown_parts : (locals symbols : List Bool) → List (Option ℕ) → InstKind → List Operand → List ValueId → Option Used
unknown_parts locals symbols missing kinds.Phi args labels = unknown_entries locals symbols args labels
unknown_parts locals symbols missing kind args labels = or_else (unknown_kind missing kind) (or_else (first_of (unknown_operand locals symbols) args) (first_of (unknown_local locals) labels))

-- in an instruction
abbrev pub unknown_inst : (locals symbols : List Bool) → List (Option ℕ) → Inst → Option Used
unknown_inst locals symbols missing i = unknown_parts locals symbols missing i.kind i.args i.labels

-- in instructions, with the number of the one; the first has this number
abbrev pub unknown_insts : (locals symbols : List Bool) → List (Option ℕ) → ℕ → List Inst → Option (Used × ℕ)
unknown_insts locals symbols missing n [] = None
unknown_insts locals symbols missing n (i ∷ is) = or_else (option_map (λ u. (u, n)) (unknown_inst locals symbols missing i)) (unknown_insts locals symbols missing (suc n) is)

-- in blocks
abbrev pub unknown_blocks : (locals symbols : List Bool) → List (Option ℕ) → ℕ → List Block → Option (Used × ℕ)
unknown_blocks locals symbols missing n [] = None
unknown_blocks locals symbols missing n (b ∷ bs) = or_else (unknown_insts locals symbols missing n b.insts) (unknown_blocks locals symbols missing (n + length b.insts) bs)
