-- Instructions from their parts.
use Rattle.std.specs.Prelude.{false, List, [], None}
use Rattle.ir_types.specs.declared.name.ValueId.{ValueId}
use Rattle.ir_types.specs.declared.inst.Ty.{Ty}
use Rattle.ir_types.specs.declared.inst.InstKind.{InstKind}
use Rattle.ir_types.specs.declared.inst.Operand.{Operand}
use Rattle.ir_types.specs.declared.inst.Inst.{Inst}

-- an instruction without a name for its result and without attachments
abbrev pub bare : InstKind → Ty → List Operand → List ValueId → Inst
bare kind ty args labels = record { kind = kind; ty = ty; args = args; labels = labels; result = None; wide = false; kept = [] }
