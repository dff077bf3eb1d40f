use Rattle.std.proofs.Common.{append_assoc}
use Rattle.ir_printer.proofs.item.put_type_name.Goals as goal

pub returns-in_ok-extend_from_slice-in-Opaque : goal.returns-in_ok-extend_from_slice-in-Opaque
returns-in_ok-extend_from_slice-in-Opaque c = rw (c.in-Opaque.is, c.in_ok-extend_from_slice-in-Opaque.ensures.items, c.in_ok-put_definition-in-Opaque.ensures) (simp append_assoc)
