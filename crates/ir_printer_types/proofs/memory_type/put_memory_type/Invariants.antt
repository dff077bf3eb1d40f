use Rattle.std.proofs.Common.{◌++◌}
use Rattle.std.specs.Prelude.{map}
use Rattle.text_lex.specs.Layout.{text_of}
use Rattle.ir_types.specs.TypeNodes.{type_nodes}
use Rattle.ir_printer_types.specs.MemoryPieces.{node_pieces}
use Rattle.ir_printer_types.proofs.Frames.{IsPrinting, left_of}
use Rattle.ir_printer_types.proofs.memory_type.put_memory_type.Given as goal

abbrev pub invariant-loop-frame : goal.invariant-loop-frame
invariant-loop-frame l = IsPrinting (map (λ n. n.name) l.names) l.types l.out.items (l.initial.out.items ++ text_of (node_pieces (type_nodes (map (λ n. n.name) l.names) l.types l.fn.id))) l.frames.items

abbrev pub decreases-loop-frame : goal.decreases-loop-frame
decreases-loop-frame l = left_of (map (λ n. n.name) l.names) l.types l.frames.items
