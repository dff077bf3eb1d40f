-- What is printed of a memory type writes it in an instruction too.
use Rattle.std.proofs.Common.{List, length, arith}
use Rattle.text_lex.specs.Layout.{Piece, tokens_of, closed}
use Rattle.ir_types.specs.TypeNodes.{TypeNode}
use Rattle.ir_types.specs.TypeForms.{memory_type, inst_memory}
use Rattle.ir_shape.specs.Shape.{IsMemory}
use Rattle.ir_shape.proofs.InstMemory.{as_inst_memory}
use Rattle.ir_printer_types.specs.MemoryPieces.{node_pieces}
use Rattle.ir_printer_types.proofs.Laid.{IsLaid}
use Rattle.ir_printer_types.proofs.MemoryPrinted.{memory_prints}
use Rattle.ir_printer_types.proofs.Says.{Says}
use Rattle.ir_printer_types.proofs.Writes.{Writes, laid_writes}

-- what says a memory type can stand in an instruction
pub in_instruction : (nodes : List TypeNode) (ps : List Piece) → Says (memory_type (length (tokens_of ps))) nodes (tokens_of ps) → IsLaid ps → Writes closed inst_memory nodes ps
in_instruction nodes ps s l = laid_writes (record { spells = as_inst_memory nodes (tokens_of ps) s.spells }) l

-- the pieces of a memory type write it in an instruction
pub memory_writes : (nodes : List TypeNode) → IsMemory nodes → Writes closed inst_memory nodes (node_pieces nodes)
memory_writes nodes m = let p = memory_prints nodes m in in_instruction _ _ (p.says (length (tokens_of (node_pieces nodes))) (omega arith)) p.laid
