use Rattle.std.proofs.Common.{take}
use Rattle.ir_reader.proofs.Outlines.{ReadSoFar}
use Rattle.ir_reader.proofs.functions.functions.Given as goal

abbrev pub invariant-loop-source : goal.invariant-loop-source
invariant-loop-source l = ReadSoFar l.fn.tables (take l.source-index l.sources) l.tables l.functions.items
