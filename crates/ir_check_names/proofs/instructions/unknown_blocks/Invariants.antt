use Rattle.std.proofs.Common.{◌≡◌, drop}
use Rattle.ir_check_names.specs.Uses.{unknown_blocks}
use Rattle.ir_check_names.proofs.instructions.unknown_blocks.Given as goal

abbrev pub invariant-loop-block : goal.invariant-loop-block
invariant-loop-block l = unknown_blocks l.known.locals.now l.known.symbols.now l.known.missing.now l.place (drop l.block-index l.blocks) ≡ unknown_blocks l.known.locals.now l.known.symbols.now l.known.missing.now 0 l.blocks
