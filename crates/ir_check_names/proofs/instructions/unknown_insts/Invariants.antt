use Rattle.std.proofs.Common.{◌≡◌, drop}
use Rattle.ir_check_names.specs.Uses.{unknown_insts}
use Rattle.ir_check_names.proofs.instructions.unknown_insts.Given as goal

abbrev pub invariant-loop-inst : goal.invariant-loop-inst
invariant-loop-inst l = unknown_insts l.known.locals.now l.known.symbols.now l.known.missing.now l.place (drop l.inst-index l.insts) ≡ unknown_insts l.known.locals.now l.known.symbols.now l.known.missing.now l.fn.first l.insts
