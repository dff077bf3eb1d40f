use Rattle.std.proofs.Common.{◌≡◌, drop}
use Rattle.ir_types.specs.Denotes.{inst_in}
use Rattle.ir_limits.specs.Mentioned.{in_inst}
use Rattle.ir_limits.specs.Limits.{first_long}
use Rattle.ir_limits.proofs.Firsts.{first_of}
use Rattle.ir_limits.proofs.names.long_insts.Given as goal

abbrev pub invariant-loop-inst : goal.invariant-loop-inst
invariant-loop-inst l = first_of (λ i. first_long (in_inst (inst_in l.tables l.names i))) (drop l.inst-index l.insts) ≡ first_of (λ i. first_long (in_inst (inst_in l.tables l.names i))) l.insts
