use Rattle.std.proofs.Common.{◌≡◌, drop}
use Rattle.ir_types.specs.declared.module.Param.{Param}
use Rattle.ir_types.specs.Denotes.{name_in}
use Rattle.ir_limits.specs.Limits.{long_name}
use Rattle.ir_limits.proofs.Firsts.{first_of}
use Rattle.ir_limits.proofs.names.long_params.Given as goal

abbrev pub invariant-loop-param : goal.invariant-loop-param
invariant-loop-param l = first_of (λ (p : Param). long_name (name_in l.names p.name)) (drop l.param-index l.params) ≡ first_of (λ (p : Param). long_name (name_in l.names p.name)) l.params
