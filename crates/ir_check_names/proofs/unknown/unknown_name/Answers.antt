use Rattle.ir_types.specs.Denotes.{tree_of}
use Rattle.ir_rules.specs.Breaches.{first}
use Rattle.ir_rules.specs.Unknown.{unknown_names}
use Rattle.ir_check_names.specs.FirstUnknown.{first_unknown}
use Rattle.ir_check_names.proofs.Choosing.{same_answer}
use Rattle.ir_check_names.proofs.Seeking.{in_module}
use Rattle.ir_check_names.proofs.unknown.unknown_name.Goals as goal

pub returns : goal.returns
returns c = same_answer c.first_unknown.result (first_unknown c.args.m.now) (first (unknown_names (tree_of c.args.m.now))) (in_module c.args.m.now c.requires.is_module) c.first_unknown.ensures
