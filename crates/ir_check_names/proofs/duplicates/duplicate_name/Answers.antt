use Rattle.ir_types.specs.Denotes.{tree_of}
use Rattle.ir_rules.specs.Breaches.{first}
use Rattle.ir_rules.specs.Duplicates.{duplicate_names}
use Rattle.ir_check_names.specs.Repeated.{first_repeated}
use Rattle.ir_check_names.proofs.Choosing.{same_answer}
use Rattle.ir_check_names.proofs.Doubled.{in_module}
use Rattle.ir_check_names.proofs.duplicates.duplicate_name.Goals as goal

pub returns : goal.returns
returns c = same_answer c.first_repeated.result (first_repeated c.args.m.now) (first (duplicate_names (tree_of c.args.m.now))) (in_module c.args.m.now c.requires.is_module) c.first_repeated.ensures
