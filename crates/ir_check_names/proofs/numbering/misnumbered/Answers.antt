use Rattle.std.proofs.Common.{ap, ◌∙◌}
use Rattle.ir_types.specs.Denotes.{tree_of}
use Rattle.ir_rules.specs.Breaches.{first}
use Rattle.ir_rules.specs.Numbering.{misnumbered_names}
use Rattle.ir_check_names.specs.Choice.{first_of}
use Rattle.ir_check_names.specs.Misnumbered.{misnumbered_in}
use Rattle.ir_check_names.proofs.Choosing.{same_answer}
use Rattle.ir_check_names.proofs.Rising.{in_module}
use Rattle.ir_check_names.proofs.numbering.misnumbered.Goals as goal

pub returns : goal.returns
returns c =
    let fs = ap (first_of misnumbered_in) c.as_slice.ensures in
    same_answer c.misnumbered_in_functions.result (first_of misnumbered_in c.as_slice.result.now) (first (misnumbered_names (tree_of c.args.m.now))) (fs ∙ in_module c.args.m.now c.requires.is_module) c.misnumbered_in_functions.ensures
