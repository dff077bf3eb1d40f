use Rattle.std.proofs.Common.{ap, ◌∙◌}
use Rattle.ir_types.specs.declared.module.Module.{Module}
use Rattle.ir_types.specs.Denotes.{tree_of, nodes_in}
use Rattle.ir_rules.specs.Steps.{type_definitions, has_size}
use Rattle.ir_check_fits.specs.Places.{is_sized_at}
use Rattle.ir_check_fits.proofs.Led.{size_agrees}
use Rattle.ir_check_fits.proofs.steps.TypeSteps.has_size.Goals as goal

pub returns : goal.returns
returns c =
    c.is_sized_at.ensures
    ∙ ap (λ xs. is_sized_at xs c.args.id) c.as_slice.ensures
    ∙ size_agrees c.self.inside.whole.now c.self.inside.steps c.self.invariant c.args.id
    ∙ ap (λ (m : Module). has_size (type_definitions (tree_of m)) (nodes_in m c.args.id)) c.self.view_is
