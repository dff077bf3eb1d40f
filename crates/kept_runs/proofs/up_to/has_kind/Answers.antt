use Rattle.std.proofs.Common.{◌∙◌}
use Rattle.kept_runs.proofs.Stack.{tested_kinds}
use Rattle.kept_runs.proofs.up_to.has_kind.Goals as goal

pub returns : goal.returns
returns c = c.contains.ensures.value ∙ tested_kinds c.args.kinds.now c.args.kind
