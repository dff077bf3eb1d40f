use Rattle.std.proofs.Common.{List, ap, sym, ◌∙◌}
use Rattle.ir_types.specs.declared.name.Name.{Name}
use Rattle.ir_types.specs.Names.{name_at}
use Rattle.ir_types.proofs.NameAt.{name_got}
use Rattle.ir_types.proofs.name.Names.get.Goals as goal

pub returns : goal.returns
returns c = ap (λ (l : List Name). name_at l c.args.id.0) (sym c.self.view_is) ∙ name_got c.self.inside.set.keys c.args.id.0 c.index.result.now c.index.ensures
