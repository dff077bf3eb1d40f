use Rattle.std.proofs.Common.{[], map, ap, ◌∙◌}
use Rattle.ir_types.specs.declared.memory_type.TypeName.{TypeName}
use Rattle.ir_types.specs.Denotes.{Tables}
use Rattle.ir_types.specs.TypeNodes.{all_nodes, type_nodes}
use Rattle.ir_limits.specs.Longs.{long_in, long_at}
use Rattle.ir_limits.proofs.Reached.{known_right}
use Rattle.ir_limits.proofs.longs.LongNames.of_type.Goals as goal

pub returns : goal.returns
returns c =
    let names = map (λ (n : TypeName). n.name) c.self.inside.names.now in
    c.long_known.ensures ∙ ap (λ longs. long_at longs c.args.id) (c.as_slice.ensures.value ∙ c.self.invariant) ∙ known_right (all_nodes names [] c.self.inside.types.now) c.args.id.0 ∙ ap (λ (t : Tables). long_in (type_nodes t.type_names t.types c.args.id)) c.self.view_is
