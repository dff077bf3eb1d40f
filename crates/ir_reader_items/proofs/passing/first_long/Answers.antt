use Rattle.std.proofs.Common.{sym, ◌∙◌}
use Rattle.ir_types.specs.declared.memory_type.TypeName.{TypeName}
use Rattle.ir_limits.specs.Limits.{long_name}
use Rattle.ir_limits.proofs.Firsts.{found_item, none_at_all, first_of_map}
use Rattle.ir_reader_items.proofs.passing.first_long.Goals as goal

pub returns-in-Some : goal.returns-in-Some
returns-in-Some c =
    found_item (λ (t : TypeName). long_name t.name) c.args.names.now c.loop-entry.entry-index c.entry-item.result c.in-Some.bytes c.loop-entry-test.true c.entry-item.is c.loop-entry.invariant (sym c.long_name.ensures ∙ c.in-Some.is)
    ∙ first_of_map (λ (t : TypeName). t.name) c.args.names.now

pub returns : goal.returns
returns c = none_at_all (λ (t : TypeName). long_name t.name) c.args.names.now c.loop-entry.entry-index c.loop-entry-test.false c.loop-entry.invariant ∙ first_of_map (λ (t : TypeName). t.name) c.args.names.now
