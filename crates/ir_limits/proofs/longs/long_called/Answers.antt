use Rattle.std.proofs.Common.{sym, ap, ◌∙◌}
use Rattle.std.proofs.lemmas.Bool.{ltb-false}
use Rattle.std.proofs.lemmas.List.{length-map}
use Rattle.ir_types.specs.declared.memory_type.TypeName.{TypeName}
use Rattle.ir_limits.specs.Limits.{long_name}
use Rattle.ir_limits.proofs.Firsts.{none_behind}
use Rattle.ir_limits.proofs.Reached.{entry_there}
use Rattle.ir_limits.proofs.longs.long_called.Goals as goal

pub returns-in-Some : goal.returns-in-Some
returns-in-Some c =
    let look = c.in-Some.ensures.lookup in
    c.long_name.ensures ∙ ap long_name (ap (λ (e : TypeName). e.name) look.1 ∙ sym (entry_there c.args.names.now c.args.place c.in-Some.entry.now look.3.0))

pub returns-in-None : goal.returns-in-None
returns-in-None c = let behind = ltb-false _ _ (sym c.in-None.ensures.lookup.0) in sym (none_behind _ c.args.place (simp length-map behind))
