use Rattle.std.proofs.Common.{sym, ap, ◌∙◌}
use Rattle.std.proofs.lemmas.Bool.{ltb-false}
use Rattle.ir_types.specs.Names.{name_at}
use Rattle.ir_types.specs.Denotes.{Tables}
use Rattle.ir_limits.specs.Limits.{long_name}
use Rattle.ir_limits.proofs.Firsts.{none_behind}
use Rattle.ir_limits.proofs.Reached.{name_there}
use Rattle.ir_limits.proofs.longs.LongNames.of_symbol.Goals as goal

pub returns-in-Some : goal.returns-in-Some
returns-in-Some c =
    let look = c.in-Some.ensures.lookup in
    c.long_name.ensures ∙ ap long_name (look.1 ∙ sym (name_there c.self.inside.symbols.now c.args.place c.in-Some.name.now look.3.0)) ∙ ap (λ (t : Tables). long_name (name_at t.symbols c.args.place)) c.self.view_is

pub returns-in-None : goal.returns-in-None
returns-in-None c = sym (none_behind c.self.inside.symbols.now c.args.place (ltb-false _ _ (sym c.in-None.ensures.lookup.0))) ∙ ap (λ (t : Tables). long_name (name_at t.symbols c.args.place)) c.self.view_is
