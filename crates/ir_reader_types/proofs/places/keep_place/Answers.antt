use Rattle.std.proofs.Common.{◌∙◌, sym, ap, cond, Some}
use Rattle.std.specs.Map.{lookup}
use Rattle.ir_types.specs.declared.name.Name.{Name}
use Rattle.ir_types.proofs.SameNames.{name_eq}
use Rattle.ir_reader_types.proofs.FirstPlaces.{places_there, places_new}
use Rattle.ir_reader_types.proofs.places.keep_place.Goals as goal

pub returns-then-contains_key-clause-ok : goal.returns-then-contains_key-clause-ok
returns-then-contains_key-clause-ok c = λ names e h. places_there names c.args.places.now.entries c.args.name.now h (sym c.contains_key.ensures ∙ c.if-contains_key.true)

pub returns-clause-ok : goal.returns-clause-ok
returns-clause-ok c = λ names e h.
    places_new names c.args.places.now.entries c.insert.new.self.entries c.args.name.now h (sym c.contains_key.ensures ∙ c.if-contains_key.false)
    (λ q. c.in_ok-insert.ensures.updates.0 q ∙ ap (λ (m : Name). cond (name_eq m q) (Some c.args.place) (lookup (name_eq q) c.args.places.now.entries)) c.in_ok-copy.ensures ∙ ap (λ n. cond (name_eq c.args.name.now q) (Some n) (lookup (name_eq q) c.args.places.now.entries)) (sym e))
