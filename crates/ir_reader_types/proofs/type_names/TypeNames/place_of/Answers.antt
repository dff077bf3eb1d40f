use Rattle.std.proofs.Common.{◌≡◌, sym, ap, inl, inr, refl, length, arith}
use Rattle.ir_reader_types.specs.TypeTable.{names_of, missing_entry}
use Rattle.ir_reader_types.proofs.FirstPlaces.{place_found, name_contained, not_contained, place_new, count, names_push}
use Rattle.ir_reader_types.proofs.type_names.TypeNames.place_of.Goals as goal

pub returns-in-Some-clause-place : goal.returns-in-Some-clause-place
returns-in-Some-clause-place c = place_found (names_of c.args.self.now) c.args.name c.in-Some.place (sym c.in-Some.ensures)

pub returns-in-Some-clause-ok : goal.returns-in-Some-clause-ok
returns-in-Some-clause-ok c = inl (name_contained (names_of c.args.self.now) c.args.name c.in-Some.place (sym c.in-Some.ensures), refl)

pub returns-in_ok-define-in-None-clause-place : goal.returns-in_ok-define-in-None-clause-place
returns-in_ok-define-in-None-clause-place c =
    let new = place_new (names_of c.args.self.now) c.args.name (sym c.in-None.ensures) in
    let here : c.len-place.result ≡ length (names_of c.args.self.now) = omega (arith, ap length c.self.view_is, count c.args.self.now) in
    rw (c.in_ok-define-in-None.ensures.ok, here, names_push c.args.self.now (missing_entry c.args.name)) new

pub returns-in_ok-define-in-None-clause-ok : goal.returns-in_ok-define-in-None-clause-ok
returns-in_ok-define-in-None-clause-ok c = inr (not_contained (names_of c.args.self.now) c.args.name (sym c.in-None.ensures), c.in_ok-define-in-None.ensures.ok)
