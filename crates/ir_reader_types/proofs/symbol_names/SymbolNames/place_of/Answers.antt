use Rattle.std.proofs.Common.{◌≡◌, sym, ap, inl, inr, refl, length, arith}
use Rattle.ir_reader_types.proofs.FirstPlaces.{place_found, name_contained, not_contained, place_new}
use Rattle.ir_reader_types.proofs.symbol_names.SymbolNames.place_of.Goals as goal

pub returns-in-Some-clause-place : goal.returns-in-Some-clause-place
returns-in-Some-clause-place c = place_found c.args.self.now c.args.name c.in-Some.place (sym c.in-Some.ensures)

pub returns-in-Some-clause-ok : goal.returns-in-Some-clause-ok
returns-in-Some-clause-ok c = inl (name_contained c.args.self.now c.args.name c.in-Some.place (sym c.in-Some.ensures), refl)

pub returns-in_ok-define-in-None-clause-place : goal.returns-in_ok-define-in-None-clause-place
returns-in_ok-define-in-None-clause-place c =
    let new = place_new c.args.self.now c.args.name (sym c.in-None.ensures) in
    let here : c.len-place.result ≡ length c.args.self.now = omega (arith, ap length c.self.view_is) in
    rw (c.in_ok-define-in-None.ensures.ok, here) new

pub returns-in_ok-define-in-None-clause-ok : goal.returns-in_ok-define-in-None-clause-ok
returns-in_ok-define-in-None-clause-ok c = inr (not_contained c.args.self.now c.args.name (sym c.in-None.ensures), c.in_ok-define-in-None.ensures.ok)
