use Rattle.std.proofs.Common.{◌≡◌, List, length, sym, ap, ◌∙◌, subst, arith, Some}
use Rattle.std.specs.Prelude.{slice_get}
use Rattle.std.proofs.lemmas.Option.{slice_get-get_or}
use Rattle.ir_types.specs.declared.memory_type.TypeName.{TypeName}
use Rattle.ir_reader_types.specs.TypeTable.{HasFirstPlaces, with_type, names_of}
use Rattle.ir_reader_types.proofs.FirstPlaces.{set_types, same_names, places_stay, same_length}
use Rattle.ir_reader_types.proofs.type_names.TypeNames.set.Goals as goal

pub returns-clause-types : goal.returns-clause-types
returns-clause-types c =
    let here : slice_get c.self.inside.types.items c.args.place ≡ Some c.index_mut.result.now = slice_get-get_or c.self.inside.types.items c.args.place c.index_mut.result.now (omega (arith, ap length c.self.view_is)) ∙ ap Some (sym c.index_mut.ensures.value) in
    set_types c.self.inside.types.items c.args.place c.index_mut.result.now c.args.ty here ∙ ap (λ (l : List TypeName). with_type l c.args.place c.args.ty) c.self.view_is

pub invariant_of-self : goal.invariant_of-self
invariant_of-self c =
    rw (returns-clause-types c) (
      places_stay c.args.self.now c.self.inside.places.entries c.args.place c.args.ty (subst (λ (l : List TypeName). HasFirstPlaces (names_of l) c.self.inside.places.entries) c.self.view_is c.self.invariant.0),
      omega (arith, same_length c.args.self.now c.args.place c.args.ty, ap length c.self.view_is, c.self.invariant.1),
    )

pub returns-clause-names : goal.returns-clause-names
returns-clause-names c = ap names_of (returns-clause-types c) ∙ same_names c.args.self.now c.args.place c.args.ty
