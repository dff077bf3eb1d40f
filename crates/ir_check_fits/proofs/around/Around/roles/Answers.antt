use Rattle.std.proofs.Common.{◌<◌, ◌≤◌, List, [], length, get_or, sym, ap, ◌∙◌, subst}
use Rattle.std.proofs.lemmas.Bool.{ltb-false}
use Rattle.std.proofs.lemmas.List.{get_or_past}
use Rattle.ir_check_fits.specs.declared.locals.Role.{Role}
use Rattle.ir_check_fits.specs.Roles.{any_passes}
use Rattle.ir_check_fits.specs.Sites.{Site, is_given}
use Rattle.ir_check_fits.proofs.around.Around.roles.Goals as goal

pub returns-in-Some : goal.returns-in-Some
returns-in-Some c = λ p.
    let i = c.args.id.0 in
    let lt : i < length c.self.inside.function.now.names = subst (λ (s : Site). i < length s.part.names) (sym c.self.view_is) c.requires in
    ap (any_passes p) (c.as_slice.ensures ∙ c.in-Some.ensures.lookup.3.1 [] ∙ ap (λ (xs : List (List Role)). get_or xs i []) c.deref.ensures.value)
    ∙ c.self.invariant i p lt
    ∙ ap (λ (s : Site). is_given s i p) c.self.view_is

pub returns-in-None : goal.returns-in-None
returns-in-None c = λ p.
    let i = c.args.id.0 in
    let lt : i < length c.self.inside.function.now.names = subst (λ (s : Site). i < length s.part.names) (sym c.self.view_is) c.requires in
    let past : length c.deref.result.now ≤ i = ltb-false _ _ (sym c.in-None.ensures.lookup.0) in
    ap (any_passes p) (sym (get_or_past c.deref.result.now i [] past) ∙ ap (λ (xs : List (List Role)). get_or xs i []) c.deref.ensures.value)
    ∙ c.self.invariant i p lt
    ∙ ap (λ (s : Site). is_given s i p) c.self.view_is
