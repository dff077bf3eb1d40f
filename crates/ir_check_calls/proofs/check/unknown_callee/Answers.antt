use Rattle.std.proofs.Common.{sym, ap, subst, ◌∙◌}
use Rattle.std.specs.Prelude.{filter_map}
use Rattle.ir_rules.specs.Breaches.{first}
use Rattle.ir_check_calls.specs.Heads.{Apart, function_names, misdeclared_of, miscalled_in}
use Rattle.ir_check_calls.proofs.Whole.{once_each, symbol_first, call_first}
use Rattle.ir_check_calls.proofs.check.unknown_callee.Goals as goal

pub returns-in-Some : goal.returns-in-Some
returns-in-Some c =
    let m = c.args.m.now in
    symbol_first m c.in-Some.breach c.requires.is_module (once_each m c.requires.is_module c.requires.distinct) (sym c.in-Some.is ∙ c.in_ok-breach.ensures ∙ ap (λ fs. first (filter_map (misdeclared_of fs) c.as_slice-symbols.result.now)) c.as_slice-functions.ensures ∙ ap (λ ss. first (filter_map (misdeclared_of m.functions) ss)) c.as_slice-symbols.ensures)

pub places_of-requires : goal.places_of-requires
places_of-requires c = subst (λ fs. Apart (function_names fs)) (sym c.as_slice-functions.ensures) (once_each c.args.m.now c.requires.is_module c.requires.distinct)

pub returns : goal.returns
returns c =
    let m = c.args.m.now in
    let once = once_each m c.requires.is_module c.requires.distinct in
    let none = sym c.in_default.is ∙ c.in_ok-breach.ensures ∙ ap (λ fs. first (filter_map (misdeclared_of fs) c.as_slice-symbols.result.now)) c.as_slice-functions.ensures ∙ ap (λ ss. first (filter_map (misdeclared_of m.functions) ss)) c.as_slice-symbols.ensures in
    call_first m c.in_ok-found.found c.requires.is_module once none (c.in_ok-found.ensures ∙ ap (λ ns. first (filter_map (miscalled_in m ns) c.as_slice-functions.result.now)) c.in_ok-places.ensures ∙ ap (λ fs. first (filter_map (miscalled_in m (function_names fs)) fs)) c.as_slice-functions.ensures)
