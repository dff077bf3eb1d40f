use Rattle.std.proofs.Common.{◌≡◌, List, map, Option, Some, None, if◌then◌else◌, sym, ap, ◌∙◌, subst}
use Rattle.std.specs.Prelude.{IfOk}
use Rattle.text_forms.specs.Nested.{concat}
use Rattle.ir_types.specs.declared.module.Module.{Module}
use Rattle.ir_types.specs.declared.module.Symbol.{Symbol}
use Rattle.ir_types.specs.declared.module.Function.{Function}
use Rattle.ir_types.specs.Tree.{FunctionTree}
use Rattle.ir_types.specs.Denotes.{tree_of, tables_of, function_in}
use Rattle.ir_rules.specs.declared.fault.Breach.{Breach}
use Rattle.ir_rules.specs.declared.fault.Subject.TheVariants.{Nothing}
use Rattle.ir_rules.specs.Breaches.{first, inside, outside, in_functions}
use Rattle.ir_rules.specs.Mismatch.{mismatches}
use Rattle.ir_check_fits.specs.Variables.{breaches_of}
use Rattle.ir_check_fits.proofs.Firsts.{found_first, none_first}
use Rattle.ir_check_fits.proofs.mismatch.Goals as goal

pub returns-then-any_sizeless : goal.returns-then-any_sizeless
returns-then-any_sizeless c =
    let m = c.args.m.now in
    let found : first (breaches_of m m.symbols) ≡ Some (outside Nothing) =
    ap (λ (x : Module). first (breaches_of x m.symbols)) (sym c.in_ok-types.ensures)
    ∙ ap (λ (xs : List Symbol). first (breaches_of c.in_ok-types.types xs)) (sym c.as_slice.ensures)
    ∙ c.any_sizeless.ensures
    ∙ ap (λ b. if b then Some (outside Nothing) else None) c.if-any_sizeless.true
    in
    found_first (breaches_of m m.symbols) (in_functions (mismatches (tree_of m)) (tree_of m)) (outside Nothing) (sym found)

pub returns : goal.returns
returns c =
    let m = c.args.m.now in
    let none : first (breaches_of m m.symbols) ≡ None =
    ap (λ (x : Module). first (breaches_of x m.symbols)) (sym c.in_ok-types.ensures)
    ∙ ap (λ (xs : List Symbol). first (breaches_of c.in_ok-types.types xs)) (sym c.as_slice.ensures)
    ∙ c.any_sizeless.ensures
    ∙ ap (λ b. if b then Some (outside Nothing) else None) c.if-any_sizeless.false
    in
    let found = λ (x : Module) (fs : List Function). first (concat (map (λ (f : FunctionTree). map (inside f.name) (mismatches (tree_of x) f)) (map (function_in (tables_of x)) fs))) in
    let whole : found c.in_ok-types.types c.as_slice-2.result.now ≡ found m m.functions =
    ap (λ (x : Module). found x c.as_slice-2.result.now) c.in_ok-types.ensures ∙ ap (found m) c.as_slice-2.ensures
    in
    subst (λ (o : Option Breach). IfOk c.in_functions.result (λ b. b ≡ o)) (whole ∙ sym (none_first (breaches_of m m.symbols) (in_functions (mismatches (tree_of m)) (tree_of m)) (sym none))) c.in_functions.ensures
