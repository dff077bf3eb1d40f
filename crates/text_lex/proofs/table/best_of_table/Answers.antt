use Rattle.std.proofs.Common.{◌≡◌, ◌+◌, ◌-◌, ℕ, refl, ap, ◌∙◌, arith}
use Rattle.text_forms.specs.Lexical.{table}
use Rattle.text_lex.specs.Scan.{rows_for}
use Rattle.text_lex.proofs.Ranges.{best_empty, first_fits}
use Rattle.text_lex.proofs.Colons.{best_for}
use Rattle.text_lex.proofs.table.best_of_table.Goals as goal

pub returns-in_default : goal.returns-in_default
returns-in_default c = best_empty c.args.text.now c.in_default.ensures.cases

pub returns : goal.returns
unfolding table
returns c =
    let r = c.rows_for-start.ensures.rows in
    let f = c.in-Some.ensures.cases in
    let s : c.rows_for-start.result.0 ≡ (rows_for c.in-Some.first.now c.args.colon).0 = ap (λ (p : ℕ × ℕ). p.0) r in
    let e : c.rows_for-start.result.0 + c.rows_for-start.result.1 - c.rows_for-start.result.0 ≡ c.rows_for-start.result.1 = omega arith in
    let k : c.rows_for-start.result.0 + c.rows_for-start.result.1 - c.rows_for-start.result.0 ≡ (rows_for c.in-Some.first.now c.args.colon).1 = e ∙ ap (λ (p : ℕ × ℕ). p.1) r in
    c.best.ensures ∙ best_for (λ r. (r.0, r.1.now)) _ _ _ c.args.text.now c.in-Some.first.now c.in-Some.field-0-1.now c.args.colon refl f.0 (first_fits c.args.text.now c.in-Some.first.now c.in-Some.field-0-1.now f.0 (c.type_inv.text 0)) c.requires s k
