use Rattle.std.proofs.Common.{Some, sym, ap, ◌∙◌}
use Rattle.text_forms.proofs.Tables.{entry_here, entry_next, same, other}
use Rattle.text_forms.proofs.words.find.Goals as goal

pub returns-then-eq : goal.returns-then-eq
returns-then-eq g c =
    let e = same c.entry-item.result.0.now c.args.word.now (sym c.if-eq.ensures) in
    ap (λ x. Some x.1) c.entry-item.is
    ∙ sym (entry_here (λ x. (x.0.now, x.1)) c.args.table.now c.loop-entry.entry-index c.entry-item.result c.args.word.now c.loop-entry-test.true (ap (λ x. x.0.now) (sym c.entry-item.is) ∙ e))
    ∙ c.loop-entry.invariant

pub loop-entry-preserved : goal.loop-entry-preserved
loop-entry-preserved g c =
    let n = other c.entry-item.result.0.now c.args.word.now (sym c.if-eq.ensures) in
    sym (entry_next (λ x. (x.0.now, x.1)) c.args.table.now c.loop-entry.entry-index c.entry-item.result c.args.word.now c.loop-entry-test.true (λ h. n (ap (λ x. x.0.now) c.entry-item.is ∙ h)))
    ∙ c.loop-entry.invariant
