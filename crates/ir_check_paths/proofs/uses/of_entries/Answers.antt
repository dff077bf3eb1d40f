use Rattle.std.proofs.Common.{◌<◌, inl, inr, ◌∙◌, length, sym, arith}
use Rattle.std.proofs.lemmas.Bool.{cases_lt}
use Rattle.std.proofs.lemmas.List.{get_or_default}
use Rattle.ir_check_paths.proofs.FindsLemmas.{some_of, none_of}
use Rattle.ir_check_paths.proofs.EntriesLemmas.{entries_more, entries_stop, entries_end}
use Rattle.ir_check_paths.proofs.uses.of_entries.Goals as goal

pub returns-then-is_some-clause-finds : goal.returns-then-is_some-clause-finds
returns-then-is_some-clause-finds c =
    let la : c.loop-entry.entry < length c.args.args.now = omega arith in
    let ll : c.loop-entry.entry < length c.args.labels.now = omega arith in
    let some = some_of c.in_ok-found.found (sym c.is_some.ensures ∙ c.if-is_some.true) in
    entries_stop _ c.loop-entry.entry c.args.args.now c.args.labels.now c.index-args-entry.result _ _ some.0 la ll c.index-args-entry.is (get_or_default c.args.labels.now c.loop-entry.entry _ _ ll) some.1 c.in_ok-found.ensures.finds c.loop-entry.invariant.entries

pub loop-entry-preserved : goal.loop-entry-preserved
loop-entry-preserved c =
    let la : c.loop-entry.entry < length c.args.args.now = omega arith in
    let ll : c.loop-entry.entry < length c.args.labels.now = omega arith in
    record {
      passed = c.in_ok-found.ensures.passed;
      entries = entries_more _ _ c.args.args.now c.args.labels.now c.index-args-entry.result _ c.in_ok-found.found la ll c.index-args-entry.is (get_or_default c.args.labels.now c.loop-entry.entry _ _ ll) (none_of c.in_ok-found.found (sym c.is_some.ensures ∙ c.if-is_some.false)) c.in_ok-found.ensures.finds c.loop-entry.invariant.entries;
    }

pub returns-clause-finds : goal.returns-clause-finds
returns-clause-finds c =
    entries_end _ c.loop-entry.entry c.args.args.now c.args.labels.now (elim (cases_lt c.loop-entry.entry (length c.args.args.now)) [ inl lt ↦ inr (omega arith) | inr le ↦ inl le ]) c.loop-entry.invariant.entries
