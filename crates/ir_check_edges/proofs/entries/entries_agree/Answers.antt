use Rattle.std.proofs.Common.{rules, ◌∙◌, ap, map}
use Rattle.ir_types.specs.Denotes.{tables_of}
use Rattle.ir_check_edges.specs.declared.entries.Entry.{Entry}
use Rattle.ir_check_edges.specs.Agreeing.{seen_in, runs_agree}
use Rattle.ir_check_edges.proofs.Firsts.{same_answer}
use Rattle.ir_check_edges.proofs.Agreements.{entries_told}
use Rattle.std.proofs.lemmas.List.Sorted.{IsNonDecreasingBy-from_sort_by_key}
use Rattle.ir_check_edges.proofs.entries.entries_agree.Goals as goal

pub returns : goal.returns
returns c =
    let rising = IsNonDecreasingBy-from_sort_by_key (λ (e : Entry). e.label) _ c.in_ok-sort_by_key.ensures.sorted (λ a r q k. search rules) in
    same_answer c.runs_agree.result _ _ (ap (λ xs. runs_agree (map (seen_in (tables_of c.args.m.now) c.args.names.now) xs)) c.as_slice.ensures.value ∙ entries_told (tables_of c.args.m.now) c.args.names.now c.args.args.now c.args.labels.now c.in_ok-entries.entries.items _ c.entries_of.ensures.table c.in_ok-entries.ensures.entries c.sort_by_key.ensures.permutation rising) c.runs_agree.ensures
