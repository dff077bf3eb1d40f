use Rattle.std.proofs.Common.{sym, ap, ◌∙◌}
use Rattle.text_forms.specs.Walk.{completed}
use Rattle.text_forms.specs.Gives.{left}
use Rattle.ir_reader_values.specs.Seen.{definitions}
use Rattle.ir_reader_values.specs.Split.{split_each}
use Rattle.ir_reader_values.specs.Split.{as_two}
use Rattle.ir_reader_memory.specs.Calls.{actuals_in}
use Rattle.ir_reader_types.proofs.Same.{gives_same}
use Rattle.ir_reader_memory.proofs.Callees.{list_some, list_none}
use Rattle.ir_reader_memory.proofs.calls.arguments.Goals as goal

pub returns-then-begins_type-clause-reads : goal.returns-then-begins_type-clause-reads
returns-then-begins_type-clause-reads c =
    let s = c.some_arguments.new.scope in
    gives_same (λ x. (actuals_in s (x.0.0.items, x.0.1), left x.1)) c.some_arguments.result _ _
    (ap (completed (split_each as_two)) (sym (list_some (definitions c.args.scope.now) (left c.args.tokens) (sym c.begins_type.ensures ∙ c.if-begins_type.true)))) c.some_arguments.ensures.reads

pub returns-clause-reads : goal.returns-clause-reads
returns-clause-reads c =
    rw (c.new.ensures.items, c.new-2.ensures) (ap (completed (split_each as_two)) (list_none (definitions c.args.scope.now) (left c.args.tokens) (sym c.begins_type.ensures ∙ c.if-begins_type.false)))
