use Rattle.std.proofs.Common.{List, length, sym, ap, ◌∙◌, subst, arith}
use Rattle.text_forms.specs.Gives.{left}
use Rattle.ir_types.specs.TypeNodes.{TypeNode}
use Rattle.ir_reader_types.specs.TypeTable.{LooksUpAll}
use Rattle.ir_reader_items.specs.Sources.{nodes_read, nodes_or_none}
use Rattle.ir_reader.proofs.named.type_at.Goals as goal

pub returns-in-Ok-clause-stands : goal.returns-in-Ok-clause-stands
unfolding nodes_read
returns-in-Ok-clause-stands c = λ later others n t.
    let read = ap nodes_or_none (c.in-Ok.ensures.reads (length (left c.args.source.tokens)) (omega arith)) in
    c.in-Ok.ensures.stays later others n t ∙ sym read

pub returns-in-Ok-clause-names_grow : goal.returns-in-Ok-clause-names_grow
unfolding nodes_read
returns-in-Ok-clause-names_grow c =
    let read = ap nodes_or_none (c.in-Ok.ensures.reads (length (left c.args.source.tokens)) (omega arith)) in
    subst (λ (l : List TypeNode). LooksUpAll c.args.names.now l c.memory_type.new.names) (sym read) c.in-Ok.ensures.names
