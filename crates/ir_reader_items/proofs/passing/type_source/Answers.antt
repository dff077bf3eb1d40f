use Rattle.std.proofs.Common.{sym, ap, ◌∙◌, arith}
use Rattle.std.specs.Prelude.{length, is_some}
use Rattle.text_forms.specs.Gives.{left}
use Rattle.ir_reader_types.specs.TypeTable.{names_of}
use Rattle.ir_types.specs.TypeNodes.{names_used, type_nodes}
use Rattle.ir_limits.specs.Limits.{first_long}
use Rattle.ir_reader_items.specs.Sources.{type_read, nodes_or_none, nodes_read}
use Rattle.ir_reader_items.proofs.Longs.{of_scratch}
use Rattle.ir_reader_items.proofs.Depths.{read_again}
use Rattle.ir_reader_items.proofs.passing.type_source.Goals as goal

pub invariant_of-result : goal.invariant_of-result
unfolding nodes_read
invariant_of-result c =
    let ts = left c.args.tokens in
    let nodes = type_nodes (names_of c.memory_type.new.names) c.memory_type.new.types.items c.in_ok-rest.field-0-0 in
    let read = c.in_ok-rest.ensures.reads (length ts) (omega arith) in
    let looked = rw c.new-names.ensures at c.in_ok-rest.ensures.names in
    let long = ap (λ l. first_long (names_of l)) c.as_slice.ensures in
    record {
      stands = ap is_some read;
      first = c.first_long-long.ensures ∙ long ∙ of_scratch c.memory_type.new.names nodes looked ∙ sym (ap (λ r. first_long (names_used (nodes_or_none r))) read);
    }

pub returns : goal.returns
unfolding nodes_read
returns c =
    let ts = left c.args.tokens in
    let rest = left c.in_ok-rest.rest in
    let read = c.in_ok-rest.ensures.reads (length ts) (omega arith) in
    read ∙ read_again _ rest (type_read ts) read
