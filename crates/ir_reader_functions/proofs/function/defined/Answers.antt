use Rattle.std.proofs.Common.{ap, ◌∙◌, subst}
use Rattle.std.specs.Prelude.{IfOk}
use Rattle.text_forms.specs.Gives.{left}
use Rattle.ir_types.specs.Used.{insts_of}
use Rattle.ir_types.specs.Denotes.{function_in}
use Rattle.ir_reader_types.specs.Tables.{TableLists, tables_in, definitions_of}
use Rattle.ir_reader_types.specs.Uses.{InstsUse}
use Rattle.ir_reader_types.proofs.Same.{gives_same}
use Rattle.ir_reader_functions.specs.Functions.{defined_read}
use Rattle.ir_reader_functions.proofs.Bodies.{defined_is}
use Rattle.ir_reader_functions.proofs.function.defined.Goals as goal

pub returns-clause-reads : goal.returns-clause-reads
returns-clause-reads c =
    let tables = c.defined_over-grown.result.0 in
    let ts = left c.args.tokens in
    gives_same (λ x. (function_in (tables_in tables) x.0, left x.1)) c.defined_over-grown.result.1 _ _
    (ap (λ (t : TableLists). defined_read (definitions_of t) ts) c.replace-given.ensures.value ∙ defined_is (definitions_of c.args.tables.now) ts) c.defined_over-grown.ensures.reads

pub returns-clause-uses : goal.returns-clause-uses
returns-clause-uses c =
    let grown = c.defined_over-grown.result.0 in
    subst (λ (t : TableLists). IfOk c.defined_over-grown.result.1 (λ x. InstsUse t (insts_of (function_in (tables_in grown) x.0)) grown)) c.replace-given.ensures.value c.defined_over-grown.ensures.uses
