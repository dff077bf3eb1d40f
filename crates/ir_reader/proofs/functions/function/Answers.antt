use Rattle.std.proofs.lemmas.Result.{err_from_is_err_and}
use Rattle.text_forms.specs.declared.cursor.Cursor.{Cursor}
use Rattle.text_forms.specs.Gives.{left}
use Rattle.ir_types.specs.declared.module.Function.{Function}
use Rattle.ir_types.specs.Denotes.{function_in}
use Rattle.ir_reader_types.specs.Tables.{tables_in, definitions_of}
use Rattle.ir_reader.proofs.Outlines.{defined_read, declared_read, defined_refused, declared_refused, declared_uses}
use Rattle.ir_reader.proofs.functions.function.Goals as goal

pub returns-in_err-function-clause-reads : goal.returns-in_err-function-clause-reads
returns-in_err-function-clause-reads c =
    let p = err_from_is_err_and c.from_residual.result c.from_residual.ensures.1 in
    let t = tables_in c.defined.new.tables in
    rw (p.1, p.2) (defined_refused (definitions_of c.args.tables.now) c.args.source.now (λ (x : Function × Cursor). (function_in t x.0, left x.1)) (λ (f : Function). function_in t f) c.in_err-function.field-0.0 c.if-source.true c.in_err-function.ensures.reads)

pub returns-then-source-clause-reads : goal.returns-then-source-clause-reads
returns-then-source-clause-reads c = defined_read (definitions_of c.args.tables.now) c.args.source.now _ (left c.in_ok-function.field-0-1) c.if-source.true c.in_ok-function.ensures.reads

pub returns-in_err-function-2-clause-reads : goal.returns-in_err-function-2-clause-reads
returns-in_err-function-2-clause-reads c =
    let p = err_from_is_err_and c.from_residual-in_err-function-2.result c.from_residual-in_err-function-2.ensures.1 in
    let t = tables_in c.args.tables.now in
    rw (p.1, p.2) (declared_refused (definitions_of c.args.tables.now) c.args.source.now (λ (x : Function × Cursor). (function_in t x.0, left x.1)) (λ (f : Function). function_in t f) c.in_err-function-2.field-0.0 c.if-source.false (c.in_err-function-2.ensures.reads t))

pub returns-clause-reads : goal.returns-clause-reads
returns-clause-reads c = declared_read (definitions_of c.args.tables.now) c.args.source.now _ (left c.in_ok-function-2.field-0-1) c.if-source.false (c.in_ok-function-2.ensures.reads (tables_in c.args.tables.now))

pub returns-clause-uses : goal.returns-clause-uses
returns-clause-uses c = let t = c.args.tables.now in declared_uses t (left c.args.source.now.tokens) (left c.in_ok-function-2.field-0-1) _ (c.in_ok-function-2.ensures.reads (tables_in t))
