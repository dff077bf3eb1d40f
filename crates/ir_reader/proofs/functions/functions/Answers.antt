use Rattle.std.specs.Global.{Vec}
use Rattle.std.proofs.Common.{[], ◌∷◌, ◌++◌, map, take, sym, ap, ◌∙◌}
use Rattle.std.proofs.lemmas.List.{take_more}
use Rattle.std.proofs.lemmas.Result.{err_from_is_err_and}
use Rattle.ir_types.specs.declared.module.Function.{Function}
use Rattle.ir_types.specs.Denotes.{function_in}
use Rattle.ir_reader_types.specs.Tables.{tables_in}
use Rattle.ir_reader_types.proofs.Growth.{grows_trans}
use Rattle.ir_reader.proofs.Outlines.{none_read, one_read, one_refused}
use Rattle.ir_reader.proofs.functions.functions.Goals as goal

pub loop-source-init : goal.loop-source-init
loop-source-init c = rw c.in_ok-functions.ensures.items (none_read c.args.tables.now)

pub returns-in_err-function-clause-grows : goal.returns-in_err-function-clause-grows
returns-in_err-function-clause-grows c = grows_trans c.args.tables.now c.loop-source.tables c.function.new.tables c.loop-source.invariant.grows c.in_err-function.ensures.grows

pub returns-in_err-function-clause-reads : goal.returns-in_err-function-clause-reads
returns-in_err-function-clause-reads c =
    let p = err_from_is_err_and c.from_residual-in_err-function.result c.from_residual-in_err-function.ensures.1 in
    let reads = rw c.source-item.is at c.in_err-function.ensures.reads in
    let view = function_in (tables_in c.function.new.tables) in
    rw (p.1, p.2) (one_refused (λ (f : Function). view f) (λ (fs : Vec Function). map view fs.items) c.args.tables.now c.loop-source.tables c.args.sources.now c.loop-source.source-index c.loop-source.functions.items _ c.in_err-function.field-0.0 c.loop-source.invariant c.loop-source-test.true reads)

pub returns-in_err-push-clause-grows : goal.returns-in_err-push-clause-grows
returns-in_err-push-clause-grows c = grows_trans c.args.tables.now c.loop-source.tables c.function.new.tables c.loop-source.invariant.grows c.in_ok-function.ensures.grows

pub loop-source-preserved : goal.loop-source-preserved
loop-source-preserved c =
    let sources = c.args.sources.now in
    let i = c.loop-source.source-index in
    let s = c.source-item.result in
    let e = c.in_ok-function.ensures in
    let taken = take_more sources i s c.loop-source-test.true ∙ ap (λ x. take i sources ++ x ∷ []) (sym c.source-item.is) in
    rw (taken, c.in_ok-push.ensures.items) (one_read c.args.tables.now c.loop-source.tables c.function.new.tables (take i sources) c.loop-source.functions.items s c.in_ok-function.function c.loop-source.invariant e.grows e.reads e.stays e.table e.uses)
