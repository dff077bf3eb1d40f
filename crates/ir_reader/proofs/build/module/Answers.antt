use Rattle.std.proofs.Common.{◌≡◌, ◌++◌, map, drop, Some, refl, ◌∙◌}
use Rattle.std.specs.Global.{Vec}
use Rattle.std.proofs.lemmas.Result.{err_from_is_err_and}
use Rattle.ir_types.specs.declared.module.Function.{Function}
use Rattle.ir_types.specs.Denotes.{function_in}
use Rattle.ir_reader_types.specs.Tables.{tables_in, definitions_of}
use Rattle.ir_limits.specs.Limits.{passed_by}
use Rattle.ir_reader.specs.Gathered.{skimmed_of, long_among}
use Rattle.ir_reader.specs.Trees.{missing_symbol, tables_in_parts}
use Rattle.ir_reader.specs.Typed.{ArePrepared}
use Rattle.ir_reader.specs.Reading.{functions_read, filled_items, IsBuilt}
use Rattle.ir_reader.proofs.Building.{module_over, refused, module_is, module_so}
use Rattle.ir_reader.proofs.build.module.Goals as goal

pub returns-in_err-functions : goal.returns-in_err-functions
returns-in_err-functions c = λ items h.
    let p = err_from_is_err_and c.from_residual-in_err-functions.result c.from_residual-in_err-functions.ensures.1 in
    let g = c.args.gathered in
    let view = function_in (tables_in c.functions.new.tables) in
    let ready : ArePrepared g.definitions.items g.variables.items g.functions.items c.in_ok-tables.field-0.tables c.in_ok-tables.field-0.symbols.items = rw (c.as_slice.ensures.value, c.as_slice-2.ensures.value) at c.in_ok-tables.ensures in
    let reads = rw c.as_slice-3.ensures.value at c.in_err-functions.ensures.reads in
    rw (p.1, p.2) (refused (λ (fs : Vec Function). map view fs.items) g items c.in_ok-tables.field-0.tables c.in_ok-tables.field-0.symbols.items c.in_err-functions.field-0.0 h ready reads)

pub returns : goal.returns
returns c = λ items h.
    let g = c.args.gathered in
    let old = c.in_ok-tables.field-0.tables in
    let symbols = c.in_ok-tables.field-0.symbols.items in
    let t = c.functions.new.tables in
    let fs = c.in_ok-functions.functions.items in
    let parts = c.into_parts-parts.ensures in
    let head = c.in_ok-joined.field-0 in
    let tail = c.in_ok-joined-2.field-0 in
    let ready : ArePrepared g.definitions.items g.variables.items g.functions.items old symbols = rw (c.as_slice.ensures.value, c.as_slice-2.ensures.value) at c.in_ok-tables.ensures in
    let reads : functions_read (definitions_of old) (map skimmed_of g.functions.items) ≡ Some (map (function_in (tables_in t)) fs) = rw c.as_slice-3.ensures.value at c.in_ok-functions.ensures.reads in
    let seen : tables_in_parts c.into_parts-parts.result ≡ tables_in t = rw (parts.symbols, parts.type_names, parts.types) refl in
    let passed : c.in_ok-passed.passed ≡ passed_by (map (function_in (tables_in t)) fs) (long_among g.longs.items (map (function_in (tables_in t)) fs)) = rw (c.as_slice-4.ensures.value, c.as_slice-5.ensures.value, seen) at c.in_ok-passed.ensures in
    let used : c.in_ok-with_missing.field-0 ≡ symbols ++ map missing_symbol (drop t.known t.symbols) = rw (c.as_slice-6.ensures, parts.known, parts.symbols) at c.in_ok-with_missing.ensures in
    let m : IsBuilt (filled_items items) (module_over t head (symbols ++ map missing_symbol (drop t.known t.symbols)) fs tail) c.in_ok-passed.passed =
    module_is g items h old t symbols fs ready c.in_ok-functions.ensures.grows reads c.in_ok-functions.ensures.uses head tail c.in_ok-passed.passed c.in_ok-joined.ensures c.in_ok-joined-2.ensures parts.are c.in_ok-functions.ensures.tables passed in
    module_so (filled_items items) t head tail (symbols ++ map missing_symbol (drop t.known t.symbols)) c.in_ok-with_missing.field-0 fs c.from_vec.result c.types.inside.items.items c.extents.inside.items.items c.type_names.inside.items.items c.in_ok-passed.passed
    (c.types.view_is ∙ parts.types) (c.extents.view_is ∙ parts.extents) (c.type_names.view_is ∙ parts.type_names) used c.from_vec.ensures m
