use Rattle.std.proofs.Common.{◌≡◌, ℕ, Result, Ok, Err, sym}
use Rattle.std.specs.Prelude.{IfOk}
use Rattle.std.specs.declared.alloc.AllocError.{AllocError}
use Rattle.ir_types.specs.declared.name.Name.{Name}
use Rattle.ir_types.specs.Names.{name_at}
use Rattle.ir_reader_types.specs.TypeTable.{IsPlaceOf}
use Rattle.ir_reader_types.specs.Tables.{TableLists, Grows}
use Rattle.ir_reader_types.proofs.Growth.{tables_with_symbol, symbol_stays}
use Rattle.ir_reader_types.proofs.Uses.{uses_symbol}
use Rattle.ir_reader_types.proofs.tables.Tables.symbol.Goals as goal

pub invariant_of-self : goal.invariant_of-self
invariant_of-self c =
    let s = c.self.inside in
    let t : TableLists = record { symbols = s.symbols; known = s.known; entries = s.names; types = s.types.items; extents = s.extents.items } in
    (tables_with_symbol c.place_of.result t c.args.name c.place_of.new.self c.place_of.ensures.ok c.place_of.ensures.err c.self.invariant.0, c.self.invariant.1)

stays : (r : Result ℕ AllocError) (name : Name) (t : TableLists) → IfOk r (IsPlaceOf t.symbols name) → IfOk r (λ id. (later : TableLists) → Grows t later → name_at later.symbols id ≡ name_at t.symbols id)
stays (Ok id) name t p = λ later g. symbol_stays t.symbols later.symbols id p.0.within g.symbols
stays (Err e) name t p = tt

pub returns-clause-stays : goal.returns-clause-stays
returns-clause-stays c =
    let s = c.self.inside in
    stays c.place_of.result c.args.name (record { symbols = c.place_of.new.self; known = s.known; entries = s.names; types = s.types.items; extents = s.extents.items }) c.place_of.ensures.place

pub returns-clause-uses : goal.returns-clause-uses
returns-clause-uses c =
    let s = c.self.inside in
    rw (sym c.self.view_is) (uses_symbol c.place_of.result (record { symbols = s.symbols; known = s.known; entries = s.names; types = s.types.items; extents = s.extents.items }) c.args.name c.place_of.new.self c.place_of.ensures.ok)
