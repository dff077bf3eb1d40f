use Rattle.std.proofs.Common.{◌≡◌, length, sym, ◌∙◌}
use Rattle.std.proofs.lemmas.List.{append-nil}
use Rattle.ir_types.proofs.NameAt.{extends_refl}
use Rattle.ir_reader_types.specs.Tables.{TableLists}
use Rattle.ir_reader_types.proofs.Enlarged.{enlarged, enlarged_grows, with_entries, steps_with_names, cut_back, nodes_kept}
use Rattle.ir_reader_types.proofs.tables.Tables.memory_type.Goals as goal

pub invariant_of-self : goal.invariant_of-self
invariant_of-self c =
    let s = c.self.inside in
    let t : TableLists = record { symbols = s.symbols; known = s.known; entries = s.names; types = s.types.items; extents = s.extents.items } in
    let e = c.in-Ok.ensures in
    (enlarged t c.read_type.new.names c.self.invariant.0 e.looks_up c.read_type.new.types.items c.read_type.new.extents.items e.types_grow e.are e.extents_are, e.steps_are)

pub invariant_of-self-in-Err : goal.invariant_of-self-in-Err
invariant_of-self-in-Err c =
    let s = c.self.inside in
    let t : TableLists = record { symbols = s.symbols; known = s.known; entries = s.names; types = s.types.items; extents = s.extents.items } in
    let e = c.in-Err.ensures in
    let count : c.len-count.result ≡ length t.types = c.len-count.ensures ∙ s.types.ok.0 in
    let types = cut_back c.len-count.result t.types c.read_type.new.types.items c.truncate.new.self.items count e.types_grow c.truncate.ensures.items in
    let extents = cut_back c.len-count.result t.extents c.read_type.new.extents.items c.truncate-in-Err.new.self.items (count ∙ sym c.self.invariant.0.extents_are.as_many) e.extents_grow c.truncate-in-Err.ensures.items in
    let h = c.self.invariant in
    rw (types, extents, e.steps_stay)
    (with_entries t c.read_type.new.names h.0 e.looks_up, steps_with_names t.types t.entries c.read_type.new.names t.extents s.steps h.0.types_are h.0.defined h.0.extents_are e.looks_up h.1)

pub returns-in-Ok-clause-grows : goal.returns-in-Ok-clause-grows
returns-in-Ok-clause-grows c =
    let s = c.self.inside in
    let t : TableLists = record { symbols = s.symbols; known = s.known; entries = s.names; types = s.types.items; extents = s.extents.items } in
    let e = c.in-Ok.ensures in
    rw (sym c.self.view_is) (enlarged_grows t c.read_type.new.names c.self.invariant.0 e.looks_up c.read_type.new.types.items c.read_type.new.extents.items e.types_grow)

pub returns-in-Ok-clause-stays : goal.returns-in-Ok-clause-stays
returns-in-Ok-clause-stays c =
    let s = c.self.inside in
    let e = c.in-Ok.ensures in
    let new : TableLists = record { symbols = s.symbols; known = s.known; entries = c.read_type.new.names; types = c.read_type.new.types.items; extents = c.read_type.new.extents.items } in
    nodes_kept new c.in-Ok.found.0 e.are e.within

pub returns-in-Err-clause-grows : goal.returns-in-Err-clause-grows
returns-in-Err-clause-grows c =
    let s = c.self.inside in
    let t : TableLists = record { symbols = s.symbols; known = s.known; entries = s.names; types = s.types.items; extents = s.extents.items } in
    let e = c.in-Err.ensures in
    let count : c.len-count.result ≡ length t.types = c.len-count.ensures ∙ s.types.ok.0 in
    let types = cut_back c.len-count.result t.types c.read_type.new.types.items c.truncate.new.self.items count e.types_grow c.truncate.ensures.items in
    let extents = cut_back c.len-count.result t.extents c.read_type.new.extents.items c.truncate-in-Err.new.self.items (count ∙ sym c.self.invariant.0.extents_are.as_many) e.extents_grow c.truncate-in-Err.ensures.items in
    rw (types, extents, sym c.self.view_is) (enlarged_grows t c.read_type.new.names c.self.invariant.0 e.looks_up t.types t.extents (extends_refl t.types))

pub returns-in-Ok-clause-uses : goal.returns-in-Ok-clause-uses
returns-in-Ok-clause-uses c =
    let s = c.self.inside in
    let t : TableLists = record { symbols = s.symbols; known = s.known; entries = s.names; types = s.types.items; extents = s.extents.items } in
    rw (sym c.self.view_is) (record { entries = c.in-Ok.ensures.names; symbols = sym (append-nil t.symbols) })
