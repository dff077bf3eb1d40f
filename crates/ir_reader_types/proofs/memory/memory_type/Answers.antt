use Rattle.std.proofs.Common.{◌∙◌, sym, arith}
use Rattle.ir_types.proofs.NameAt.{extends_trans}
use Rattle.ir_reader_types.specs.TypeTable.{names_of}
use Rattle.ir_reader_types.proofs.NodeLists.{nodes_stay}
use Rattle.ir_reader_types.proofs.LookUps.{looks_up_further}
use Rattle.ir_reader_types.proofs.Looking.{looked_whole}
use Rattle.ir_reader_types.proofs.memory.memory_type.Goals as goal
use Rattle.ir_reader_types.proofs.memory.memory_type.Goals.{in-None+in_ok-begin-in-None, in-Some+in-Some-innermost+in_ok-now-in-Some-innermost}

pub returns-in-None-innermost-clause-stays : goal.returns-in-None-innermost-clause-stays
returns-in-None-innermost-clause-stays c = λ later others n t.
    let h = rw c.in-Some.is at c.types.invariant.holds in
    nodes_stay (names_of c.types.names) later c.types.types.items others c.in-Some.id h.types_are h.done_before n t

pub types-preserved : goal.types-preserved
types-preserved c =
    let before = c.types.invariant in
    elim c.match-done.branch [
      | in-None+in_ok-begin-in-None w ↦
          let e = w.in_ok-begin-in-None.ensures in
          rw (w.types-is, w.names-is, w.stack-is, w.now-is) (record {
            types_grow = extends_trans c.args.types.now.items c.types.types.items w.begin.new.types.items before.types_grow e.types_grow;
            names_grow = extends_trans c.args.names.now c.types.names w.begin.new.names before.names_grow e.names_grow;
            looks_up = looks_up_further c.args.names.now c.types.names w.begin.new.names before.looks_up e.looks_up;
            holds = e.holds;
            looked = let k = rw w.in-None.is at before.looked in e.names c.args.names.now k;
            shorter = omega (arith, e.shorter, before.shorter);
            goes = λ d le. let g = rw w.in-None.is at (before.goes d le) in sym (e.goes d (omega (arith, before.shorter, le))) ∙ g;
          })
      | in-Some+in-Some-innermost+in_ok-now-in-Some-innermost w ↦
          let e = w.in_ok-now-in-Some-innermost.ensures in
          let h = rw w.in-Some.is at before.holds in
          rw (w.types-is, w.names-is, w.stack-is, w.now-is) (record {
            types_grow = extends_trans c.args.types.now.items c.types.types.items w.go_on.new.types.items before.types_grow e.types_grow;
            names_grow = before.names_grow;
            looks_up = before.looks_up;
            holds = e.holds (names_of c.types.names) h;
            looked = let k = rw w.in-Some.is at before.looked in e.names c.args.names.now c.types.names h k;
            shorter = omega (arith, e.shorter, before.shorter);
            goes = λ d le. let g = rw w.in-Some.is at (before.goes d le) in sym (e.goes d (names_of c.types.names) h) ∙ g;
          })
    ]

pub returns-in-None-innermost-clause-names : goal.returns-in-None-innermost-clause-names
returns-in-None-innermost-clause-names c = let k = rw c.in-Some.is at c.types.invariant.looked in looked_whole c.args.names.now c.types.names c.types.types.items c.types.stack c.in-Some.id (sym c.in-None-innermost.ensures) k

pub returns-in_err-begin-in-None-clause-looks_up : goal.returns-in_err-begin-in-None-clause-looks_up
returns-in_err-begin-in-None-clause-looks_up c = looks_up_further c.args.names.now c.types.names c.begin.new.names c.types.invariant.looks_up c.in_err-begin-in-None.ensures.looks_up
