use Rattle.std.proofs.Common.{map, sym, ap, ◌∙◌, arith}
use Rattle.ir_types.specs.Offsets.{path_offset}
use Rattle.ir_sizes.specs.Definitions.{nodes_in}
use Rattle.ir_sizes.specs.Stepping.{index_pair}
use Rattle.ir_sizes.proofs.Paths.{and_more, path_refused, no_bytes_more, path_step, one_more, no_more, nothing_more}
use Rattle.ir_sizes.proofs.offsets.offset_into.Goals as goal

pub loop-index-init : goal.loop-index-init
loop-index-init c = λ names defs p agree h. (h, no_bytes_more defs (nodes_in c.args.types.now names c.args.id) (map index_pair c.args.indexes.now))

pub returns-in_err-step : goal.returns-in_err-step
returns-in_err-step c = λ names defs p agree h.
    let before = c.loop-index.invariant names defs p agree h in
    let step = c.in_err-step.ensures names defs p agree before.0 in
    let nodes = nodes_in c.args.types.now names c.loop-index.place in
    let next = one_more c.args.indexes.now c.loop-index.index-index _ c.loop-index-test.true in
    rw c.from_residual.ensures
    (sym
    (before.1
    ∙ ap (λ is. and_more c.loop-index.bytes (path_offset defs nodes is)) next
    ∙ ap (and_more c.loop-index.bytes) (path_refused defs nodes _ _ step.is)))

pub loop-index-preserved : goal.loop-index-preserved
loop-index-preserved c = λ names defs p agree h.
    let before = c.loop-index.invariant names defs p agree h in
    let step = c.in_ok-step.ensures names defs p agree before.0 in
    let nodes = nodes_in c.args.types.now names c.loop-index.place in
    let next = one_more c.args.indexes.now c.loop-index.index-index _ c.loop-index-test.true in (
      step.small,
      before.1
          ∙ ap (λ is. and_more c.loop-index.bytes (path_offset defs nodes is)) next
          ∙ path_step defs c.loop-index.bytes nodes _ _ c.in_ok-step.step.bytes (nodes_in c.args.types.now names c.in_ok-step.step.place) step.is,
    )

pub returns : goal.returns
returns c = λ names defs p agree h.
    let before = c.loop-index.invariant names defs p agree h in
    let nodes = nodes_in c.args.types.now names c.loop-index.place in
    nothing_more c.loop-index.bytes (omega (arith, c.loop-index.auto.bytes-fits))
    ∙ ap (λ is. and_more c.loop-index.bytes (path_offset defs nodes is)) (sym (no_more c.args.indexes.now c.loop-index.index-index c.loop-index-test.false))
    ∙ sym before.1
