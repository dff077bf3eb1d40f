use Rattle.std.proofs.Common.{ℕ, ◌+◌, ◌%◌, ◌^◌, List, map, Some, sym, ap, ◌∙◌}
use Rattle.std.proofs.lemmas.List.Elements.{All-rest}
use Rattle.ir_types.specs.Offsets.{offset_of}
use Rattle.ir_sizes.specs.declared.offsets.Index.{Index}
use Rattle.ir_sizes.specs.Definitions.{nodes_in}
use Rattle.ir_sizes.specs.Stepping.{index_pair, IsIndex}
use Rattle.ir_sizes.proofs.Stepped.{small_agrees, extent_steppable}
use Rattle.ir_sizes.proofs.Paths.{offset_unsized, offset_found, offset_refused}
use Rattle.ir_sizes.proofs.offsets.offset.Goals as goal

pub returns-in_err-size : goal.returns-in_err-size
returns-in_err-size c = λ names defs p agree.
    let nodes = nodes_in c.args.types.now names c.args.id in
    let agrees = small_agrees c.args.types.now names c.args.extents.now defs p.types_are p.extents_are agree c.args.id in
    rw c.from_residual-in_err-size.ensures
    (sym
    (ap (λ (is : List Index). offset_of defs nodes (map index_pair is)) c.in_ok-first.ensures.cases.0
    ∙ offset_unsized defs nodes (index_pair c.in_ok-first.first.now) (map index_pair c.in_ok-first.more.now) (sym agrees ∙ sym c.in_err-size.ensures)))

pub offset_into-requires : goal.offset_into-requires
offset_into-requires c = All-rest IsIndex c.in_ok-first.first.now c.in_ok-first.more.now c.args.indexes.now c.in_ok-first.ensures.cases.0 c.requires

pub returns-in_err-behind : goal.returns-in_err-behind
returns-in_err-behind c = λ names defs p agree.
    let nodes = nodes_in c.args.types.now names c.args.id in
    let size = sym (small_agrees c.args.types.now names c.args.extents.now defs p.types_are p.extents_are agree c.args.id) ∙ sym c.in_ok-size.ensures in
    let steppable = extent_steppable c.args.types.now names c.args.extents.now defs p.types_are p.extents_are agree _ c.in_ok-size.size (sym c.in_ok-size.ensures) in
    let behind = c.in_err-behind.ensures names defs p agree steppable in
    rw c.from_residual-in_err-behind.ensures
    (sym
    (ap (λ (is : List Index). offset_of defs nodes (map index_pair is)) c.in_ok-first.ensures.cases.0
    ∙ offset_refused defs nodes (index_pair c.in_ok-first.first.now) (map index_pair c.in_ok-first.more.now) c.in_ok-size.size size (sym behind)))

pub returns : goal.returns
returns c = λ names defs p agree.
    let nodes = nodes_in c.args.types.now names c.args.id in
    let size = sym (small_agrees c.args.types.now names c.args.extents.now defs p.types_are p.extents_are agree c.args.id) ∙ sym c.in_ok-size.ensures in
    let steppable = extent_steppable c.args.types.now names c.args.extents.now defs p.types_are p.extents_are agree _ c.in_ok-size.size (sym c.in_ok-size.ensures) in
    let behind = c.in_ok-behind.ensures names defs p agree steppable in
    sym
    (ap (λ (is : List Index). offset_of defs nodes (map index_pair is)) c.in_ok-first.ensures.cases.0
    ∙ offset_found defs nodes (index_pair c.in_ok-first.first.now) (map index_pair c.in_ok-first.more.now) c.in_ok-size.size c.in_ok-behind.behind size (sym behind)
    ∙ ap (λ (n : ℕ). Some ((n + c.in_ok-behind.behind) % 2 ^ 64)) (sym c.scaled.ensures))
