use Rattle.ir_reader_values.proofs.Using.{uses_behind}
use Rattle.std.proofs.Common.{◌≡◌, ℕ, [], map, sym, ap, ◌∙◌, arith, ◌∷◌}
use Rattle.std.proofs.lemmas.Result.{err_from_is_err_and}
use Rattle.text_forms.specs.declared.cursor.Cursor.{Cursor}
use Rattle.text_forms.specs.Reading.{read}
use Rattle.text_forms.specs.Gives.{left}
use Rattle.text_forms.proofs.Many.{shorter}
use Rattle.text_forms.proofs.Viewed.{count_viewed}
use Rattle.ir_types.specs.declared.inst.Operand.{Operand}
use Rattle.ir_types.specs.Offsets.{Definitions}
use Rattle.ir_reader_values.specs.Seen.{definitions, operand_seen}
use Rattle.ir_reader_values.specs.View.{typed_in}
use Rattle.ir_reader_values.specs.Split.{as_two}
use Rattle.ir_reader_memory.specs.Offsets.{next_index, indexes_read}
use Rattle.ir_reader_values.proofs.Widening.{widens_trans}
use Rattle.ir_reader_values.proofs.Pushing.{push_seen, push_steady}
use Rattle.ir_reader_values.proofs.Refusals.{fails}
use Rattle.ir_reader_values.proofs.Split.{first_two, goes_two, fails_two, split_ends}
use Rattle.ir_reader_memory.proofs.Offsets.{next_takes}
use Rattle.ir_reader_memory.proofs.offset.indexes.Goals as goal

pub more-init : goal.more-init
more-init c =
    let before = c.args.scope.now in
    let now = c.next_index.new.scope in
    let grows = c.in_ok-width.ensures.grows in
    let index = c.in_ok-width.index in
    let form = next_index (definitions before) in
    record {
      grows = grows;
      reads = rw (c.in_ok-push.ensures.items, c.new-widths.ensures.items, push_seen operand_seen before now c.args.before c.push-2.new.self index c.in_ok-push-2.ensures.ok grows c.requires)
          (first_two form form [] (map (operand_seen before) c.args.before) c.in_ok-width.width (operand_seen now index) (left c.args.tokens) (left c.in_ok-width.rest) c.in_ok-width.ensures.reads);
      operands = push_steady operand_seen before now c.args.before c.push-2.new.self index c.in_ok-push-2.ensures.ok grows c.requires (λ later e. ap (λ x. x.1) (c.in_ok-width.ensures.stays later e));
      uses = λ start u. rw (push_seen operand_seen before now c.args.before c.push-2.new.self index c.in_ok-push-2.ensures.ok grows c.requires)
          (uses_behind start before now (map (operand_seen before) c.args.before) (operand_seen now index ∷ []) u c.in_ok-width.ensures.uses);
    }

pub more-smaller : goal.more-smaller
more-smaller c =
    let defs = definitions c.more.scope in
    let lt = shorter (next_index defs) (left c.more.rest) (typed_in c.next_index-in-more.new.scope (c.in_ok-width-2.width, c.in_ok-width-2.index), left c.in_ok-width-2.after) (next_takes defs) c.in_ok-width-2.ensures.reads in
    omega (arith, lt, count_viewed c.more.rest.text.now c.more.rest.rest.now, count_viewed c.in_ok-width-2.after.text.now c.in_ok-width-2.after.rest.now)

pub more-preserved : goal.more-preserved
more-preserved c =
    let before = c.more.scope in
    let now = c.next_index-in-more.new.scope in
    let grows = c.in_ok-width-2.ensures.grows in
    let index = c.in_ok-width-2.index in
    let defs = definitions c.args.scope.now in
    let same : read (next_index defs) (left c.more.rest) ≡ read (next_index (definitions before)) (left c.more.rest) = ap (λ (d : Definitions). read (next_index d) (left c.more.rest)) (sym c.more.invariant.grows.definitions) in
    record {
      grows = widens_trans c.args.scope.now before now c.more.invariant.grows grows;
      reads = rw (c.in_ok-push-3.ensures.items, push_seen operand_seen before now c.more.operands c.push-in-more-2.new.self index c.in_ok-push-4.ensures.ok grows c.more.invariant.operands)
          (goes_two (next_index defs) c.more.widths.items (map (operand_seen before) c.more.operands) c.in_ok-width-2.width (operand_seen now index) (left c.more.rest) (left c.in_ok-width-2.after)
          (indexes_read defs (map (operand_seen c.args.scope.now) c.args.before) (left c.args.tokens)) (next_takes defs) (sym (c.another.ensures defs) ∙ c.more-test.true) (same ∙ c.in_ok-width-2.ensures.reads) c.more.invariant.reads);
      operands = push_steady operand_seen before now c.more.operands c.push-in-more-2.new.self index c.in_ok-push-4.ensures.ok grows c.more.invariant.operands (λ later e. ap (λ x. x.1) (c.in_ok-width-2.ensures.stays later e));
      uses = λ start u. rw (push_seen operand_seen before now c.more.operands c.push-in-more-2.new.self index c.in_ok-push-4.ensures.ok grows c.more.invariant.operands)
          (uses_behind start before now (map (operand_seen before) c.more.operands) (operand_seen now index ∷ []) (c.more.invariant.uses start u) c.in_ok-width-2.ensures.uses);
    }

pub returns-in_err-width-2-clause-reads : goal.returns-in_err-width-2-clause-reads
returns-in_err-width-2-clause-reads c =
    let before = c.more.scope in
    let now = c.next_index-in-more.new.scope in
    let defs = definitions c.args.scope.now in
    let p = err_from_is_err_and c.from_residual-in_err-width-2.result c.from_residual-in_err-width-2.ensures.1 in
    let same : read (next_index defs) (left c.more.rest) ≡ read (next_index (definitions before)) (left c.more.rest) = ap (λ (d : Definitions). read (next_index d) (left c.more.rest)) (sym c.more.invariant.grows.definitions) in
    rw (p.1, p.2) (fails (λ (x : (ℕ × Operand) × Cursor). (typed_in now x.0, left x.1)) c.in_err-width-2.field-0.0 _ _
    (λ e. fails_two (next_index defs) c.more.widths.items (map (operand_seen before) c.more.operands) (left c.more.rest) (indexes_read defs (map (operand_seen c.args.scope.now) c.args.before) (left c.args.tokens)) (next_takes defs) (sym (c.another.ensures defs) ∙ c.more-test.true) (same ∙ e) c.more.invariant.reads)
    c.in_err-width-2.ensures.reads)

pub returns-clause-reads : goal.returns-clause-reads
returns-clause-reads c =
    let defs = definitions c.args.scope.now in
    split_ends (next_index defs) as_two c.more.widths.items (map (operand_seen c.more.scope) c.more.operands) (left c.more.rest) (indexes_read defs (map (operand_seen c.args.scope.now) c.args.before) (left c.args.tokens)) (sym (c.another.ensures defs) ∙ c.more-test.false) c.more.invariant.reads
