use Rattle.std.proofs.Common.{sym, ap, ◌∙◌, arith}
use Rattle.std.proofs.lemmas.Result.{err_from_is_err_and}
use Rattle.text_forms.specs.Reading.{read}
use Rattle.text_forms.specs.Walk.{walk, completed}
use Rattle.text_forms.specs.Gives.{left}
use Rattle.text_forms.specs.declared.cursor.Cursor.{Cursor}
use Rattle.text_forms.proofs.Walks.{goes_completed, shorter_completed, walk_fails, walk_ends}
use Rattle.text_forms.proofs.Viewed.{count_viewed}
use Rattle.ir_types.specs.declared.module.Block.{Block}
use Rattle.ir_types.specs.Offsets.{Definitions}
use Rattle.text_forms.specs.Combined.{some}
use Rattle.ir_types.specs.FunctionForms.{block}
use Rattle.ir_types.specs.Numbered.{numbered_block}
use Rattle.ir_types.proofs.Decides.{block_takes}
use Rattle.ir_reader_values.specs.Seen.{definitions}
use Rattle.ir_reader_values.proofs.Widening.{widens_trans}
use Rattle.ir_reader_values.proofs.Pushing.{push_seen, push_steady}
use Rattle.ir_reader_types.proofs.Same.{gives_failed}
use Rattle.ir_reader_functions.specs.Blocks.{block_seen}
use Rattle.ir_reader_functions.specs.Functions.{blocks_in}
use Rattle.ir_reader_functions.proofs.Using.{uses_block}
use Rattle.ir_reader_functions.proofs.function.blocks.Goals as goal

pub more-smaller : goal.more-smaller
more-smaller c =
    let defs = definitions c.more.scope in
    let lt = shorter_completed (block defs) (numbered_block c.more.numbering.next) (left c.more.rest) ((block_seen c.block-in-more.new.scope c.in_ok-next.next, c.block-in-more.new.numbering.next), left c.in_ok-next.after) (block_takes defs) c.in_ok-next.ensures.reads in
    omega (arith, lt, count_viewed c.more.rest.text.now c.more.rest.rest.now, count_viewed c.in_ok-next.after.text.now c.in_ok-next.after.rest.now)

pub more-preserved : goal.more-preserved
more-preserved c =
    let before = c.more.scope in
    let now = c.block-in-more.new.scope in
    let grows = c.in_ok-next.ensures.grows in
    let defs = definitions c.args.scope.now in
    let next = c.in_ok-next.next in
    let body = c.more.body.items in
    let same = ap (λ (d : Definitions). completed (numbered_block c.more.numbering.next) (read (block d) (left c.more.rest))) (sym c.more.invariant.grows.definitions) ∙ c.in_ok-next.ensures.reads in
    let seen = push_seen block_seen before now body c.push-in-more.new.self.items next c.in_ok-push-2.ensures.items grows c.more.invariant.stays in
    record {
      grows = widens_trans c.args.scope.now before now c.more.invariant.grows grows;
      reads = rw seen
          (goes_completed (block defs) numbered_block (blocks_in before body) c.more.numbering.next c.block-in-more.new.numbering.next (block_seen now next) (left c.more.rest) (left c.in_ok-next.after)
          (completed (walk numbered_block c.args.numbering.now.next) (read (some (block defs)) (left c.args.tokens))) (block_takes defs) (sym (c.begins_block.ensures defs) ∙ c.more-test.true) same c.more.invariant.reads);
      uses = rw seen (uses_block c.args.scope.now.tables before.tables now.tables (blocks_in before body) (block_seen now next) c.more.invariant.uses c.in_ok-next.ensures.uses);
      stays = push_steady block_seen before now body c.push-in-more.new.self.items next c.in_ok-push-2.ensures.items grows c.more.invariant.stays c.in_ok-next.ensures.stays;
    }

pub returns-in_err-next-clause-reads : goal.returns-in_err-next-clause-reads
returns-in_err-next-clause-reads c =
    let p = err_from_is_err_and c.from_residual-in_err-next.result c.from_residual-in_err-next.ensures.1 in
    let before = c.more.scope in
    let now = c.block-in-more.new in
    let defs = definitions c.args.scope.now in
    let same = ap (λ (d : Definitions). completed (numbered_block c.more.numbering.next) (read (block d) (left c.more.rest))) (sym c.more.invariant.grows.definitions) in
    rw (p.1, p.2) (gives_failed (λ (x : Block × Cursor). ((block_seen now.scope x.0, now.numbering.next), left x.1)) (λ x. x) c.in_err-next.field-0.0 _
    (completed (walk numbered_block c.args.numbering.now.next) (read (some (block defs)) (left c.args.tokens)))
    (λ e. walk_fails (block defs) numbered_block (blocks_in before c.more.body.items) c.more.numbering.next (left c.more.rest) _ (block_takes defs) (sym (c.begins_block.ensures defs) ∙ c.more-test.true) (same ∙ e) c.more.invariant.reads)
    c.in_err-next.ensures.reads)

pub returns-clause-reads : goal.returns-clause-reads
returns-clause-reads c =
    let defs = definitions c.args.scope.now in
    walk_ends (block defs) numbered_block (blocks_in c.more.scope c.more.body.items) c.more.numbering.next (left c.more.rest) (completed (walk numbered_block c.args.numbering.now.next) (read (some (block defs)) (left c.args.tokens)))
    (sym (c.begins_block.ensures defs) ∙ c.more-test.false) c.more.invariant.reads
