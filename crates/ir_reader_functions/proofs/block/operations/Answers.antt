use Rattle.std.proofs.Common.{sym, ap, ◌∙◌, arith}
use Rattle.std.proofs.lemmas.Result.{err_from_is_err_and}
use Rattle.text_forms.specs.Form.{many}
use Rattle.text_forms.specs.Reading.{read}
use Rattle.text_forms.specs.Walk.{walk, completed}
use Rattle.text_forms.specs.Gives.{left}
use Rattle.text_forms.specs.declared.cursor.Cursor.{Cursor}
use Rattle.text_forms.proofs.Walks.{goes_completed, shorter_completed, walk_fails, walk_ends}
use Rattle.text_forms.proofs.Viewed.{count_viewed}
use Rattle.ir_types.specs.declared.inst.Inst.{Inst}
use Rattle.ir_types.specs.Offsets.{Definitions}
use Rattle.ir_types.specs.InstForms.{operation}
use Rattle.ir_types.specs.FunctionForms.{line}
use Rattle.ir_types.specs.Numbered.{numbered_inst}
use Rattle.ir_types.proofs.Decides.{line_takes}
use Rattle.ir_reader_values.specs.Seen.{definitions, inst_seen}
use Rattle.ir_reader_values.proofs.Widening.{widens_trans}
use Rattle.ir_reader_values.proofs.Pushing.{push_seen, push_steady}
use Rattle.ir_reader_types.proofs.Same.{gives_failed}
use Rattle.ir_reader_functions.specs.Blocks.{insts_in}
use Rattle.ir_reader_functions.proofs.Using.{uses_inst}
use Rattle.ir_reader_functions.proofs.block.operations.Goals as goal

pub more-smaller : goal.more-smaller
more-smaller c =
    let defs = definitions c.more.scope in
    let lt = shorter_completed (line (operation defs)) (numbered_inst c.more.numbering.next) (left c.more.rest) ((inst_seen c.line.new.scope c.in_ok-inst.inst, c.line.new.numbering.next), left c.in_ok-inst.after) (line_takes defs) c.in_ok-inst.ensures.reads in
    omega (arith, lt, count_viewed c.more.rest.text.now c.more.rest.rest.now, count_viewed c.in_ok-inst.after.text.now c.in_ok-inst.after.rest.now)

pub more-preserved : goal.more-preserved
more-preserved c =
    let before = c.more.scope in
    let now = c.line.new.scope in
    let grows = c.in_ok-inst.ensures.grows in
    let defs = definitions c.args.scope.now in
    let form = line (operation defs) in
    let inst = c.in_ok-inst.inst in
    let insts = c.more.insts.items in
    let same = ap (λ (d : Definitions). completed (numbered_inst c.more.numbering.next) (read (line (operation d)) (left c.more.rest))) (sym c.more.invariant.grows.definitions) ∙ c.in_ok-inst.ensures.reads in
    let seen = push_seen inst_seen before now insts c.push.new.self.items inst c.in_ok-push.ensures.items grows c.more.invariant.stays in
    record {
      grows = widens_trans c.args.scope.now before now c.more.invariant.grows grows;
      reads = rw seen
          (goes_completed form numbered_inst (insts_in before insts) c.more.numbering.next c.line.new.numbering.next (inst_seen now inst) (left c.more.rest) (left c.in_ok-inst.after)
          (completed (walk numbered_inst c.args.numbering.now.next) (read (many form) (left c.args.tokens))) (line_takes defs) (sym (c.begins_line.ensures defs) ∙ c.more-test.true) same c.more.invariant.reads);
      uses = rw seen (uses_inst c.args.scope.now.tables before.tables now.tables (insts_in before insts) (inst_seen now inst) c.more.invariant.uses c.in_ok-inst.ensures.uses);
      stays = push_steady inst_seen before now insts c.push.new.self.items inst c.in_ok-push.ensures.items grows c.more.invariant.stays c.in_ok-inst.ensures.stays;
    }

pub returns-in_err-inst-clause-reads : goal.returns-in_err-inst-clause-reads
returns-in_err-inst-clause-reads c =
    let p = err_from_is_err_and c.from_residual.result c.from_residual.ensures.1 in
    let before = c.more.scope in
    let now = c.line.new in
    let defs = definitions c.args.scope.now in
    let same = ap (λ (d : Definitions). completed (numbered_inst c.more.numbering.next) (read (line (operation d)) (left c.more.rest))) (sym c.more.invariant.grows.definitions) in
    rw (p.1, p.2) (gives_failed (λ (x : Inst × Cursor). ((inst_seen now.scope x.0, now.numbering.next), left x.1)) (λ x. x) c.in_err-inst.field-0.0 _
    (completed (walk numbered_inst c.args.numbering.now.next) (read (many (line (operation defs))) (left c.args.tokens)))
    (λ e. walk_fails (line (operation defs)) numbered_inst (insts_in before c.more.insts.items) c.more.numbering.next (left c.more.rest) _ (line_takes defs) (sym (c.begins_line.ensures defs) ∙ c.more-test.true) (same ∙ e) c.more.invariant.reads)
    c.in_err-inst.ensures.reads)

pub returns-clause-reads : goal.returns-clause-reads
returns-clause-reads c =
    let defs = definitions c.args.scope.now in
    walk_ends (line (operation defs)) numbered_inst (insts_in c.more.scope c.more.insts.items) c.more.numbering.next (left c.more.rest) (completed (walk numbered_inst c.args.numbering.now.next) (read (many (line (operation defs))) (left c.args.tokens)))
    (sym (c.begins_line.ensures defs) ∙ c.more-test.false) c.more.invariant.reads
