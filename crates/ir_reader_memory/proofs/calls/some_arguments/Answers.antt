use Rattle.ir_reader_values.proofs.Using.{uses_behind}
use Rattle.std.proofs.Common.{◌≡◌, map, refl, sym, ap, ◌∙◌, arith, [], ◌∷◌}
use Rattle.std.proofs.lemmas.Result.{err_from_is_err_and}
use Rattle.text_forms.specs.declared.cursor.Cursor.{Cursor}
use Rattle.text_forms.specs.declared.TokenKind.TheVariants.{Comma}
use Rattle.text_forms.specs.Reading.{read}
use Rattle.text_forms.specs.Gives.{left}
use Rattle.text_forms.proofs.Many.{shorter}
use Rattle.text_forms.proofs.Viewed.{count_viewed}
use Rattle.ir_types.specs.declared.call.Actual.{Actual}
use Rattle.ir_types.specs.declared.inst.Operand.{Operand}
use Rattle.ir_types.specs.Offsets.{Definitions}
use Rattle.text_forms.specs.Combined.{marked}
use Rattle.ir_types.specs.InstForms.{argument}
use Rattle.ir_reader_values.specs.Seen.{definitions, operand_seen}
use Rattle.ir_reader_memory.specs.Calls.{actual_in, some_arguments_read}
use Rattle.ir_reader_values.proofs.Widening.{widens_trans}
use Rattle.ir_reader_values.proofs.Pushing.{push_seen, push_steady}
use Rattle.ir_reader_values.proofs.Refusals.{fails}
use Rattle.ir_reader_values.specs.Split.{as_two}
use Rattle.ir_reader_values.proofs.Split.{goes_two, fails_two, split_ends}
use Rattle.ir_reader_memory.proofs.calls.some_arguments.Goals as goal

pub more-smaller : goal.more-smaller
more-smaller c =
    let form = marked Comma (argument (definitions c.more.scope)) in
    let lt = shorter form (left c.more.rest) (actual_in c.comma_argument.new.scope (c.in_ok-actual-2.actual, c.in_ok-actual-2.value), left c.in_ok-actual-2.after) refl c.in_ok-actual-2.ensures.reads in
    omega (arith, lt, count_viewed c.more.rest.text.now c.more.rest.rest.now, count_viewed c.in_ok-actual-2.after.text.now c.in_ok-actual-2.after.rest.now)

pub more-preserved : goal.more-preserved
more-preserved c =
    let before = c.more.scope in
    let now = c.comma_argument.new.scope in
    let grows = c.in_ok-actual-2.ensures.grows in
    let value = c.in_ok-actual-2.value in
    let defs = definitions c.args.scope.now in
    let form = marked Comma (argument defs) in
    let same : read (marked Comma (argument defs)) (left c.more.rest) ≡ read (marked Comma (argument (definitions before))) (left c.more.rest) = ap (λ (d : Definitions). read (marked Comma (argument d)) (left c.more.rest)) (sym c.more.invariant.grows.definitions) in
    record {
      grows = widens_trans c.args.scope.now before now c.more.invariant.grows grows;
      reads = rw (c.in_ok-push-2.ensures.items, push_seen operand_seen before now c.more.values c.push-in-more-2.new.self value c.in_ok-push-3.ensures.ok grows c.more.invariant.values)
          (goes_two form c.more.actuals.items (map (operand_seen before) c.more.values) c.in_ok-actual-2.actual (operand_seen now value) (left c.more.rest) (left c.in_ok-actual-2.after)
          (some_arguments_read defs (left c.args.tokens)) refl (sym (c.another.ensures defs) ∙ c.more-test.true) (same ∙ c.in_ok-actual-2.ensures.reads) c.more.invariant.reads);
      values = push_steady operand_seen before now c.more.values c.push-in-more-2.new.self value c.in_ok-push-3.ensures.ok grows c.more.invariant.values (λ later e. ap (λ x. x.1) (c.in_ok-actual-2.ensures.stays later e));
      uses = rw (push_seen operand_seen before now c.more.values c.push-in-more-2.new.self value c.in_ok-push-3.ensures.ok grows c.more.invariant.values)
          (uses_behind c.args.scope.now before now (map (operand_seen before) c.more.values) (operand_seen now value ∷ []) c.more.invariant.uses c.in_ok-actual-2.ensures.uses);
    }

pub returns-in_err-actual-2-clause-reads : goal.returns-in_err-actual-2-clause-reads
returns-in_err-actual-2-clause-reads c =
    let before = c.more.scope in
    let now = c.comma_argument.new.scope in
    let defs = definitions c.args.scope.now in
    let form = marked Comma (argument defs) in
    let p = err_from_is_err_and c.from_residual-in_err-actual-2.result c.from_residual-in_err-actual-2.ensures.1 in
    let same : read (marked Comma (argument defs)) (left c.more.rest) ≡ read (marked Comma (argument (definitions before))) (left c.more.rest) = ap (λ (d : Definitions). read (marked Comma (argument d)) (left c.more.rest)) (sym c.more.invariant.grows.definitions) in
    rw (p.1, p.2) (fails (λ (x : (Actual × Operand) × Cursor). (actual_in now x.0, left x.1)) c.in_err-actual-2.field-0.0 _ _
    (λ e. fails_two form c.more.actuals.items (map (operand_seen before) c.more.values) (left c.more.rest) (some_arguments_read defs (left c.args.tokens)) refl (sym (c.another.ensures defs) ∙ c.more-test.true) (same ∙ e) c.more.invariant.reads)
    c.in_err-actual-2.ensures.reads)

pub returns-clause-reads : goal.returns-clause-reads
returns-clause-reads c =
    let defs = definitions c.args.scope.now in
    split_ends (marked Comma (argument defs)) as_two c.more.actuals.items (map (operand_seen c.more.scope) c.more.values) (left c.more.rest) (some_arguments_read defs (left c.args.tokens)) (sym (c.another.ensures defs) ∙ c.more-test.false) c.more.invariant.reads
