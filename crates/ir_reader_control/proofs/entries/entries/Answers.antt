use Rattle.ir_reader_values.proofs.Using.{uses_behind}
use Rattle.std.proofs.Common.{◌≡◌, map, refl, sym, ap, ◌∙◌, arith, [], ◌∷◌}
use Rattle.text_forms.specs.declared.TokenKind.TheVariants.{Comma}
use Rattle.text_forms.specs.Reading.{read}
use Rattle.text_forms.specs.Walk.{completed}
use Rattle.text_forms.specs.Gives.{left}
use Rattle.text_forms.proofs.Walks.{shorter_completed}
use Rattle.text_forms.proofs.Viewed.{count_viewed}
use Rattle.ir_types.specs.Offsets.{Definitions}
use Rattle.text_forms.specs.Combined.{commas, marked}
use Rattle.ir_types.specs.InstForms.{entry_of_phi}
use Rattle.ir_reader_values.specs.Seen.{definitions, name_seen, operand_seen}
use Rattle.ir_reader_values.specs.Split.{split_each}
use Rattle.ir_reader_control.specs.Labelled.{labels_in, entry_at, entry_in}
use Rattle.ir_reader_values.proofs.Widening.{widens_trans}
use Rattle.ir_reader_values.proofs.Pushing.{push_seen, push_steady}
use Rattle.ir_reader_values.proofs.Split.{goes_split}
use Rattle.ir_reader_control.proofs.entries.entries.Goals as goal

pub more-smaller : goal.more-smaller
more-smaller c =
    let lt = shorter_completed (marked Comma entry_of_phi) (entry_at (definitions c.more.scope) c.args.ty) (left c.more.rest) (entry_in c.comma_entry.new.scope (c.in_ok-operand-2.operand, c.in_ok-operand-2.label), left c.in_ok-operand-2.after) refl c.in_ok-operand-2.ensures.reads in
    omega (arith, lt, count_viewed c.more.rest.text.now c.more.rest.rest.now, count_viewed c.in_ok-operand-2.after.text.now c.in_ok-operand-2.after.rest.now)

pub more-preserved : goal.more-preserved
more-preserved c =
    let before = c.more.scope in
    let now = c.comma_entry.new.scope in
    let grows = c.in_ok-operand-2.ensures.grows in
    let stays = c.in_ok-operand-2.ensures.stays in
    let operand = c.in_ok-operand-2.operand in
    let label = c.in_ok-operand-2.label in
    let defs = definitions c.args.scope.now in
    let same : completed (entry_at defs c.args.ty) (read (marked Comma entry_of_phi) (left c.more.rest)) ≡ completed (entry_at (definitions before) c.args.ty) (read (marked Comma entry_of_phi) (left c.more.rest)) = ap (λ (d : Definitions). completed (entry_at d c.args.ty) (read (marked Comma entry_of_phi) (left c.more.rest))) (sym c.more.invariant.grows.definitions) in
    record {
      grows = widens_trans c.args.scope.now before now c.more.invariant.grows grows;
      reads = rw (push_seen operand_seen before now c.more.operands c.push.new.self operand c.in_ok-push.ensures.ok grows c.more.invariant.operands, push_seen name_seen before now c.more.labels c.push-in-more.new.self label c.in_ok-push-2.ensures.ok grows c.more.invariant.labels)
          (goes_split (marked Comma entry_of_phi) (entry_at defs c.args.ty) (map (operand_seen before) c.more.operands) (labels_in before c.more.labels) (operand_seen now operand) (name_seen now label) (left c.more.rest) (left c.in_ok-operand-2.after)
          (completed (split_each (entry_at defs c.args.ty)) (read (commas entry_of_phi) (left c.args.tokens))) refl (sym c.another.ensures ∙ c.more-test.true) (same ∙ c.in_ok-operand-2.ensures.reads) c.more.invariant.reads);
      operands = push_steady operand_seen before now c.more.operands c.push.new.self operand c.in_ok-push.ensures.ok grows c.more.invariant.operands (λ later e. ap (λ x. x.0) (stays later e));
      labels = push_steady name_seen before now c.more.labels c.push-in-more.new.self label c.in_ok-push-2.ensures.ok grows c.more.invariant.labels (λ later e. ap (λ x. x.1) (stays later e));
      uses = rw (push_seen operand_seen before now c.more.operands c.push.new.self operand c.in_ok-push.ensures.ok grows c.more.invariant.operands)
          (uses_behind c.args.scope.now before now (map (operand_seen before) c.more.operands) (operand_seen now operand ∷ []) c.more.invariant.uses c.in_ok-operand-2.ensures.uses);
    }
