use Rattle.std.proofs.Common.{sym, ◌∙◌, arith}
use Rattle.std.proofs.lemmas.Result.{err_from_is_err_and}
use Rattle.text_forms.specs.declared.cursor.Cursor.{Cursor}
use Rattle.text_forms.specs.Gives.{left}
use Rattle.text_forms.proofs.Viewed.{count_viewed}
use Rattle.ir_reader_types.proofs.Same.{gives_failed}
use Rattle.ir_types.specs.declared.opcode.Extra.{Extra}
use Rattle.ir_reader_items.proofs.Loops.{one_more, one_fails, none_left, none_yet, not_read, one_too_many, extra_shorter}
use Rattle.ir_reader_items.proofs.extras.keep_extras.Goals as goal

pub more-init : goal.more-init
more-init c = rw c.nothing-seen.ensures (none_yet c.args.texts.now (left c.args.tokens))

pub returns-in_err-extra : goal.returns-in_err-extra
returns-in_err-extra c =
    let p = err_from_is_err_and c.from_residual.result c.from_residual.ensures.1 in
    let ts = left c.args.tokens in
    let us = left c.more.rest in
    let now = c.keep_extra.new.texts in
    rw (p.1, p.2) (gives_failed (λ (x : Extra × Cursor). ((x.0, now), left x.1)) (λ (rest : Cursor). (now, left rest)) c.in_err-extra.field-0.0 _ _
    (λ e. one_fails c.args.texts.now ts us c.more.seen c.more.texts c.more.invariant (sym c.begins_extra.ensures ∙ c.more-test.true) (not_read c.more.seen c.more.texts us e)) c.in_err-extra.ensures)

pub returns-in_default : goal.returns-in_default
returns-in_default c =
    let ts = left c.args.tokens in
    let us = left c.more.rest in
    let full = one_too_many c.more.seen c.more.texts c.keep_extra.new.texts c.in_ok-extra.extra us (left c.in_ok-extra.after) c.in_ok-extra.ensures (sym c.with.ensures ∙ c.in_default.is) in
    rw c.refusal.ensures (one_fails c.args.texts.now ts us c.more.seen c.more.texts c.more.invariant (sym c.begins_extra.ensures ∙ c.more-test.true) full)

pub more-smaller : goal.more-smaller
more-smaller c =
    let lt = extra_shorter c.more.texts c.keep_extra.new.texts c.in_ok-extra.extra (left c.more.rest) (left c.in_ok-extra.after) c.in_ok-extra.ensures in
    omega (arith, lt, count_viewed c.more.rest.text.now c.more.rest.rest.now, count_viewed c.in_ok-extra.after.text.now c.in_ok-extra.after.rest.now)

pub more-preserved : goal.more-preserved
more-preserved c =
    one_more c.args.texts.now (left c.args.tokens) (left c.more.rest) (left c.in_ok-extra.after) c.more.seen c.in-Some.now c.more.texts c.keep_extra.new.texts c.in_ok-extra.extra c.more.invariant
    (sym c.begins_extra.ensures ∙ c.more-test.true) c.in_ok-extra.ensures (sym c.with.ensures ∙ c.in-Some.is)

pub returns : goal.returns
returns c = none_left c.args.texts.now (left c.args.tokens) (left c.more.rest) c.more.seen c.more.texts c.more.invariant (sym c.begins_extra.ensures ∙ c.more-test.false)
