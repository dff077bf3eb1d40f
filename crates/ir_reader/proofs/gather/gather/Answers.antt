use Rattle.std.proofs.Common.{length, sym, ◌∙◌, arith}
use Rattle.std.proofs.lemmas.Result.{err_from_is_err_and}
use Rattle.text_forms.specs.Gives.{left}
use Rattle.text_forms.proofs.Viewed.{count_viewed}
use Rattle.ir_reader_items.specs.Parts.{item_of}
use Rattle.ir_reader.proofs.Gathering.{none_yet, one_more, none_left, item_shorter, fault_gives}
use Rattle.ir_reader.proofs.gather.gather.Goals as goal

pub more-init : goal.more-init
more-init c = none_yet (left c.args.tokens.now) c.args.gathered.now c.requires

pub returns-in_err-part : goal.returns-in_err-part
returns-in_err-part c =
    let p = err_from_is_err_and c.from_residual.result c.from_residual.ensures.1 in
    let ts = left c.args.tokens.now in
    let opened = sym (c.begins_item.ensures (length ts)) ∙ c.more-test.true in
    rw (p.1, p.2) (fault_gives ts (left c.more.tokens) (left c.more.tokens) c.more.gathered c.more.gathered c.in_err-part.field-0.0 c.more.invariant opened (c.in_err-part.ensures (length ts) c.more.invariant.shorter))

pub more-smaller : goal.more-smaller
more-smaller c =
    let ts = left c.args.tokens.now in
    let lt = item_shorter ts (left c.more.tokens) (left c.in_ok-part.rest) (item_of c.in_ok-part.part) (c.in_ok-part.ensures (length ts) c.more.invariant.shorter) in
    omega (arith, lt, count_viewed c.more.tokens.text.now c.more.tokens.rest.now, count_viewed c.in_ok-part.rest.text.now c.in_ok-part.rest.rest.now)

pub more-preserved : goal.more-preserved
more-preserved c =
    let ts = left c.args.tokens.now in
    let opened = sym (c.begins_item.ensures (length ts)) ∙ c.more-test.true in
    one_more ts (left c.more.tokens) (left c.in_ok-part.rest) c.more.gathered c.add.new.self (item_of c.in_ok-part.part) c.more.invariant opened (c.in_ok-part.ensures (length ts) c.more.invariant.shorter) c.in_ok-add.ensures.ok

pub returns : goal.returns
returns c = let ts = left c.args.tokens.now in none_left ts (left c.more.tokens) c.more.gathered c.more.invariant (sym (c.begins_item.ensures (length ts)) ∙ c.more-test.false)
