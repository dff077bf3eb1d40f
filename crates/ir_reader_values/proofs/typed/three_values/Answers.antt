use Rattle.ir_reader_values.proofs.Using.{uses_behind}
use Rattle.std.proofs.Common.{refl, ◌∙◌, ◌≡◌, [], ◌∷◌, ap}
use Rattle.text_forms.specs.Gives.{left}
use Rattle.ir_types.specs.InstParts.{typed_value, comma_typed}
use Rattle.ir_reader_values.specs.Seen.{definitions, operand_seen}
use Rattle.ir_reader_values.specs.View.{typed_in}
use Rattle.ir_reader_values.proofs.Chains.{three_apart}
use Rattle.ir_reader_values.proofs.Operands.{by_definitions}
use Rattle.ir_reader_values.proofs.Widening.{widens_trans, steady_behind}
use Rattle.ir_reader_values.proofs.typed.three_values.Goals as goal

pub returns-clause-reads : goal.returns-clause-reads
returns-clause-reads c =
    let defs = definitions c.args.scope.now in
    let a = c.typed_value.new.scope in
    let b = c.comma_typed.new.scope in
    let n = c.comma_typed-2.new.scope in
    let later = c.in_ok-third.ensures.grows in
    let first = c.in_ok-first.ensures.stays n (widens_trans a b n c.in_ok-second.ensures.grows later) in
    let second = c.in_ok-second.ensures.stays n later in
    rw (first, second)
    (three_apart (typed_value defs) (comma_typed defs) (comma_typed defs) (typed_in a c.in_ok-first.first) (typed_in b c.in_ok-second.second) (typed_in n c.in_ok-third.third)
    (left c.args.tokens) (left c.in_ok-first.rest) (left c.in_ok-second.rest) (left c.in_ok-third.rest)
    c.in_ok-first.ensures.reads
    (by_definitions comma_typed defs (definitions a) (left c.in_ok-first.rest) c.in_ok-first.ensures.grows.definitions ∙ c.in_ok-second.ensures.reads)
    (by_definitions comma_typed defs (definitions b) (left c.in_ok-second.rest) (c.in_ok-second.ensures.grows.definitions ∙ c.in_ok-first.ensures.grows.definitions) ∙ c.in_ok-third.ensures.reads))

pub returns-clause-stays : goal.returns-clause-stays
returns-clause-stays c = λ later e.
    let a = c.typed_value.new.scope in
    let b = c.comma_typed.new.scope in
    let n = c.comma_typed-2.new.scope in
    let grows = c.in_ok-third.ensures.grows in
    let first = steady_behind typed_in a n c.in_ok-first.first (widens_trans a b n c.in_ok-second.ensures.grows grows) c.in_ok-first.ensures.stays later e in
    let second = steady_behind typed_in b n c.in_ok-second.second grows c.in_ok-second.ensures.stays later e in
    rw (first, second, c.in_ok-third.ensures.stays later e) refl

pub returns-clause-uses : goal.returns-clause-uses
returns-clause-uses c =
    let a = c.typed_value.new.scope in
    let b = c.comma_typed.new.scope in
    let n = c.comma_typed-2.new.scope in
    let later = c.in_ok-third.ensures.grows in
    let one = c.in_ok-first.first.1 in
    let two = c.in_ok-second.second.1 in
    let first : operand_seen n one ≡ operand_seen a one = ap (λ x. x.1) (c.in_ok-first.ensures.stays n (widens_trans a b n c.in_ok-second.ensures.grows later)) in
    let second : operand_seen n two ≡ operand_seen b two = ap (λ x. x.1) (c.in_ok-second.ensures.stays n later) in
    let both = uses_behind c.args.scope.now a b (operand_seen a one ∷ []) (operand_seen b two ∷ []) c.in_ok-first.ensures.uses c.in_ok-second.ensures.uses in
    rw (first, second) (uses_behind c.args.scope.now b n (operand_seen a one ∷ operand_seen b two ∷ []) (operand_seen n c.in_ok-third.third.1 ∷ []) both c.in_ok-third.ensures.uses)

pub returns-in_err-second-clause-grows : goal.returns-in_err-second-clause-grows
returns-in_err-second-clause-grows c = widens_trans c.args.scope.now c.typed_value.new.scope c.comma_typed.new.scope c.in_ok-first.ensures.grows c.in_err-second.ensures.grows

pub returns-in_err-third-clause-grows : goal.returns-in_err-third-clause-grows
returns-in_err-third-clause-grows c = widens_trans c.args.scope.now c.comma_typed.new.scope c.comma_typed-2.new.scope (widens_trans c.args.scope.now c.typed_value.new.scope c.comma_typed.new.scope c.in_ok-first.ensures.grows c.in_ok-second.ensures.grows) c.in_err-third.ensures.grows

pub returns-clause-grows : goal.returns-clause-grows
returns-clause-grows c = widens_trans c.args.scope.now c.comma_typed.new.scope c.comma_typed-2.new.scope (widens_trans c.args.scope.now c.typed_value.new.scope c.comma_typed.new.scope c.in_ok-first.ensures.grows c.in_ok-second.ensures.grows) c.in_ok-third.ensures.grows
