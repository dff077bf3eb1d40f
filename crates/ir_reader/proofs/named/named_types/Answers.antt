use Rattle.std.proofs.Common.{[], ◌∷◌, ◌++◌, length, take, sym, ap, ◌∙◌}
use Rattle.std.proofs.lemmas.List.{take_more}
use Rattle.ir_reader_types.proofs.Growth.{extends_length}
use Rattle.ir_reader.specs.Trees.{stands_for, defined_as}
use Rattle.ir_reader.specs.Typed.{definition_uses, StandsBefore}
use Rattle.ir_reader.proofs.Making.{made_more, all_later, all_push}
use Rattle.ir_reader.proofs.named.named_types.Goals as goal

pub loop-definition-preserved : goal.loop-definition-preserved
loop-definition-preserved c =
    let ds = c.args.definitions.now in
    let i = c.loop-definition.definition-index in
    let d = c.definition-item.result in
    let e = c.in_ok-ty.ensures in
    let h = c.loop-definition.invariant in
    let before = c.loop-definition.types.items in
    let after = c.named_type.new.types.items in
    let named = c.loop-definition.named.items in
    let taken = take_more ds i d c.loop-definition-test.true ∙ ap (λ x. take i ds ++ x ∷ []) (sym c.definition-item.is) in
    record {
      made =
          rw (taken, c.in_ok-push.ensures.items) (made_more stands_for defined_as definition_uses c.args.names.now c.loop-definition.names c.named_type.new.names c.args.types.now.items before after (take i ds) named d c.in_ok-ty.ty
          h.made e.types_grow e.are e.names_grow e.stands);
      within = rw c.in_ok-push.ensures.items (all_push (StandsBefore (length after)) named c.in_ok-ty.ty (all_later (length before) (length after) named (extends_length before after e.types_grow) h.within) e.within);
    }
