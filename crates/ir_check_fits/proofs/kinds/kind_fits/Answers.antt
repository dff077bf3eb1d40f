use Rattle.std.proofs.Common.{ℕ, List, map, sym, ap, ◌∙◌, arith}
use Rattle.std.proofs.lemmas.Grind.{common_steps}
use Rattle.ir_types.specs.declared.inst.InstKind.{InstKind}
use Rattle.ir_types.specs.Denotes.{nodes_in, tree_of, tables_of}
use Rattle.ir_rules.specs.Steps.{type_definitions}
use Rattle.ir_rules.specs.Mismatch.{leads_on, kind_fits}
use Rattle.ir_check_fits.specs.Sites.{around_at, operand_at, kind_at}
use Rattle.ir_check_fits.proofs.kinds.kind_fits.Goals as goal

pub returns-in-Offset : goal.returns-in-Offset
returns-in-Offset c =
    let s = c.args.x.now in
    let args = map (operand_at s) c.args.args.now in
    c.leads_on.ensures
    ∙ ap (λ (ws : List ℕ). leads_on (type_definitions (tree_of s.whole)) (nodes_in s.whole c.in-Offset.id) ws args) c.as_slice.ensures
    ∙ ap (λ (k : InstKind). kind_fits (around_at s) (kind_at s k) c.args.ty args) (sym c.in-Offset.is)

pub returns-in-Call : goal.returns-in-Call
returns-in-Call c =
    let s = c.args.x.now in
    let args = map (operand_at s) c.args.args.now in
    c.is_meant_right.ensures (tables_of s.whole) s.part.names
    ∙ ap (λ (k : InstKind). kind_fits (around_at s) (kind_at s k) c.args.ty args) (sym c.in-Call.is)

pub returns-then-is_mask_type : goal.returns-then-is_mask_type
returns-then-is_mask_type c =
    let constant = c.is_mask_constant.ensures (tables_of c.args.x.now.whole) c.args.x.now.part.names in
    grind (arith, common_steps)
