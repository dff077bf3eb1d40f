use Rattle.std.proofs.Common.{ℕ, nat_eq, length, ap, ◌∙◌}
use Rattle.ir_types.specs.declared.name.Name.{Name}
use Rattle.ir_types.specs.Names.{has_name}
use Rattle.ir_check_names.proofs.Marked.{as_long}
use Rattle.ir_check_names.proofs.duplicates.was_there.Goals as goal

pub returns-clause-there : goal.returns-clause-there
returns-clause-there c =
    ap (λ (n : ℕ). nat_eq n c.len-before.result) c.len.ensures.value ∙ ap (λ (n : ℕ). nat_eq (length c.add.new.self) n) c.len-before.ensures.value ∙ as_long c.args.seen.now c.in_ok-copy.field-0 c.add.new.self c.in_ok-add.ensures.ok
    ∙ ap (λ (n : Name). has_name n c.args.seen.now) c.in_ok-copy.ensures
