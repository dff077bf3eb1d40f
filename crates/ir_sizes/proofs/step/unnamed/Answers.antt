use Rattle.std.proofs.Common.{refl}
use Rattle.ir_types.specs.declared.memory_type.MemTy.TheVariants.{Named}
use Rattle.ir_sizes.specs.Prepared.{no_name}
use Rattle.ir_sizes.proofs.Places.{not_named, there}
use Rattle.ir_sizes.proofs.Ahead.{name_leads}
use Rattle.ir_sizes.proofs.step.unnamed.Goals as goal

pub returns-in-Named : goal.returns-in-Named
returns-in-Named c = λ names extents p sized.
    let h = c.in_ok-name.ensures.lookup.3 in
    let found = there c.args.types.now c.args.id.0 c.in_ok-name.field-0.now (Named c.in-Named.name) h.0 h.1 c.in-Named.is in
    name_leads c.args.types.now names extents c.args.steps.now p c.args.id c.in-Named.name c.end_of_name.result found sized c.end_of_name.ensures

pub returns-in_default : goal.returns-in_default
returns-in_default c = λ names extents p sized.
    let h = c.in_ok-name.ensures.lookup.3 in
    let t = c.in_ok-name.field-0.now in
    no_name c.args.id t (there c.args.types.now c.args.id.0 t t h.0 h.1 refl) (not_named t c.in_default.not-Named)
