use Rattle.ir_shape.proofs.Known.{read_is_module}
use Rattle.vplanc.proofs.Refusing.{refused-error}
use Rattle.vplanc.proofs.run.module_in.Goals as goal

pub returns-in_err-module-clause-refused : goal.returns-in_err-module-clause-refused
returns-in_err-module-clause-refused g c =
    refused-error _ _ _ _ _ _ _ c.in_err-module.field-0.0 c.from_residual-in_err-module.ensures.1 c.in_ok-bytes.ensures.size c.in_ok-bytes.ensures.result c.as_slice.ensures.value c.in_err-module.ensures.fault

pub returns-clause-is_module : goal.returns-clause-is_module
returns-clause-is_module g c = read_is_module _ _ c.in_ok-module.ensures.reads.reads c.in_ok-module.ensures.denotes
