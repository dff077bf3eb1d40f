use Rattle.std.proofs.Common.{◌≡◌, length, ◌∙◌, rules}
use Rattle.std.specs.Prelude.{sum_by}
use Rattle.text_lex.specs.declared.fault.Count.TheVariants.{Functions, Blocks, Instructions}
use Rattle.ir_types.specs.declared.module.Block.{Block}
use Rattle.ir_types.specs.declared.module.Function.{Function}
use Rattle.ir_limits.specs.Limits.{above, name_count}
use Rattle.ir_limits.proofs.Reached.{passed_same}
use Rattle.ir_limits.proofs.counts.passed.Goals as goal

pub returns : goal.returns
returns c t =
    let fs = c.args.functions.now in
    let counted : c.first_passed.result ≡ above Functions 4096 (length fs) (above Blocks 65536 (sum_by (λ (f : Function). length f.body) fs) (above Instructions 1000000 (sum_by (λ (f : Function). sum_by (λ (b : Block). length b.insts) f.body) fs) (name_count c.args.long))) = search rules in
    counted ∙ passed_same t fs c.args.long
