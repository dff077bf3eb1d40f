-- What is printed of a file is what the file's tree allows.
use Rattle.std.proofs.Common.{◌+◌, ◌≤◌, ℕ, List, ◌++◌, IfSome, arith}
use Rattle.std.specs.declared.option.Option.{Option}
use Rattle.std.specs.declared.option.Option.TheVariants.{None, Some}
use Rattle.ir_types.specs.Tree.{ModuleTree}
use Rattle.ir_meaning.specs.Allows.{Allows, factor_of}
use Rattle.ir_run_laws.proofs.Composed.{allowing-grows}
use Rattle.ir_run_laws.proofs.Composed.{allows-itself}
use Rattle.vplanc.specs.declared.answer.Status.{Status}
use Rattle.vplanc.specs.declared.answer.Status.TheVariants.{Done, BadWords, Text, Check, ReadFault, WriteFault, Memory}
use Rattle.vplanc.specs.Answers.{TookAll, OutHolds, OutLeft, IsAllowed, TookAllowed, AllowedLeft}

-- a tree allows itself with the factor of a printed one
tree-allows : (tree : ModuleTree) → Allows tree tree (factor_of tree)
tree-allows tree = allowing-grows tree tree 1 (factor_of tree) (omega arith) (allows-itself tree)

took-allowed : (told before now : Option (List ℕ)) → TookAll told before now → TookAllowed told before now
took-allowed None before now t = tt
took-allowed (Some text) None now t = tt
took-allowed (Some text) (Some old) now t =
    let p = t.is_printed in (
      t.printed,
      t.taken,
      record { file = p.tree; print = p.tree; file_reads = p.file_reads.within.reads; print_reads = p.print_reads; keeps = p.keeps; allows = λ first. (first, tree-allows p.tree) },
    )

-- the same for any words
pub allowed-left : (command : Option (List ℕ)) (told : List ℕ → Option (List ℕ)) (before now : Option (List ℕ)) (status : Status) → OutLeft command told before now status → AllowedLeft command told before now status
allowed-left None told before now status left = tt
allowed-left (Some file) told before now Done left = took-allowed (told file) before now left
allowed-left (Some file) told before now BadWords left = tt
allowed-left (Some file) told before now (Text fault) left = tt
allowed-left (Some file) told before now (Check rule names place) left = tt
allowed-left (Some file) told before now (ReadFault which) left = tt
allowed-left (Some file) told before now (WriteFault which) left = tt
allowed-left (Some file) told before now Memory left = tt
