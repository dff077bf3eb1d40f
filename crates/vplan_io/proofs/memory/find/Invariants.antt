use Rattle.std.proofs.Common.{◌≡◌, drop, string_bytes}
use Rattle.vplan_io.specs.Shelves.{file_of}
use Rattle.vplan_io.proofs.memory.find.Given as goal

abbrev pub invariant-loop-file : goal.invariant-loop-file
invariant-loop-file l = file_of string_bytes (λ v. v.items) l.files l.name ≡ file_of string_bytes (λ v. v.items) (drop l.file-index l.files) l.name
