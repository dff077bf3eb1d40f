use Rattle.std.proofs.Common.{◌≡◌, drop}
use Rattle.text_forms.specs.declared.Class.TheVariants.{NamePart}
use Rattle.text_forms.specs.Lexical.{has}
use Rattle.text_lex.specs.Neighbours.{all_of}
use Rattle.ir_printer_types.proofs.name.is_plain.Given as goal

abbrev pub invariant-loop-byte : goal.invariant-loop-byte
invariant-loop-byte l = all_of (has NamePart) (drop l.byte-index l.rest) ≡ all_of (has NamePart) l.rest
