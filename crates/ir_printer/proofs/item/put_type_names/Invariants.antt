use Rattle.std.proofs.Common.{◌≡◌, ◌++◌, drop}
use Rattle.std.specs.Prelude.{flat_map}
use Rattle.text_lex.specs.Layout.{text_of}
use Rattle.ir_types.specs.Denotes.{type_name_in}
use Rattle.ir_printer.specs.Print.{for_one, type_name_pieces}
use Rattle.ir_printer.proofs.item.put_type_names.Given as goal

abbrev pub invariant-loop-name : goal.invariant-loop-name
invariant-loop-name l = l.out.items ++ text_of (flat_map (λ n. for_one type_name_pieces (type_name_in l.m n)) (drop l.name-index l.m.type_names)) ≡ l.initial.out.items ++ text_of (flat_map (λ n. for_one type_name_pieces (type_name_in l.m n)) l.m.type_names)
