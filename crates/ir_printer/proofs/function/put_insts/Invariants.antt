use Rattle.std.proofs.Common.{◌≡◌, ◌++◌, ◌∷◌, [], drop}
use Rattle.std.specs.Prelude.{map}
use Rattle.std.specs.List.{AllByRecursion}
use Rattle.text_lex.specs.Layout.{text_of}
use Rattle.ir_types.specs.Denotes.{tables_of, inst_in}
use Rattle.ir_shape.specs.Shape.{IsInst}
use Rattle.ir_printer_types.specs.Pieces.{indent, each_behind}
use Rattle.ir_printer.specs.Print.{inst_pieces}
use Rattle.ir_printer.proofs.function.put_insts.Given as goal

abbrev pub invariant-loop-inst : goal.invariant-loop-inst
invariant-loop-inst l = record {
  known : AllByRecursion IsInst (map (inst_in (tables_of l.m) l.names) (drop l.inst-index l.insts));
  printed : l.out.items ++ text_of (each_behind (indent ∷ []) (map (λ i. inst_pieces (inst_in (tables_of l.m) l.names i)) (drop l.inst-index l.insts))) ≡ l.initial.out.items ++ text_of (each_behind (indent ∷ []) (map (λ i. inst_pieces (inst_in (tables_of l.m) l.names i)) l.insts));
}
