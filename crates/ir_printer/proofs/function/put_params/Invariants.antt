use Rattle.std.proofs.Common.{◌≡◌, ◌++◌, ◌∷◌, [], drop}
use Rattle.std.specs.Prelude.{map}
use Rattle.std.specs.List.{AllByRecursion}
use Rattle.text_lex.specs.Layout.{text_of}
use Rattle.ir_types.specs.Denotes.{param_in}
use Rattle.ir_shape.specs.Shape.{IsParam}
use Rattle.ir_printer_types.specs.Pieces.{comma, blank, each_behind}
use Rattle.ir_printer.specs.Print.{param_pieces}
use Rattle.ir_printer.proofs.function.put_params.Given as goal

abbrev pub invariant-loop-param : goal.invariant-loop-param
invariant-loop-param l = record {
  known : AllByRecursion IsParam (map (param_in l.names) (drop l.param-index l.rest));
  printed : l.out.items ++ text_of (each_behind (comma ∷ blank ∷ []) (map (λ p. param_pieces (param_in l.names p)) (drop l.param-index l.rest))) ≡ l.initial.out.items ++ text_of (each_behind (comma ∷ blank ∷ []) (map (λ p. param_pieces (param_in l.names p)) l.rest));
}
