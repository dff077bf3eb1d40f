use Rattle.std.proofs.Common.{◌≡◌, ◌++◌, ◌∷◌, [], drop}
use Rattle.std.specs.Prelude.{map}
use Rattle.std.specs.List.{AllByRecursion}
use Rattle.text_lex.specs.Layout.{text_of}
use Rattle.ir_types.specs.Denotes.{tables_of, function_in}
use Rattle.ir_shape.specs.Shape.{IsFunction}
use Rattle.ir_printer_types.specs.Pieces.{line_feed, each_behind}
use Rattle.ir_printer.specs.Print.{function_pieces}
use Rattle.ir_printer.proofs.function.put_functions.Given as goal

abbrev pub invariant-loop-function : goal.invariant-loop-function
invariant-loop-function l = record {
  known : AllByRecursion IsFunction (map (function_in (tables_of l.m)) (drop l.function-index l.rest));
  printed : l.out.items ++ text_of (each_behind (line_feed ∷ []) (map (λ f. function_pieces (function_in (tables_of l.m) f)) (drop l.function-index l.rest))) ≡ l.initial.out.items ++ text_of (each_behind (line_feed ∷ []) (map (λ f. function_pieces (function_in (tables_of l.m) f)) l.rest));
}
