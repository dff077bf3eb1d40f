use Rattle.std.proofs.Common.{◌≡◌, ◌<◌, ◌++◌, [], ◌-◌, get_or, drop}
use Rattle.text_lex.specs.Layout.{text_of}
use Rattle.text_lex.specs.KeptText.{kept_behind, kept_pieces}
use Rattle.ir_printer.proofs.kept.put_from.Given as goal

abbrev pub invariant-loop-place : goal.invariant-loop-place
invariant-loop-place l = record {
  some : 0 < l.place;
  printed : l.out.items ++ text_of (kept_behind (get_or l.kept (l.place - 1) []) (drop l.place l.kept)) ≡ l.fn.out.items ++ text_of (kept_pieces (drop l.start l.kept));
}
