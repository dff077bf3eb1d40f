-- The pieces that a list with dots behind it is printed as write it.
use Rattle.std.proofs.Common.{◌≡◌, Bool, true, false, cond, List, [], ◌∷◌, ◌++◌, length, Some, None, refl, arith}
use Rattle.std.specs.Prelude.{map, codes}
use Rattle.std.specs.List.{AllByRecursion}
use Rattle.text_forms.specs.declared.TokenKind.TheVariants as kinds
use Rattle.text_forms.specs.Form.{Form}
use Rattle.text_forms.specs.Gives.{mark}
use Rattle.text_forms.specs.Lexical.{kind_of, table}
use Rattle.text_lex.specs.Layout.{Piece, closed}
use Rattle.ir_types.specs.InstParts.{dotted_list}
use Rattle.ir_printer_types.specs.Pieces.{with_commas}
use Rattle.ir_printer_types.proofs.Writes.{Writes, both, left_writes, right_writes, mapped_writes, one_writes, none_writes, there_writes, marked_comma, EachWrites, commas_write}
use Rattle.ir_printer.specs.Print.{dots, dots_pieces}

dots_kind : kind_of (codes "...") ≡ Some kinds.Dots
unfolding table
dots_kind = refl

dots_writes : Writes closed (mark kinds.Dots) tt (dots ∷ [])
dots_writes = mapped_writes (codes "...") tt refl (one_writes kinds.Dots (codes "...") dots_kind)

pub dotted_write : {A B : Type 0} {f : Form A} {w : B → A} {pieces : B → List Piece} {P : B → Type 0} → EachWrites f w pieces P → (items : List B) (further : Bool) → AllByRecursion P items
    → Writes closed (dotted_list f) (map w items, further) (with_commas (map pieces items) ++ cond further (dots_pieces (length items)) [])
dotted_write e [] false h = mapped_writes None _ refl none_writes
dotted_write e [] true h = mapped_writes (Some ([], true)) _ refl (there_writes (left_writes (mapped_writes tt _ refl dots_writes)))
dotted_write {w = w} e (x ∷ items) false h =
    mapped_writes (Some (map w (x ∷ items), false)) _ refl (there_writes (right_writes (mapped_writes (map w (x ∷ items), None) _ refl (both (commas_write e (x ∷ items) (omega arith) h) none_writes))))
dotted_write {w = w} e (x ∷ items) true h =
    mapped_writes (Some (map w (x ∷ items), true)) _ refl (there_writes (right_writes (mapped_writes (map w (x ∷ items), Some tt) _ refl (both (commas_write e (x ∷ items) (omega arith) h) (there_writes (marked_comma dots_writes))))))
