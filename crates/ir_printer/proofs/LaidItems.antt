-- The pieces that items are printed as are tokens and join.
use Rattle.std.proofs.Common.{◌≡◌, Bool, true, false, List, [], ◌∷◌, ◌++◌, Some, refl, append_assoc}
use Rattle.std.specs.Prelude.{map, codes}
use Rattle.std.specs.List.{AllByRecursion}
use Rattle.text_forms.specs.declared.TokenKind.TheVariants as kinds
use Rattle.text_forms.specs.Lexical.{kind_of, table}
use Rattle.text_lex.specs.Layout.{Piece}
use Rattle.text_lex.specs.KeptText.{IsToken, kept_behind, line_pieces}
use Rattle.text_lex.proofs.KeptTexts.{line_are, line_joins}
use Rattle.ir_types.specs.declared.name.Name.{Name}
use Rattle.ir_types.specs.Tree.{KeptTexts, BlockTree, ParamTree, FunctionTree, VariableTree}
use Rattle.ir_shape.specs.Shape.{IsName, IsBlock, IsParam, IsFunction}
use Rattle.ir_printer_types.specs.MemoryPieces.{node_pieces}
use Rattle.ir_printer_types.specs.Pieces.{word, blank, line_feed, right_paren, right_brace, separated, global_token, type_pieces}
use Rattle.ir_printer_types.proofs.Names.{global_kind}
use Rattle.ir_printer_types.proofs.Laid.{IsLaid, IsBehind, loose, nothing_behind, blank_laid, feed_laid, mark_laid, token_laid, laid-append, behind-append, separated_laid}
use Rattle.ir_printer_types.proofs.LaidOut.{equal_laid, bracket_kinds, feeds_part, local_laid, word_laid, type_laid}
use Rattle.ir_printer_types.proofs.Writes.{is_laid, each_is_laid}
use Rattle.ir_printer.specs.Print.{kept_then_blank, whole_line, block_pieces, params_pieces, function_word, head_pieces, body_pieces, function_pieces, definition_pieces, variable_word, variable_pieces}
use Rattle.ir_printer.proofs.KeptWritten.{then_blank_laid, blank_then_behind, behind_laid}
use Rattle.ir_printer.proofs.Blocks.{block_writes}
use Rattle.ir_printer.proofs.Dotted.{dotted_write}
use Rattle.ir_printer.proofs.SpelledFunctions.{param_writes}

-- behind these pieces any that are laid may stand
pub record EndsLine (ps : List Piece) : Type 0 where
  pub before : (qs : List Piece) → IsLaid qs → IsLaid (ps ++ qs)

pub with_feed : (ps : List Piece) → IsLaid ps → EndsLine (ps ++ (line_feed ∷ []))
with_feed ps h = record { before = λ qs g. rw (append_assoc ps) (laid-append ps (line_feed ∷ qs) h (feed_laid g)) }

-- ---- what is kept

pub line_laid : (xs : KeptTexts) → AllByRecursion IsToken xs → EndsLine (whole_line xs)
line_laid xs h = with_feed (line_pieces xs) (record { tokens = line_are xs h; joined = line_joins xs })

-- ---- functions

function_kinds : (kind_of (codes "define") ≡ Some kinds.Word) × (kind_of (codes "declare") ≡ Some kinds.Word)
unfolding table
function_kinds = (refl, refl)

-- the parameters with the dots behind them, and what closes these
all_params_laid : (params : List ParamTree) (further : Bool) (ps : List Piece) → AllByRecursion IsParam params → IsLaid ps → IsLaid (params_pieces params further ++ (right_paren ∷ ps))
all_params_laid params further ps h g =
    laid-append (params_pieces params further) _ (is_laid (dotted_write param_writes params further h)) (mark_laid kinds.RightParen (codes ")") refl bracket_kinds.1 g)

word_kind : {A : Type 0} (bs : List A) → kind_of (function_word bs) ≡ Some kinds.Word
word_kind [] = function_kinds.1
word_kind (b ∷ bs) = function_kinds.0

head_laid : (f : FunctionTree) → IsFunction f → IsLaid (head_pieces f)
unfolding head_pieces
head_laid f h =
    word_laid (function_word f.body) (word_kind f.body) (blank_laid (then_blank_laid f.before _ h.before.tokens (laid-append (type_pieces f.ret) _ (type_laid f.ret h.ret) (blank_laid (token_laid (global_token f.name) (global_kind f.name h.name)
    (mark_laid kinds.LeftParen (codes "(") refl bracket_kinds.0 (all_params_laid f.params f.varargs _ h.params (loose (blank_then_behind f.after h.after.tokens)))))))))

-- what stands behind the head, and then any pieces that are laid
body_laid : (bs : List BlockTree) (qs : List Piece) → AllByRecursion IsBlock bs → IsLaid qs → IsBehind (body_pieces bs ++ qs)
body_laid [] qs h g = feed_laid g
body_laid (b ∷ bs) qs h g =
    let blocks = separated_laid _ (map block_pieces (b ∷ bs)) feeds_part (each_is_laid (block_writes []) (b ∷ bs) h) in
    let closing : IsBehind (right_brace ∷ line_feed ∷ qs) = mark_laid kinds.RightBrace (codes "}") refl bracket_kinds.5 (loose (feed_laid g)) in
    blank_laid (loose (mark_laid kinds.LeftBrace (codes "{") refl bracket_kinds.4 (loose (feed_laid (rw (append_assoc (separated (line_feed ∷ []) (map block_pieces (b ∷ bs)))) (laid-append _ (right_brace ∷ line_feed ∷ qs) blocks closing))))))

pub function_laid : (f : FunctionTree) → IsFunction f → EndsLine (function_pieces f)
unfolding function_pieces
function_laid f h = record { before = λ qs g. rw (append_assoc (head_pieces f)) (laid-append (head_pieces f) _ (head_laid f h) (body_laid f.body qs h.blocks g)) }

-- ---- named types and variables

item_kinds : (kind_of (codes "type") ≡ Some kinds.Word) × (kind_of (codes "opaque") ≡ Some kinds.Word) × (kind_of (codes "global") ≡ Some kinds.Word) × (kind_of (codes "constant") ≡ Some kinds.Word)
unfolding table
item_kinds = (refl, refl, refl, refl)

pub opaque_laid : IsLaid (word (codes "opaque") ∷ [])
opaque_laid = word_laid _ item_kinds.1 nothing_behind

pub definition_laid : (n : Name) (ps : List Piece) → IsName n → IsLaid ps → EndsLine (definition_pieces n ps)
definition_laid n ps h g =
    record { before = λ qs l. local_laid n h (blank_laid (loose (equal_laid (loose (blank_laid (word_laid _ item_kinds.0 (blank_laid ((with_feed ps g).before qs l)))))))) }

variable_kind : (writable : Bool) → kind_of (variable_word writable) ≡ Some kinds.Word
variable_kind true = item_kinds.2
variable_kind false = item_kinds.3

pub variable_laid : (v : VariableTree) → IsName v.name → AllByRecursion IsToken v.before → AllByRecursion IsToken v.after → IsLaid (node_pieces v.ty) → EndsLine (variable_pieces v)
variable_laid v h before after g = record {
  before = λ qs l.
      let behind : IsBehind (kept_behind [] v.after ++ (line_feed ∷ qs)) = behind-append (kept_behind [] v.after) _ (behind_laid v.after after) (feed_laid l) in
      let rest : IsLaid (word (variable_word v.writable) ∷ blank ∷ (node_pieces v.ty ++ (kept_behind [] v.after ++ (line_feed ∷ qs)))) = word_laid _ (variable_kind v.writable) (blank_laid (laid-append (node_pieces v.ty) _ g behind)) in
      rw (append_assoc (kept_then_blank v.before), append_assoc (node_pieces v.ty), append_assoc (kept_behind [] v.after))
      (token_laid (global_token v.name) (global_kind v.name h) (blank_laid (loose (equal_laid (loose (blank_laid (then_blank_laid v.before _ before rest)))))));
}
