-- The text that a module is printed as, in pieces: its tokens and the white space between them.
use Rattle.std.specs.Prelude.{ℕ, zero, suc, Bool, true, false, ◌==◌, List, [], ◌∷◌, ◌++◌, map, flat_map, codes, decimal, length, Option, Some, None, if◌then◌else◌}
use Rattle.std.specs.List.{zip}
use Rattle.text_forms.specs.declared.TokenKind.TheVariants as kinds
use Rattle.text_forms.specs.Form.{Lexeme}
use Rattle.text_lex.specs.Layout.{Piece, gap, lexeme, text_of}
use Rattle.text_lex.specs.KeptText.{kept_behind, kept_pieces, line_pieces}
use Rattle.ir_types.specs.declared.name.Name.{Name}
use Rattle.ir_types.specs.declared.inst.Ty.{Ty}
use Rattle.ir_types.specs.declared.inst.Ty.TheVariants.{Int, Ptr}
use Rattle.ir_types.specs.declared.inst.BinOp.{BinOp}
use Rattle.ir_types.specs.declared.inst.BinOp.TheVariants.{Add, Sub, Mul, Shl, UDiv, SDiv, URem, SRem, LShr, AShr, And, Or, Xor, SMin, SMax, UMin, UMax}
use Rattle.ir_types.specs.declared.inst.Flags.{Flags}
use Rattle.ir_types.specs.declared.inst.Pred.{Pred}
use Rattle.ir_types.specs.declared.inst.Pred.TheVariants.{Eq, Ne, Ugt, Uge, Ult, Ule, Sgt, Sge, Slt, Sle}
use Rattle.ir_types.specs.declared.call.Actual.{Actual}
use Rattle.ir_types.specs.declared.call.Callee.{Callee}
use Rattle.ir_types.specs.declared.call.Signature.{Signature}
use Rattle.ir_types.specs.declared.call.TailKind.{TailKind}
use Rattle.ir_types.specs.declared.call.TailKind.TheVariants.{Unmarked, Tail, MustTail, NoTail}
use Rattle.ir_types.specs.Kinds.{Kind, Binary, Compare, Select, Freeze, Trunc, Zext, Sext, PtrToInt, Phi, Offset, Load, Store, Call, Extract, Insert, Shuffle, Jump, Branch, Switch, ReturnVoid, Return, Unreachable, operand_types}
use Rattle.ir_types.specs.ValueForms.{width_of}
use Rattle.ir_types.specs.InstForms.{element_of}
use Rattle.ir_types.specs.Tree.{KeptTexts, OperandTree, local, number, null, poison, lanes, global, out_of_range, InstTree, BlockTree, ParamTree, FunctionTree, NamedTree, defined, opaque, TypeNameTree, SymbolKindTree, variable, function, SymbolTree, ModuleTree, VariableTree}
use Rattle.ir_printer_types.specs.Texts.{signed_text}
use Rattle.ir_printer_types.specs.MemoryPieces.{node_pieces}
use Rattle.ir_printer_types.specs.Pieces.{token, word, comma, equal, left_paren, right_paren, left_bracket, right_bracket, left_brace, right_brace, less, greater, blank, line_feed, indent, each_behind, separated, with_commas, local_token, global_token, label_token, width_word, type_pieces}

-- ---- tokens

-- `...`
abbrev pub dots : Piece
dots = lexeme (token kinds.Dots (codes "..."))

-- what parts the one at a place from those before it
abbrev pub comma_before : ℕ → List Piece
comma_before zero = []
comma_before (suc i) = comma ∷ blank ∷ []

-- what is printed for the one that there may be
abbrev pub for_one : {A B : Type 0} → (A → List B) → Option A → List B
for_one f None = []
for_one f (Some a) = f a

-- ---- values

-- a number at a type: `true` or `false` at i1, and else the signed number of the type's bits
unfoldable pub number_token : Ty → ℕ → Lexeme
number_token t v =
    if width_of t == 1 then (if v == 1 then token kinds.Word (codes "true") else token kinds.Word (codes "false")) else token kinds.Number (signed_text (width_of t) v)

-- what a lane of a type holds: a number, or poison
abbrev pub lane_value : Ty → Option ℕ → Piece
lane_value t None = word (codes "poison")
lane_value t (Some v) = lexeme (number_token t v)

-- T V of a lane
abbrev pub lane_pieces : Ty → Option ℕ → List Piece
lane_pieces t x = type_pieces t ++ (blank ∷ lane_value t x ∷ [])

-- < T V, .. >
abbrev pub lanes_pieces : Ty → List (Option ℕ) → List Piece
lanes_pieces t xs = less ∷ (with_commas (map (lane_pieces t) xs) ++ (greater ∷ []))

-- @name, and where so many bytes behind it aren't 0: getelementptr (i8, ptr @name, i64 bytes)
unfoldable pub global_pieces : Name → ℕ → List Piece
global_pieces n bytes =
    if bytes == 0
    then lexeme (global_token n) ∷ []
    else word (codes "getelementptr") ∷ blank ∷ left_paren ∷ word (codes "i8") ∷ comma ∷ blank ∷ word (codes "ptr") ∷ blank ∷ lexeme (global_token n) ∷ comma ∷ blank ∷ word (codes "i64") ∷ blank ∷ lexeme (token kinds.Number (signed_text 64 bytes)) ∷ right_paren ∷ []

-- an operand at its type; one with a number out of its range isn't printed
abbrev pub operand_pieces : Ty → OperandTree → List Piece
operand_pieces t (local n) = lexeme (local_token n) ∷ []
operand_pieces t (number v) = lexeme (number_token t v) ∷ []
operand_pieces t null = word (codes "null") ∷ []
operand_pieces t poison = word (codes "poison") ∷ []
operand_pieces t (lanes xs) = lanes_pieces (element_of t) xs
operand_pieces t (global n bytes) = global_pieces n bytes
operand_pieces t (out_of_range n) = []

-- T V
abbrev pub typed_operand : Ty → OperandTree → List Piece
typed_operand t a = type_pieces t ++ (blank ∷ operand_pieces t a)

-- ---- words of instructions

-- the word of an operator; of the minima and maxima, which no instruction has, their names
unfoldable pub operator_word : BinOp → List ℕ
operator_word Add = codes "add"
operator_word Sub = codes "sub"
operator_word Mul = codes "mul"
operator_word Shl = codes "shl"
operator_word UDiv = codes "udiv"
operator_word SDiv = codes "sdiv"
operator_word URem = codes "urem"
operator_word SRem = codes "srem"
operator_word LShr = codes "lshr"
operator_word AShr = codes "ashr"
operator_word And = codes "and"
operator_word Or = codes "or"
operator_word Xor = codes "xor"
operator_word SMin = codes "smin"
operator_word SMax = codes "smax"
operator_word UMin = codes "umin"
operator_word UMax = codes "umax"

-- the word of a predicate
unfoldable pub predicate_word : Pred → List ℕ
predicate_word Eq = codes "eq"
predicate_word Ne = codes "ne"
predicate_word Ugt = codes "ugt"
predicate_word Uge = codes "uge"
predicate_word Ult = codes "ult"
predicate_word Ule = codes "ule"
predicate_word Sgt = codes "sgt"
predicate_word Sge = codes "sge"
predicate_word Slt = codes "slt"
predicate_word Sle = codes "sle"

-- a flag behind a space, where it is set
abbrev pub flag_pieces : Bool → List ℕ → List Piece
flag_pieces b w = if b then blank ∷ word w ∷ [] else []

-- `nuw` and `nsw`
abbrev pub wrap_pieces : Bool → Bool → List Piece
wrap_pieces nuw nsw = flag_pieces nuw (codes "nuw") ++ flag_pieces nsw (codes "nsw")

-- the flags of an operator
abbrev pub flags_pieces : Flags → List Piece
flags_pieces f = wrap_pieces f.nuw f.nsw ++ (flag_pieces f.exact (codes "exact") ++ flag_pieces f.disjoint (codes "disjoint"))

-- `inbounds`, `nusw` and `nuw`
abbrev pub offset_flags : Bool → Bool → Bool → List Piece
offset_flags inbounds nuw nusw = flag_pieces inbounds (codes "inbounds") ++ (flag_pieces nusw (codes "nusw") ++ flag_pieces nuw (codes "nuw"))

-- the word of a call, and that before it
abbrev pub call_words : TailKind → List Piece
call_words Unmarked = word (codes "call") ∷ []
call_words Tail = word (codes "tail") ∷ blank ∷ word (codes "call") ∷ []
call_words MustTail = word (codes "musttail") ∷ blank ∷ word (codes "call") ∷ []
call_words NoTail = word (codes "notail") ∷ blank ∷ word (codes "call") ∷ []

-- the word of an instruction, with its flags or its predicate
abbrev pub opening_pieces : Kind → List Piece
opening_pieces (Binary op flags) = word (operator_word op) ∷ flags_pieces flags
opening_pieces (Compare p u) = word (codes "icmp") ∷ blank ∷ word (predicate_word p) ∷ []
opening_pieces (Select condition last) = word (codes "select") ∷ []
opening_pieces Freeze = word (codes "freeze") ∷ []
opening_pieces (Trunc from nuw nsw) = word (codes "trunc") ∷ wrap_pieces nuw nsw
opening_pieces (Zext from nneg) = word (codes "zext") ∷ flag_pieces nneg (codes "nneg")
opening_pieces (Sext from) = word (codes "sext") ∷ []
opening_pieces PtrToInt = word (codes "ptrtoint") ∷ []
opening_pieces Phi = word (codes "phi") ∷ []
opening_pieces (Offset nodes widths inbounds nuw nusw) = word (codes "getelementptr") ∷ offset_flags inbounds nuw nusw
opening_pieces (Load align) = word (codes "load") ∷ []
opening_pieces (Store of align) = word (codes "store") ∷ []
opening_pieces (Call callee) = call_words callee.tail
opening_pieces (Extract of width) = word (codes "extractelement") ∷ []
opening_pieces (Insert element width) = word (codes "insertelement") ∷ []
opening_pieces (Shuffle one other mask) = word (codes "shufflevector") ∷ []
opening_pieces Jump = word (codes "br") ∷ []
opening_pieces Branch = word (codes "br") ∷ []
opening_pieces (Switch width cases) = word (codes "switch") ∷ []
opening_pieces ReturnVoid = word (codes "ret") ∷ []
opening_pieces (Return of) = word (codes "ret") ∷ []
opening_pieces Unreachable = word (codes "unreachable") ∷ []

-- ---- what is kept

-- K and a space, or nothing
abbrev pub kept_then_blank : KeptTexts → List Piece
kept_then_blank [] = []
kept_then_blank (w ∷ ws) = kept_pieces (w ∷ ws) ++ (blank ∷ [])

-- a space and K, or nothing
abbrev pub blank_then_kept : KeptTexts → List Piece
blank_then_kept [] = []
blank_then_kept (w ∷ ws) = blank ∷ kept_pieces (w ∷ ws)

-- ---- operands of instructions

-- T V, V
abbrev pub typed_pieces : Ty → List OperandTree → List Piece
typed_pieces t args = blank ∷ (type_pieces t ++ (blank ∷ with_commas (map (operand_pieces t) args)))

-- each of some operands with its type
abbrev pub each_typed : List Ty → List OperandTree → List (List Piece)
each_typed ts args = map (λ x. typed_operand x.0 x.1) (zip ts args)

-- T V, T V
abbrev pub listed_pieces : List Ty → List OperandTree → List Piece
listed_pieces ts args = blank ∷ with_commas (each_typed ts args)

-- these in brackets
abbrev pub in_brackets : List Piece → List Piece
in_brackets ps = left_bracket ∷ blank ∷ (ps ++ (blank ∷ right_bracket ∷ []))

-- [ V, %name ]
abbrev pub entry_pieces : Ty → OperandTree → Name → List Piece
entry_pieces t a l = in_brackets (operand_pieces t a ++ (comma ∷ blank ∷ lexeme (local_token l) ∷ []))

-- an entry for each operand and its label
abbrev pub entries_of : Ty → List OperandTree → List Name → List (List Piece)
entries_of t args labels = map (λ x. entry_pieces t x.0 x.1) (zip args labels)

-- ---- calls

-- `...`, behind a comma where so many things stand before it
abbrev pub dots_pieces : ℕ → List Piece
dots_pieces n = comma_before n ++ (dots ∷ [])

-- T, .. [, ...]
abbrev pub written_types : Signature → List Piece
written_types s = with_commas (map type_pieces s.params) ++ (if s.varargs then dots_pieces (length s.params) else [])

-- a space and ( T, .. [, ...] ), where the types are written
abbrev pub signature_pieces : Option Signature → List Piece
signature_pieces None = []
signature_pieces (Some s) = blank ∷ left_paren ∷ (written_types s ++ (right_paren ∷ []))

-- T K V
unfoldable pub argument_pieces : Actual → OperandTree → List Piece
argument_pieces a x = type_pieces a.ty ++ (blank_then_kept a.kept ++ (blank ∷ operand_pieces a.ty x))

-- an argument for each operand
abbrev pub arguments_of : List Actual → List OperandTree → List (List Piece)
arguments_of actuals args = map (λ x. argument_pieces x.0 x.1) (zip actuals args)

-- K R [( T, .. [, ...] )] @name ( T K V, .. )
unfoldable pub call_pieces : Callee → Ty → List OperandTree → List Piece
call_pieces c t args =
    blank ∷ (kept_then_blank c.before ++ (type_pieces t ++ (signature_pieces c.signature ++ (blank ∷ lexeme (global_token c.name) ∷ left_paren ∷ (with_commas (arguments_of c.actuals args) ++ (right_paren ∷ []))))))

-- ---- all operands

-- the operands of an instruction with their types
abbrev pub operands_pieces : Kind → Ty → List OperandTree → List Name → List Piece
operands_pieces (Binary op flags) t args labels = typed_pieces t args
operands_pieces (Compare p u) t args labels = typed_pieces u args
operands_pieces Phi t args labels = blank ∷ (type_pieces t ++ (blank ∷ with_commas (entries_of t args labels)))
operands_pieces (Offset nodes widths inbounds nuw nusw) t args labels = blank ∷ (node_pieces nodes ++ (comma ∷ listed_pieces (Ptr ∷ map Int widths) args))
operands_pieces (Load align) t args labels = blank ∷ (type_pieces t ++ (comma ∷ listed_pieces (Ptr ∷ []) args))
operands_pieces (Call callee) t args labels = call_pieces callee t args
operands_pieces Jump t args labels = []
operands_pieces ReturnVoid t args labels = blank ∷ word (codes "void") ∷ []
operands_pieces Unreachable t args labels = []
operands_pieces kind t args labels = listed_pieces (operand_types kind t (length args)) args

-- ---- what stands behind the operands

-- to T
abbrev pub to_pieces : Ty → List Piece
to_pieces t = blank ∷ word (codes "to") ∷ blank ∷ type_pieces t

-- , align n
abbrev pub align_pieces : ℕ → List Piece
align_pieces n = comma ∷ blank ∷ word (codes "align") ∷ blank ∷ lexeme (token kinds.Number (decimal n)) ∷ []

-- label %name
abbrev pub target_pieces : Name → List Piece
target_pieces l = word (codes "label") ∷ blank ∷ lexeme (local_token l) ∷ []

-- the labels with commas between them
abbrev pub targets_pieces : List Name → List Piece
targets_pieces ls = with_commas (map target_pieces ls)

-- iN number, label %name, the number in digits at each type
abbrev pub case_pieces : ℕ → ℕ → Name → List Piece
case_pieces w n l = word (width_word w) ∷ blank ∷ lexeme (token kinds.Number (signed_text w n)) ∷ comma ∷ blank ∷ target_pieces l

-- a case for each number and its label
abbrev pub cases_of : ℕ → List ℕ → List Name → List (List Piece)
cases_of w ns labels = map (λ x. case_pieces w x.0 x.1) (zip ns labels)

-- what stands before a case, and before the end of the cases: a line of its own
abbrev pub before_case : Piece
before_case = gap (10 ∷ 32 ∷ 32 ∷ 32 ∷ 32 ∷ [])

abbrev pub before_end : Piece
before_end = gap (10 ∷ 32 ∷ 32 ∷ [])

-- , label %name [ iN number, label %name .. ]
abbrev pub switch_pieces : ℕ → List ℕ → List Name → List Piece
switch_pieces w ns [] = []
switch_pieces w ns (l ∷ labels) = comma ∷ blank ∷ (target_pieces l ++ (blank ∷ left_bracket ∷ (each_behind (before_case ∷ []) (cases_of w ns labels) ++ (before_end ∷ right_bracket ∷ []))))

-- the type of a cast, an alignment, what is kept behind a call, or labels
abbrev pub ending_pieces : Kind → Ty → List Name → List Piece
ending_pieces (Trunc from nuw nsw) t labels = to_pieces t
ending_pieces (Zext from nneg) t labels = to_pieces t
ending_pieces (Sext from) t labels = to_pieces t
ending_pieces PtrToInt t labels = to_pieces t
ending_pieces (Load align) t labels = align_pieces align
ending_pieces (Store of align) t labels = align_pieces align
ending_pieces (Call callee) t labels = blank_then_kept callee.after
ending_pieces Jump t labels = blank ∷ targets_pieces labels
ending_pieces Branch t labels = comma ∷ blank ∷ targets_pieces labels
ending_pieces (Switch width cases) t labels = switch_pieces width cases labels
ending_pieces kind t labels = []

-- ---- instructions

-- an instruction behind its result, without attachments
abbrev pub kind_pieces : Kind → Ty → List OperandTree → List Name → List Piece
kind_pieces kind t args labels = opening_pieces kind ++ (operands_pieces kind t args labels ++ ending_pieces kind t labels)

-- %name =
abbrev pub result_pieces : Option Name → List Piece
result_pieces None = []
result_pieces (Some n) = lexeme (local_token n) ∷ blank ∷ equal ∷ blank ∷ []

-- a line, behind its indentation
unfoldable pub inst_pieces : InstTree → List Piece
inst_pieces i = result_pieces i.result ++ (kind_pieces i.kind i.ty i.args i.labels ++ (kept_behind [] i.kept ++ (line_feed ∷ [])))

-- ---- blocks

-- the label on a line, and a line for each instruction
unfoldable pub block_pieces : BlockTree → List Piece
block_pieces b = lexeme (label_token b.name) ∷ line_feed ∷ each_behind (indent ∷ []) (map inst_pieces b.insts)

-- ---- kept lines

-- a kept line
abbrev pub whole_line : KeptTexts → List Piece
whole_line xs = line_pieces xs ++ (line_feed ∷ [])

-- ---- functions

-- T K %name
unfoldable pub param_pieces : ParamTree → List Piece
param_pieces p = type_pieces p.ty ++ (blank_then_kept p.kept ++ (blank ∷ lexeme (local_token p.name) ∷ []))

-- T K %name, .. [, ...]
abbrev pub params_pieces : List ParamTree → Bool → List Piece
params_pieces params varargs = with_commas (map param_pieces params) ++ (if varargs then dots_pieces (length params) else [])

-- the word with which a function begins, declared where it has no block
abbrev pub function_word : {A : Type 0} → List A → List ℕ
function_word [] = codes "declare"
function_word (b ∷ bs) = codes "define"

-- define K R @name(T K %name, ..) K
unfoldable pub head_pieces : FunctionTree → List Piece
head_pieces f =
    word (function_word f.body) ∷ blank ∷ (kept_then_blank f.before ++ (type_pieces f.ret ++ (blank ∷ lexeme (global_token f.name) ∷ left_paren ∷ (params_pieces f.params f.varargs ++ (right_paren ∷ blank_then_kept f.after)))))

-- the blocks with empty lines between them in braces, the last on a line of its own; without a block nothing but the line's end
abbrev pub body_pieces : List BlockTree → List Piece
body_pieces [] = line_feed ∷ []
body_pieces (b ∷ bs) = blank ∷ left_brace ∷ line_feed ∷ (separated (line_feed ∷ []) (map block_pieces (b ∷ bs)) ++ (right_brace ∷ line_feed ∷ []))

-- the head, and what stands behind it
unfoldable pub function_pieces : FunctionTree → List Piece
function_pieces f = head_pieces f ++ body_pieces f.body

-- an empty line, behind a text that isn't empty
abbrev pub parting : List ℕ → List Piece
parting [] = []
parting (c ∷ cs) = line_feed ∷ []

-- functions behind a text, each behind an empty line, but for the first where the text is empty
abbrev pub functions_behind : List ℕ → List (List Piece) → List Piece
functions_behind text [] = []
functions_behind text (f ∷ fs) = parting text ++ separated (line_feed ∷ []) (f ∷ fs)

-- ---- named types

-- %name = type M
abbrev pub definition_pieces : Name → List Piece → List Piece
definition_pieces n ps = lexeme (local_token n) ∷ blank ∷ equal ∷ blank ∷ word (codes "type") ∷ blank ∷ (ps ++ (line_feed ∷ []))

-- what a name is defined as, `opaque` where nothing is known of the type
abbrev pub named_pieces : NamedTree → List Piece
named_pieces (defined nodes) = node_pieces nodes
named_pieces opaque = word (codes "opaque") ∷ []

-- the definition of a name
abbrev pub type_name_pieces : TypeNameTree → List Piece
type_name_pieces n = definition_pieces n.name (named_pieces n.ty)

-- ---- variables

-- the word that says whether a variable may be written
abbrev pub variable_word : Bool → List ℕ
variable_word true = codes "global"
variable_word false = codes "constant"

-- @name = K global M ..
abbrev pub variable_pieces : VariableTree → List Piece
variable_pieces v =
    lexeme (global_token v.name) ∷ blank ∷ equal ∷ blank ∷ (kept_then_blank v.before ++ (word (variable_word v.writable) ∷ blank ∷ (node_pieces v.ty ++ (kept_behind [] v.after ++ (line_feed ∷ [])))))

-- of the symbols only variables are printed by themselves
abbrev pub symbol_kind_pieces : SymbolTree → SymbolKindTree → List Piece
symbol_kind_pieces s (variable nodes writable) = variable_pieces (record { name = s.name; before = s.before; writable = writable; ty = nodes; after = s.after })
symbol_kind_pieces s function = []

-- a symbol: its line where it is a variable
abbrev pub symbol_pieces : SymbolTree → List Piece
symbol_pieces s = symbol_kind_pieces s s.kind

-- ---- lines, and the whole

-- the text begins with `$`
abbrev pub begins_comdat : List ℕ → Bool
begins_comdat [] = false
begins_comdat (c ∷ cs) = c == 36

-- the first text does: of the lines at the head only those of comdats
abbrev pub is_comdat : KeptTexts → Bool
is_comdat [] = false
is_comdat (w ∷ ws) = begins_comdat w

-- a line of the head where it isn't that of a comdat; then where it is
abbrev pub head_line_pieces : KeptTexts → List Piece
head_line_pieces xs = if is_comdat xs then [] else whole_line xs

abbrev pub comdat_line_pieces : KeptTexts → List Piece
comdat_line_pieces xs = if is_comdat xs then whole_line xs else []

-- what stands before the functions: the other lines of the head, the named types, the comdats and the variables
unfoldable pub front_pieces : ModuleTree → List Piece
front_pieces m = flat_map head_line_pieces m.head ++ (flat_map type_name_pieces m.type_names ++ (flat_map comdat_line_pieces m.head ++ flat_map symbol_pieces m.symbols))

-- behind these the functions, and the lines of the tail
unfoldable pub module_pieces : ModuleTree → List Piece
module_pieces m = front_pieces m ++ (functions_behind (text_of (front_pieces m)) (map function_pieces m.functions) ++ flat_map whole_line m.tail)
