-- The words with which items, instructions and values begin, and what is kept between them.
use Rattle.std.specs.Prelude.{ℕ, List, [], ◌∷◌, ◌++◌, map, codes}
use Rattle.text_forms.specs.Form.{Form}
use Rattle.ir_types.specs.declared.inst.BinOp.TheVariants.{Add, Sub, Mul, Shl, UDiv, SDiv, URem, SRem, LShr, AShr, And, Xor}
use Rattle.ir_types.specs.declared.opcode.Operation.{Operation}
use Rattle.ir_types.specs.declared.opcode.Operation.TheVariants as operations
use Rattle.ir_types.specs.declared.call.TailKind.TheVariants.{Unmarked, Tail, MustTail, NoTail}
use Rattle.ir_types.specs.declared.opcode.ItemWord.{ItemWord}
use Rattle.ir_types.specs.declared.opcode.ItemWord.TheVariants as items
use Rattle.ir_types.specs.declared.opcode.Terminator.{Terminator}
use Rattle.ir_types.specs.declared.opcode.Terminator.TheVariants as terminators
use Rattle.text_forms.specs.Kept.{kept_run}
use Rattle.text_forms.specs.LeftOut.{left_out_words}
use Rattle.ir_types.specs.Tree.{KeptTexts}
use Rattle.ir_types.specs.TypeForms.{type_words}

-- the words with which values begin
unfoldable pub value_words : List (List ℕ)
value_words = codes "true" ∷ codes "false" ∷ codes "null" ∷ codes "poison" ∷ codes "zeroinitializer" ∷ codes "splat" ∷ codes "getelementptr" ∷ []

-- the words with which items begin
unfoldable pub item_words : List (List ℕ × ItemWord)
item_words =
    (codes "source_filename", items.SourceFilename) ∷ (codes "target", items.Target) ∷
    (codes "declare", items.Declare) ∷ (codes "define", items.Define) ∷
    (codes "attributes", items.Attributes) ∷ []

-- the words with which an instruction begins that doesn't end a block
unfoldable pub operation_words : List (List ℕ × Operation)
operation_words =
    (codes "add", operations.Overflowing Add) ∷ (codes "sub", operations.Overflowing Sub) ∷
    (codes "mul", operations.Overflowing Mul) ∷ (codes "shl", operations.Overflowing Shl) ∷
    (codes "udiv", operations.PossiblyExact UDiv) ∷ (codes "sdiv", operations.PossiblyExact SDiv) ∷
    (codes "lshr", operations.PossiblyExact LShr) ∷ (codes "ashr", operations.PossiblyExact AShr) ∷
    (codes "urem", operations.Plain URem) ∷ (codes "srem", operations.Plain SRem) ∷
    (codes "and", operations.Plain And) ∷ (codes "xor", operations.Plain Xor) ∷
    (codes "or", operations.Or) ∷ (codes "icmp", operations.Icmp) ∷
    (codes "select", operations.Select) ∷ (codes "freeze", operations.Freeze) ∷
    (codes "trunc", operations.Trunc) ∷ (codes "zext", operations.Zext) ∷
    (codes "sext", operations.Sext) ∷ (codes "ptrtoint", operations.PtrToInt) ∷
    (codes "phi", operations.Phi) ∷ (codes "getelementptr", operations.GetElementPtr) ∷
    (codes "load", operations.Load) ∷ (codes "store", operations.Store) ∷
    (codes "call", operations.Call Unmarked) ∷ (codes "tail", operations.Call Tail) ∷
    (codes "musttail", operations.Call MustTail) ∷ (codes "notail", operations.Call NoTail) ∷
    (codes "extractelement", operations.ExtractElement) ∷
    (codes "insertelement", operations.InsertElement) ∷
    (codes "shufflevector", operations.ShuffleVector) ∷ []

-- the words with which a terminator begins that has something behind its word
unfoldable pub terminator_words : List (List ℕ × Terminator)
terminator_words = (codes "br", terminators.Br) ∷ (codes "switch", terminators.Switch) ∷ (codes "ret", terminators.Ret) ∷ []

-- the words with which instructions begin
unfoldable pub instruction_words : List (List ℕ)
instruction_words = map (λ (w, _). w) operation_words ++ (map (λ (w, _). w) terminator_words ++ codes "unreachable" ∷ [])

-- the words that no kept run has outside parentheses, but for `align` and `cc`, behind which a number may stand
unfoldable pub excluded_words : List (List ℕ)
excluded_words =
    codes "align" ∷ codes "cc" ∷ codes "global" ∷ codes "constant" ∷ (type_words ++ (value_words ++ (map (λ (w, _). w) item_words ++ (instruction_words ++ left_out_words))))

-- K: as many words, attributes and other pieces as stand there, which are kept as they are
unfoldable pub kept : Form KeptTexts
kept = kept_run excluded_words
