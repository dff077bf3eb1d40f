-- The grammar of names and types.
use Rattle.std.specs.Prelude.{ℕ, length, List, [], ◌∷◌, codes, find, nat_lt, ◌^◌, ◌==◌, Option, Some, None, if◌then◌else◌}
use Rattle.text_forms.specs.declared.TokenKind.TheVariants.{Local, Global, Label, Word, Number, LeftBracket, RightBracket, LeftBrace, RightBrace, Less, Greater}
use Rattle.text_forms.specs.Form.{Lexeme, Form, is_one_of, exactly, one, one_such, enclosed, pair, either, mapped, made}
use Rattle.text_forms.specs.Reading.{◌>>=◌, read_whole}
use Rattle.text_forms.specs.declared.TokenKind.{TokenKind}
use Rattle.text_forms.specs.Gives.{mark}
use Rattle.text_forms.specs.Combined.{word, behind, after_mark, marked}
use Rattle.ir_types.specs.declared.name.Name.{Name}
use Rattle.ir_types.specs.declared.inst.Ty.{Ty}
use Rattle.ir_types.specs.declared.inst.Ty.TheVariants.{Int, Ptr, Vector, Void}
use Rattle.ir_types.specs.Types.{lane_counts}
use Rattle.ir_types.specs.Written.{number_of, name_behind, name_before}
use Rattle.text_forms.specs.Nested.{TypeParts, memory}
use Rattle.ir_types.specs.TypeNodes.{TypeNode, scalar, called, array, opening, closing}

-- a local name: `%` and a name, a string or digits
unfoldable pub local_name : Form Name
local_name = made name_behind (one Local)

-- a global name: `@` and a name, a string or digits
unfoldable pub global_name : Form Name
global_name = made name_behind (one Global)

-- a label: a name, a string or digits, and a colon
unfoldable pub label : Form Name
label = made name_before (one Label)

-- iN := i1 | i8 | i16 | i32 | i64
unfoldable pub width : Form ℕ
width = either (word (codes "i1") 1) (either (word (codes "i8") 8) (either (word (codes "i16") 16) (either (word (codes "i32") 32) (word (codes "i64") 64))))

-- the number of lanes that is written so: digits without a sign, for one of the powers of two from 2 to 512
abbrev pub lanes_of : List ℕ → Option ℕ
lanes_of [] = None
lanes_of (c ∷ ds) = if c == 45 then None else find (λ n. n == number_of (c ∷ ds)) lane_counts

-- a vector of so many lanes of a width
abbrev pub vector_of : List ℕ × ℕ → Option Ty
vector_of (digits, w) = lanes_of digits >>= λ n. Some (Vector n w)

-- n x iN >
abbrev pub vector_parts : Form (List ℕ × ℕ)
vector_parts = mapped (λ (parts, _). parts) (pair (pair (one Number) (behind (codes "x") width)) (mark Greater))

-- < n x iN >, where a number stands behind `<`
unfoldable pub vector_type : Form Ty
vector_type = made vector_of (marked Less vector_parts)

-- T := iN | ptr | < n x iN >
unfoldable pub value_type : Form Ty
value_type = either (mapped Int width) (either (word (codes "ptr") Ptr) vector_type)

-- R := T | void
unfoldable pub return_type : Form Ty
return_type = either value_type (word (codes "void") Void)

-- the number of an array's elements that is written so: digits without a sign, for a number below 2^64
abbrev pub elements_of : List ℕ → Option ℕ
elements_of [] = None
elements_of (c ∷ ds) = if c == 45 then None else (if nat_lt (number_of (c ∷ ds)) (2 ^ 64) then Some (number_of (c ∷ ds)) else None)

-- T | %name
unfoldable pub memory_leaf : Form (List TypeNode)
memory_leaf = either (mapped (λ t. scalar t ∷ []) value_type) (mapped (λ n. called n ∷ []) local_name)

-- [ n x
unfoldable pub array_begin : Form (List TypeNode)
array_begin = mapped (λ (n, _). array n ∷ []) (after_mark LeftBracket (pair (made elements_of (one Number)) (exactly Word (codes "x"))))

-- what stands in memory types: T | %name | [ n x M ] | { M, .. } | <{ M, .. }>
unfoldable pub type_parts : TypeParts TypeNode
type_parts = record { leaf = memory_leaf; array_head = array_begin; opening = opening; closing = closing }

-- M, nested at most so deep, as its nodes
abbrev pub memory_type : ℕ → Form (List TypeNode)
memory_type depth = memory type_parts depth

-- ---- memory types in instructions

-- the words of types
unfoldable pub type_words : List (List ℕ)
type_words = codes "i1" ∷ codes "i8" ∷ codes "i16" ∷ codes "i32" ∷ codes "i64" ∷ codes "ptr" ∷ codes "void" ∷ []

-- a token of this kind, as a list
abbrev pub token_list : TokenKind → List ℕ → List Lexeme
token_list k w = record { kind = k; text = w } ∷ []

-- the tokens of a memory type: a word of a type, a local name, or a balanced list in brackets
abbrev pub type_tokens : Form (List Lexeme)
type_tokens =
    either (mapped (token_list Word) (one_such Word (is_one_of type_words)))
    (either (mapped (token_list Local) (one Local))
    (either (enclosed LeftBracket RightBracket)
    (either (enclosed LeftBrace RightBrace) (enclosed Less Greater))))

-- the memory type that all of the tokens spell
abbrev pub type_spelled : List Lexeme → Option (List TypeNode)
type_spelled ts = read_whole (memory_type (length ts)) ts

-- M in an instruction: as in items, but that its tokens are found first, which are balanced, and then what they spell (proofs/InstMemory: it is the
-- same, at any depth that is deep enough)
unfoldable pub inst_memory : Form (List TypeNode)
inst_memory = made type_spelled type_tokens
