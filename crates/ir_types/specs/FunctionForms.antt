-- The grammar of blocks and functions, where names of types are defined so.
use Rattle.std.specs.Prelude.{ℕ, Bool, false, List, [], ◌∷◌, ◌++◌, Option, Some, None}
use Rattle.text_forms.specs.declared.TokenKind.TheVariants.{Local, Equal, LeftParen, RightParen, LeftBrace, RightBrace}
use Rattle.text_forms.specs.Form.{Form, ahead, pair, either, mapped, made, optional, many}
use Rattle.text_forms.specs.Reading.{◌>>=◌}
use Rattle.text_forms.specs.Combined.{between, some, list}
use Rattle.ir_types.specs.declared.name.Name.{Name}
use Rattle.ir_types.specs.declared.inst.Ty.{Ty}
use Rattle.ir_types.specs.Written.{name_behind}
use Rattle.text_forms.specs.Nested.{joined}
use Rattle.text_forms.specs.Kept.{attachments}
use Rattle.ir_types.specs.Offsets.{Definitions}
use Rattle.ir_types.specs.Tree.{KeptTexts, InstTree, WrittenParam, WrittenBlock, WrittenFunction}
use Rattle.ir_types.specs.TypeForms.{local_name, global_name, label, value_type, return_type}
use Rattle.ir_types.specs.Words.{kept}
use Rattle.ir_types.specs.InstParts.{dotted_list}
use Rattle.ir_types.specs.InstForms.{operation, terminator}

-- ---- blocks

-- an instruction with the name that is written for its result
abbrev pub named_by : InstTree → Option Name → InstTree
named_by i name = record i { result = name }

-- the instruction with the name behind the `%` as its result's
abbrev pub with_result : List ℕ × (List ℕ × InstTree) → Option InstTree
with_result (s, (_, i)) = name_behind s >>= λ n. Some (named_by i (Some n))

-- the instruction with no name for its result
abbrev pub without_result : InstTree → InstTree
without_result i = named_by i None

-- [%name =] and the instruction
abbrev pub line : Form InstTree → Form InstTree
line f = either (made with_result (ahead Local (ahead Equal f))) (mapped without_result f)

-- the instructions, with the terminator behind them
abbrev pub block_tree : Option Name × (List InstTree × InstTree) → WrittenBlock
block_tree (name, (insts, last)) = record { label = name; insts = insts ++ last ∷ [] }

-- [label] line .., the last one a terminator's and no other
unfoldable pub block : Definitions → Form WrittenBlock
block defs = mapped block_tree (pair (optional label) (pair (many (line (operation defs))) (line (terminator defs))))

-- ---- functions

-- T K [%name]
unfoldable pub parameter : Form WrittenParam
parameter = mapped (λ (t, (k, n)). record { ty = t; kept = k; name = n }) (pair value_type (pair kept (optional local_name)))

-- `...`, or T K [%name], .. [, ...], or nothing
unfoldable pub dotted_parameters : Form (List WrittenParam × Bool)
dotted_parameters = dotted_list parameter

-- the parts of a declared function, by their names
abbrev pub declared_tree : KeptTexts × (Ty × (Name × ((List WrittenParam × Bool) × KeptTexts))) → WrittenFunction
declared_tree (before, (t, (name, ((params, varargs), after)))) = record { name = name; before = before; ret = t; params = params; varargs = varargs; after = after; body = [] }

-- B K R @name ( .. ) K
unfoldable pub declared_function : Form WrittenFunction
declared_function =
    mapped declared_tree (pair (joined attachments kept) (pair return_type (pair global_name (pair (between LeftParen RightParen dotted_parameters) kept))))

-- the parts of a defined function, by their names
abbrev pub defined_tree : KeptTexts × (Ty × (Name × (List WrittenParam × (KeptTexts × List WrittenBlock)))) → WrittenFunction
defined_tree (before, (t, (name, (params, (after, body))))) = record { name = name; before = before; ret = t; params = params; varargs = false; after = after; body = body }

-- K R @name ( .. ) K B { block.. }
unfoldable pub defined_function : Definitions → Form WrittenFunction
defined_function defs =
    mapped defined_tree (pair kept (pair return_type (pair global_name (pair (between LeftParen RightParen (list parameter)) (pair (joined kept attachments) (between LeftBrace RightBrace (some (block defs))))))))
