-- A line: an instruction, and the name of its result before it where one is written.
use Rattle.std.specs.Prelude.{ℕ, Bool, List, [], ◌∷◌, Option, Some}
use Rattle.std.specs.Option.{option_map}
use Rattle.text_forms.specs.declared.TokenKind.{TokenKind}
use Rattle.text_forms.specs.declared.TokenKind.TheVariants.{Local, Equal}
use Rattle.text_forms.specs.Form.{Lexeme}
use Rattle.text_forms.specs.Reading.{◌>>=◌, any_of, mark_then, next_in}
use Rattle.ir_types.specs.declared.name.Name.{Name}
use Rattle.ir_types.specs.declared.name.ValueId.{ValueId}
use Rattle.ir_types.specs.Tree.{InstTree}
use Rattle.ir_reader_values.specs.declared.scope.Scope.{Scope}
use Rattle.ir_reader_values.specs.Seen.{name_seen}
use Rattle.ir_types.specs.FunctionForms.{with_result, without_result}

-- a token
abbrev pub tok : TokenKind → List ℕ → Lexeme
tok k w = record { kind = k; text = w }

-- `%name =` stands next
abbrev pub result_next : List Lexeme → Bool
result_next ts = next_in (mark_then Local (any_of Equal) ∷ []) ts

-- an instruction that is read, and what is left
abbrev pub Found : Type 0
Found = Option (InstTree × List Lexeme)

-- what is read behind `%name =`, with that name
abbrev pub named_so : (w v : List ℕ) → Found → Found
named_so w v r = r >>= λ y. with_result (w, (v, y.0)) >>= λ b. Some (b, y.1)

-- what is read where no name is written
abbrev pub plainly : Found → Found
plainly r = r >>= λ x. Some (without_result x.0, x.1)

-- the name of a result, where it has one
abbrev pub result_seen : Scope → Option ValueId → Option Name
result_seen s r = option_map (name_seen s) r
