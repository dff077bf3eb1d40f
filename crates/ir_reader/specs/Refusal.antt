-- Why a text is not read.
use Rattle.std.specs.Prelude.{◌≡◌, ◌≤◌, ◌<◌, ◌⊎◌, ℕ, List, [], length}
use Rattle.std.specs.Prelude.{slice_get, Some, None}
use Rattle.text_forms.specs.declared.Token.{Token}
use Rattle.text_forms.specs.LeftOut.{NoneLeftOut}
use Rattle.text_forms.specs.Lexical.{Lexes, Places, StopsAt}
use Rattle.text_forms.specs.View.{lexemes}
use Rattle.text_lex.specs.declared.TheConstants.{TEXT_LIMIT}
use Rattle.text_lex.specs.declared.fault.TextFault.{TextFault}
use Rattle.text_lex.specs.declared.fault.TextFault.TheVariants.{BadToken, LeftOut, TextLimit, NoReading, CountLimit, Memory}
use Rattle.text_lex.specs.declared.fault.Count.{Count}
use Rattle.text_lex.specs.Fault.{IsLeftOutAt, HasNoneLeftOut}
use Rattle.ir_types.specs.Tree.{ModuleTree}
use Rattle.ir_types.specs.Reads.{Reads}
use Rattle.ir_limits.specs.Limits.{limit_passed}

-- the text reads as the tree, and its items, as they stand in the text, pass no limit
pub record IsWithinLimits (text : List ℕ) (tree : ModuleTree) : Type 0 where
  pub reads : Reads text tree
  pub within : limit_passed reads.numbered ≡ None

-- the text reads as a tree, and so much of this is counted there, which is above the first limit that the tree passes
pub record PassesLimit (text : List ℕ) (count : Count) (n : ℕ) : Type 0 where
  pub read_as : ModuleTree
  pub reads : Reads text read_as
  pub passed : limit_passed reads.numbered ≡ Some (count, n)

-- the text reads as no tree
abbrev pub HasNoReading : List ℕ → Type 0
HasNoReading text = (tree : ModuleTree) → Reads text tree → ⊥

-- one of the tokens starts at this place
abbrev pub StartsAt : List Token → ℕ → Type 0
StartsAt tokens place = (i : ℕ) × (t : Token) × (slice_get tokens i ≡ Some t) × (t.start ≡ place)

-- the text has tokens, none of which is left out, and the place is a token's start or the text's length
pub record IsStop (text : List ℕ) (place : ℕ) : Type 0 where
  pub tokens : List Token
  pub placed : Places (length text) text tokens []
  pub lexed : Lexes text (lexemes text tokens)
  pub none_left_out : NoneLeftOut (lexemes text tokens)
  pub here : StartsAt tokens place ⊎ (place ≡ length text)

-- a text has more bytes than the limit, no token at a place, or one that is left out; or it has none of these, and reads as no tree, or
-- as one that passes a limit
abbrev pub IsRefusal : List ℕ → TextFault → Type 0
IsRefusal text (BadToken place) = (length text ≤ TEXT_LIMIT) × StopsAt text place
IsRefusal text (LeftOut word offset) = (length text ≤ TEXT_LIMIT) × IsLeftOutAt text word offset
IsRefusal text (TextLimit size) = (size ≡ length text) × (TEXT_LIMIT < length text)
IsRefusal text (NoReading n) = (length text ≤ TEXT_LIMIT) × HasNoReading text × IsStop text n
IsRefusal text (CountLimit count n) = (length text ≤ TEXT_LIMIT) × HasNoneLeftOut text × PassesLimit text count n
IsRefusal text Memory = Unit {0}
