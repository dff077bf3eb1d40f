-- Which faults a text has.
use Rattle.std.specs.Prelude.{◌≡◌, ◌≤◌, ◌<◌, ℕ, List, [], length, slice_get, Some}
use Rattle.text_forms.specs.declared.Token.{Token}
use Rattle.text_forms.specs.Form.{Lexeme}
use Rattle.text_forms.specs.LeftOut.{FirstLeftOut, NoneLeftOut}
use Rattle.text_forms.specs.Lexical.{Lexes, Places, StopsAt}
use Rattle.text_forms.specs.View.{lexeme_in, lexemes}
use Rattle.text_lex.specs.declared.TheConstants.{TEXT_LIMIT}
use Rattle.text_lex.specs.declared.fault.TextFault.{TextFault}
use Rattle.text_lex.specs.declared.fault.TextFault.TheVariants.{BadToken, LeftOut, TextLimit, NoReading, CountLimit, Memory}

-- the text has tokens, and this word, which starts here, is the first of them that is left out
pub record IsLeftOutAt (text word : List ℕ) (offset : ℕ) : Type 0 where
  pub tokens : List Token
  pub lexed : Lexes text (lexemes text tokens)
  pub placed : Places (length text) text tokens []
  pub place : ℕ
  pub first : FirstLeftOut (lexemes text tokens) place
  pub token : Token
  pub found : slice_get tokens place ≡ Some token
  pub starts : token.start ≡ offset
  pub spelled : (lexeme_in text token).text ≡ word

-- the text has tokens, and none of them is left out
pub record HasNoneLeftOut (text : List ℕ) : Type 0 where
  pub tokens : List Lexeme
  pub lexed : Lexes text tokens
  pub none : NoneLeftOut tokens

-- the fault is one of the text: more bytes than the limit, the first place where no token begins, or the first token that is left out; that
-- nothing is read, or that a module is too large, is no fault that finding the tokens has
abbrev pub IsFaultOf : List ℕ → TextFault → Type 0
IsFaultOf text (BadToken place) = (length text ≤ TEXT_LIMIT) × StopsAt text place
IsFaultOf text (LeftOut word offset) = (length text ≤ TEXT_LIMIT) × IsLeftOutAt text word offset
IsFaultOf text (TextLimit size) = (size ≡ length text) × (TEXT_LIMIT < length text)
IsFaultOf text (NoReading place) = ⊥
IsFaultOf text (CountLimit count n) = ⊥
IsFaultOf text Memory = Unit {0}
