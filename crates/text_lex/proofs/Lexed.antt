-- The tokens of a text are of the kinds of their texts, so their texts give them back.
use Rattle.std.proofs.Common.{◌≡◌, ℕ, List, [], ◌∷◌, ◌++◌, Some, refl, ap}
use Rattle.std.specs.Prelude.{map}
use Rattle.std.specs.List.{AllByRecursion}
use Rattle.text_forms.specs.Form.{Lexeme, texts}
use Rattle.text_forms.specs.Lexical.{kind_of, LexesTo, here, space, comment, token}
use Rattle.text_lex.specs.KeptText.{token_of, IsToken, AreLexed}

pub lexes_lexed : {text rest : List ℕ} {ts : List Lexeme} → LexesTo text ts rest → AreLexed ts
lexes_lexed here = tt
lexes_lexed (space c e more) = lexes_lexed more
lexes_lexed (comment c e more) = lexes_lexed more
lexes_lexed (token kind word l more) = (l.token, lexes_lexed more)

token_again : (t : Lexeme) → kind_of t.text ≡ Some t.kind → token_of t.text ≡ t
unfolding token_of
token_again t e = rw e refl

pub tokens_again : (ts : List Lexeme) → AreLexed ts → map token_of (texts ts) ≡ ts
tokens_again [] h = refl
tokens_again (t ∷ ts) h = rw (token_again t h.0) (ap (λ (us : List Lexeme). t ∷ us) (tokens_again ts h.1))

pub lexed_are_tokens : (ts : List Lexeme) → AreLexed ts → AllByRecursion IsToken (texts ts)
lexed_are_tokens [] h = tt
lexed_are_tokens (t ∷ ts) h = ((t.kind, h.0), lexed_are_tokens ts h.1)

-- ---- parts of a list

pub each_split : {A : Type 0} (P : A → Type 0) (xs ys : List A) → AllByRecursion P (xs ++ ys) → AllByRecursion P xs × AllByRecursion P ys
each_split P [] ys h = (tt, h)
each_split P (x ∷ xs) ys h = let r = each_split P xs ys h.1 in ((h.0, r.0), r.1)

pub each_append : {A : Type 0} (P : A → Type 0) (xs ys : List A) → AllByRecursion P xs → AllByRecursion P ys → AllByRecursion P (xs ++ ys)
each_append P [] ys h g = g
each_append P (x ∷ xs) ys h g = (h.0, each_append P xs ys h.1 g)

pub lexed_split : (ts us : List Lexeme) → AreLexed (ts ++ us) → AreLexed ts × AreLexed us
lexed_split ts us h = each_split (λ t. kind_of t.text ≡ Some t.kind) ts us h

pub lexed_append : (ts us : List Lexeme) → AreLexed ts → AreLexed us → AreLexed (ts ++ us)
lexed_append ts us h g = each_append (λ t. kind_of t.text ≡ Some t.kind) ts us h g

pub are_tokens_split : (vs ws : List (List ℕ)) → AllByRecursion IsToken (vs ++ ws) → AllByRecursion IsToken vs × AllByRecursion IsToken ws
are_tokens_split vs ws h = each_split IsToken vs ws h

pub are_tokens_append : (vs ws : List (List ℕ)) → AllByRecursion IsToken vs → AllByRecursion IsToken ws → AllByRecursion IsToken (vs ++ ws)
are_tokens_append vs ws h g = each_append IsToken vs ws h g
