-- What holds of every value that a form spells by tokens of a text.
use Rattle.std.proofs.Common.{◌≡◌, ◌<◌, ℕ, Bool, true, List, [], ◌∷◌, ◌++◌, length, map, Option, Some, None, subst, sym, ap, ◌∙◌, arith, inl, inr}
use Rattle.std.specs.List.{AllByRecursion}
use Rattle.text_forms.specs.declared.TokenKind.{TokenKind}
use Rattle.text_forms.specs.declared.TokenKind.TheVariants.{Comma, Word}
use Rattle.text_forms.specs.Form.{Lexeme, Form, Spells, texts, exactly, one, ahead, pair, either, mapped, made, optional, many, by_word}
use Rattle.text_forms.specs.Gives.{mark}
use Rattle.text_forms.specs.Reading.{for_all}
use Rattle.text_forms.proofs.Parts.{for_entry}
use Rattle.text_lex.specs.KeptText.{token_of, IsToken, AreLexed}
use Rattle.text_lex.proofs.Lexed.{lexed_split, tokens_again, lexed_are_tokens}
use Rattle.kept_runs.specs.Verbatim.{Verbatim}
use Rattle.ir_types.specs.Tree.{KeptTexts}
use Rattle.text_forms.specs.Combined.{word, behind, after_mark, between, marked, some, commas, list, or_none}
use Rattle.ir_shape.specs.Shape.{IsKept}

pub record Sure {A : Type 0} (f : Form A) (P : A → Type 0) : Type 0 where
  pub known : (a : A) (ts : List Lexeme) → AreLexed ts → Spells f a ts → P a

-- the tokens of a part
front : (ts x y : List Lexeme) → ts ≡ x ++ y → AreLexed ts → AreLexed x
front ts x y e l = (lexed_split x y (subst AreLexed e l)).0

rest : (ts x y : List Lexeme) → ts ≡ x ++ y → AreLexed ts → AreLexed y
rest ts x y e l = (lexed_split x y (subst AreLexed e l)).1

behind_one : (t : Lexeme) (ts us : List Lexeme) → ts ≡ t ∷ us → AreLexed ts → AreLexed us
behind_one t ts us e l = (subst AreLexed e l).1

-- something is known of every value where nothing is said
pub any_sure : {A : Type 0} {f : Form A} → Sure f (λ a. Unit {0})
any_sure = record { known = λ a ts l h. tt }

-- of one token nothing is known
pub one_sure : (k : TokenKind) → Sure (one k) (λ s. Unit {0})
one_sure k = record { known = λ a ts l h. tt }

-- nor of a mark
pub mark_sure : (k : TokenKind) → Sure (mark k) (λ u. Unit {0})
mark_sure k = record { known = λ a ts l h. tt }

-- nor of a given token
pub exactly_sure : (k : TokenKind) (w : List ℕ) → Sure (exactly k w) (λ u. Unit {0})
exactly_sure k w = record { known = λ a ts l h. tt }

-- of a pair, what is known of each
pub pair_sure : {A B : Type 0} {P : A → Type 0} {Q : B → Type 0} {f : Form A} {g : Form B} → Sure f P → Sure g Q → Sure (pair f g) (λ x. P x.0 × Q x.1)
pair_sure p q = record { known = λ a ts l h. (p.known a.0 h.0 (front ts h.0 h.1 h.2 l) h.3, q.known a.1 h.1 (rest ts h.0 h.1 h.2 l) h.4) }

-- of either, what is known of both
pub either_sure : {A : Type 0} {P : A → Type 0} {f g : Form A} → Sure f P → Sure g P → Sure (either f g) P
either_sure p q = record { known = λ a ts l h. elim h [ inl x ↦ p.known a ts l x | inr x ↦ q.known a ts l x ] }

-- of what is mapped, what the function makes of it
pub mapped_sure : {A B : Type 0} {P : A → Type 0} {Q : B → Type 0} {m : A → B} {f : Form A} → Sure f P → ((a : A) → P a → Q (m a)) → Sure (mapped m f) Q
mapped_sure {A} {B} {P} {Q} p q = record { known = λ b ts l h. subst Q h.1 (q h.0 (p.known h.0 ts l h.2)) }

-- and where the function may refuse
pub made_sure : {A B : Type 0} {P : A → Type 0} {Q : B → Type 0} {m : A → Option B} {f : Form A} → Sure f P → ((a : A) (b : B) → P a → m a ≡ Some b → Q b) → Sure (made m f) Q
made_sure p q = record { known = λ b ts l h. q h.0 b (p.known h.0 ts l h.2) h.1 }

-- a word's value
pub word_sure : {A : Type 0} {P : A → Type 0} (w : List ℕ) (a : A) → P a → Sure (word w a) P
word_sure {A} {P} w a p = record { known = λ b ts l h. subst P h.1 p }

-- behind a token that is kept, what is known of the rest
pub ahead_sure : {A : Type 0} {P : A → Type 0} {f : Form A} (k : TokenKind) → Sure f P → Sure (ahead k f) (λ x. P x.1)
ahead_sure k p = record { known = λ a ts l h. p.known a.1 h.0 (behind_one _ ts h.0 h.1 l) h.2 }

abbrev pub IsThere : {A : Type 0} → (A → Type 0) → Option A → Type 0
IsThere P None = Unit {0}
IsThere P (Some a) = P a

if_there : {A : Type 0} {P : A → Type 0} {f : Form A} → Sure f P → (o : Option A) (ts : List Lexeme) → AreLexed ts → Spells (optional f) o ts → IsThere P o
if_there p None ts l h = tt
if_there p (Some a) ts l h = p.known a ts l h

-- of what may be absent, what is known of it where it is there
pub optional_sure : {A : Type 0} {P : A → Type 0} {f : Form A} → Sure f P → Sure (optional f) (IsThere P)
optional_sure p = record { known = if_there p }

-- of a choice by a word, what is known of each
pub by_word_sure : {K A : Type 0} {P : A → Type 0} {table : List (List ℕ × K)} {f : K → Form A} → ((k : K) → Sure (f k) P) → Sure (by_word table f) P
by_word_sure p = record { known = λ a ts l h. (p h.1).known a h.2 (behind_one _ ts h.2 h.3 l) h.5 }

-- the same of a table all of whose entries pass a test
pub by_test_sure : {K A : Type 0} {P : A → Type 0} {table : List (List ℕ × K)} {f : K → Form A} (passes : K → Bool) → for_all table passes ≡ true → ((k : K) → passes k ≡ true → Sure (f k) P) → Sure (by_word table f) P
by_test_sure {table = table} passes all p = record { known = λ a ts l h. (p h.1 (for_entry table passes h.0 h.1 h.4 all)).known a h.2 (behind_one _ ts h.2 h.3 l) h.5 }

in_order : {A : Type 0} {P : A → Type 0} {f : Form A} → Sure f P → (items : List A) (ts : List Lexeme) → AreLexed ts → Spells (many f) items ts → AllByRecursion P items
in_order p [] ts l h = tt
in_order p (a ∷ more) ts l h = (p.known a h.0 (front ts h.0 h.1 h.2 l) h.3, in_order p more h.1 (rest ts h.0 h.1 h.2 l) h.4)

-- of many, what is known of each
pub many_sure : {A : Type 0} {P : A → Type 0} {f : Form A} → Sure f P → Sure (many f) (AllByRecursion P)
many_sure p = record { known = in_order p }

-- ---- the forms of the grammar

-- behind a word, what is known of the rest
pub behind_sure : {A : Type 0} {P : A → Type 0} {f : Form A} (w : List ℕ) → Sure f P → Sure (behind w f) P
behind_sure {A} {P} w p = mapped_sure {Q = P} (pair_sure (exactly_sure Word w) p) (λ x h. h.1)

-- and behind a mark
pub after_mark_sure : {A : Type 0} {P : A → Type 0} {f : Form A} (k : TokenKind) → Sure f P → Sure (after_mark k f) P
after_mark_sure {A} {P} k p = mapped_sure {Q = P} (pair_sure (mark_sure k) p) (λ x h. h.1)

-- and between two marks
pub between_sure : {A : Type 0} {P : A → Type 0} {f : Form A} (o c : TokenKind) → Sure f P → Sure (between o c f) P
between_sure {A} {P} o c p = mapped_sure {Q = P} (pair_sure (mark_sure o) (pair_sure p (mark_sure c))) (λ x h. h.1.0)

-- and behind a mark that is read with it
pub marked_sure : {A : Type 0} {P : A → Type 0} {f : Form A} (k : TokenKind) → Sure f P → Sure (marked k f) P
marked_sure {A} {P} k p = mapped_sure {Q = P} (ahead_sure k p) (λ x h. h)

-- at least one, each of which is so
abbrev pub Filled : {A : Type 0} → (A → Type 0) → List A → Type 0
Filled P xs = (0 < length xs) × AllByRecursion P xs

filled : {A : Type 0} (P : A → Type 0) (a : A) (more : List A) → P a → AllByRecursion P more → Filled P (a ∷ more)
filled P a more p q = (omega arith, (p, q))

-- of one or more, what is known of each
pub some_sure : {A : Type 0} {P : A → Type 0} {f : Form A} → Sure f P → Sure (some f) (Filled P)
some_sure {A} {P} p = mapped_sure {Q = Filled P} (pair_sure p (many_sure p)) (λ x h. filled P x.0 x.1 h.0 h.1)

-- and of one or more with commas between them
pub commas_sure : {A : Type 0} {P : A → Type 0} {f : Form A} → Sure f P → Sure (commas f) (Filled P)
commas_sure {A} {P} p = mapped_sure {Q = Filled P} (pair_sure p (many_sure (marked_sure Comma p))) (λ x h. filled P x.0 x.1 h.0 h.1)

all_or_none : {A : Type 0} (P : A → Type 0) (o : Option (List A)) → IsThere (Filled P) o → AllByRecursion P (or_none o)
all_or_none P None h = tt
all_or_none P (Some xs) h = h.1

-- and of a list with commas, which may be empty
pub list_sure : {A : Type 0} {P : A → Type 0} {f : Form A} → Sure f P → Sure (list f) (AllByRecursion P)
list_sure {A} {P} p = mapped_sure {Q = AllByRecursion P} (optional_sure (commas_sure p)) (all_or_none P)

-- ---- what is kept

-- by the same tokens it is spelled again
kept_again : (f : Form KeptTexts) (a : KeptTexts) (ts : List Lexeme) → AreLexed ts → a ≡ texts ts → Spells f a ts → IsKept f a
kept_again f a ts l e h = record {
  spelled = subst (λ (us : List Lexeme). Spells f a us) (sym (ap (map token_of) e ∙ tokens_again ts l)) h;
  tokens = subst (AllByRecursion IsToken) (sym e) (lexed_are_tokens ts l);
}

-- what a verbatim form reads may be kept at its place
pub kept_sure : {f : Form KeptTexts} → Verbatim f → Sure f (IsKept f)
kept_sure {f} v = record { known = λ a ts l h. kept_again f a ts l (v.says a ts l h) h }
