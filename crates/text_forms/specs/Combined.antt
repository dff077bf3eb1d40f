-- Forms that are used in many places.
use Rattle.std.specs.Prelude.{ℕ, List, [], ◌∷◌, Option, Some, None}
use Rattle.text_forms.specs.declared.TokenKind.{TokenKind}
use Rattle.text_forms.specs.declared.TokenKind.TheVariants.{Word, Comma}
use Rattle.text_forms.specs.Form.{Form, exactly, ahead, pair, mapped, optional, many}
use Rattle.text_forms.specs.Gives.{mark}

-- a word that stands for a value
abbrev pub word : {A : Type 0} → List ℕ → A → Form A
word w a = mapped (λ _. a) (exactly Word w)

-- a form behind a word
abbrev pub behind : {A : Type 0} → List ℕ → Form A → Form A
behind w f = mapped (λ x. x.1) (pair (exactly Word w) f)

-- a form behind a mark
abbrev pub after_mark : {A : Type 0} → TokenKind → Form A → Form A
after_mark k f = mapped (λ x. x.1) (pair (mark k) f)

-- a form between two marks
abbrev pub between : {A : Type 0} → TokenKind → TokenKind → Form A → Form A
between o c f = mapped (λ x. x.1.0) (pair (mark o) (pair f (mark c)))

-- a form behind a mark, which is read only where the form's beginning stands behind the mark
abbrev pub marked : {A : Type 0} → TokenKind → Form A → Form A
marked k f = mapped (λ x. x.1) (ahead k f)

-- at least one
abbrev pub some : {A : Type 0} → Form A → Form (List A)
some f = mapped (λ x. x.0 ∷ x.1) (pair f (many f))

-- at least one, parted by commas behind each of which another stands
abbrev pub commas : {A : Type 0} → Form A → Form (List A)
commas f = mapped (λ x. x.0 ∷ x.1) (pair f (many (marked Comma f)))

-- the list where there is one, and else the empty one
abbrev pub or_none : {A : Type 0} → Option (List A) → List A
or_none None = []
or_none (Some xs) = xs

-- parted by commas, or none
abbrev pub list : {A : Type 0} → Form A → Form (List A)
list f = mapped or_none (optional (commas f))
