-- What a function keeps behind the texts that were kept before.
use Rattle.std.specs.Prelude.{ℕ, List, ◌∷◌, codes, Option, Result}
use Rattle.text_forms.specs.declared.TokenKind.TheVariants.{Word}
use Rattle.text_forms.specs.declared.cursor.Cursor.{Cursor}
use Rattle.text_forms.specs.declared.cursor.SyntaxFault.{SyntaxFault}
use Rattle.text_forms.specs.Form.{Lexeme, Form, mapped, either}
use Rattle.text_forms.specs.Gives.{Gives, left}
use Rattle.text_forms.specs.Kept.{perhaps, kept_token}
use Rattle.text_forms.specs.Machine.{behind}
use Rattle.ir_types.specs.Tree.{KeptTexts}

-- the texts are those of before, and behind them the ones that are read
abbrev pub KeepsBehind : (before after : KeptTexts) → Result Cursor SyntaxFault → Option (KeptTexts × List Lexeme) → Type 0
KeepsBehind before after result there = Gives (λ rest. (after, left rest)) result (behind before there)

-- the result is what is read, as it is
abbrev pub GivesPlainly : {X : Type 0} → Result (X × Cursor) SyntaxFault → Option (X × List Lexeme) → Type 0
GivesPlainly result there = Gives (λ x. (x.0, left x.1)) result there

-- what a form keeps, behind a word that stands before it
abbrev pub under : List ℕ → Form KeptTexts → Form KeptTexts
under w f = mapped (λ xs. w ∷ xs) f

-- datalayout | triple
abbrev pub subject : Form KeptTexts
subject = either (kept_token Word (codes "datalayout")) (kept_token Word (codes "triple"))

-- [ distinct ]
abbrev pub distinct_kept : Form KeptTexts
distinct_kept = perhaps (kept_token Word (codes "distinct"))
