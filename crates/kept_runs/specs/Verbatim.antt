-- Forms whose value is what stands in the text.
use Rattle.std.specs.Prelude.{◌≡◌, ℕ, List}
use Rattle.text_forms.specs.Form.{Lexeme, Form, Spells, texts}
pub use Rattle.text_forms.specs.Lexical.{AreLexed}

-- by this form tokens spell nothing but their texts
pub record Verbatim (f : Form (List (List ℕ))) : Type 0 where
  pub says : (kept : List (List ℕ)) (ts : List Lexeme) → AreLexed ts → Spells f kept ts → kept ≡ texts ts
