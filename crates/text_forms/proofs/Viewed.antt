-- The tokens of the code, counted as tokens of a grammar.
use Rattle.std.proofs.Common.{◌≡◌, ℕ, false, List, length, ◌≤◌, ◌<◌, Some, arith}
use Rattle.std.proofs.lemmas.List.{length-map}
use Rattle.text_forms.specs.declared.Token.{Token}
use Rattle.text_forms.specs.Form.{Form}
use Rattle.text_forms.specs.View.{lexemes}
use Rattle.text_forms.specs.Reading.{nullable, read}
use Rattle.text_forms.proofs.Many.{shorter}

pub count_viewed : (text : List ℕ) (ts : List Token) → length (lexemes text ts) ≡ length ts
count_viewed text ts = simp length-map

pub viewed : (text : List ℕ) (ts : List Token) (d : ℕ) → length ts ≤ d → length (lexemes text ts) ≤ d
viewed text ts d le = let e = count_viewed text ts in omega (arith, e)

-- what is read takes a token
pub takes : {A : Type 0} (f : Form A) (a : A) (text : List ℕ) (ts us : List Token) → nullable f ≡ false → read f (lexemes text ts) ≡ Some (a, lexemes text us) → length us < length ts
takes f a text ts us n e =
    let lt = shorter f (lexemes text ts) (a, lexemes text us) n e in
    omega (arith, lt, count_viewed text ts, count_viewed text us)
