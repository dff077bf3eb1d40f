-- Worked examples of nested types: words, names and vectors `< n x w >` as leaves, and arrays `[ n x ..`.
use Rattle.std.proofs.Common.{◌≡◌, ℕ, true, false, Bool, List, [], ◌∷◌, Some, None, refl}
use Rattle.text_forms.specs.declared.TokenKind.{TokenKind}
use Rattle.text_forms.specs.declared.TokenKind.TheVariants.{Local, Word, Number, Comma, LeftBracket, RightBracket, LeftBrace, RightBrace, Less, Greater}
use Rattle.text_forms.specs.Form.{Lexeme, exactly, one, ahead, pair, either, mapped}
use Rattle.text_forms.specs.Reading.{decides, read}
use Rattle.text_forms.specs.Nested.{TypeParts, PartsDecide, mark, memory}
use Rattle.text_forms.proofs.NestedDecides.{memory_decides}

data Node : Type 0 where
  plain : List ℕ → Node
  named : List ℕ → Node
  vector : List ℕ → List ℕ → Node
  array : List ℕ → Node
  begin : Bool → Node
  close : Node

unfoldable parts : TypeParts Node
parts = record {
  leaf =
      either (mapped (λ w. plain w ∷ []) (one Word))
      (either (mapped (λ w. named w ∷ []) (one Local))
      (mapped (λ x. vector x.1.0 x.1.1.1.0 ∷ []) (ahead Less (pair (one Number) (pair (exactly Word (120 ∷ [])) (pair (one Word) (mark Greater)))))));
  array_head = mapped (λ x. array x.1.0 ∷ []) (pair (mark LeftBracket) (pair (one Number) (exactly Word (120 ∷ []))));
  opening = begin;
  closing = close;
}

facts : PartsDecide parts
unfolding parts
facts = record { leaf_decides = refl; leaf_takes = refl; leaf_ends = refl; array_decides = refl; array_takes = refl; array_ends = refl; leaf_apart = refl; array_apart = refl; end_apart = refl }

at_each_depth : (d : ℕ) → decides (memory parts d) ≡ true
at_each_depth d = memory_decides parts facts d

abbrev tok : TokenKind → ℕ → Lexeme
tok k n = record { kind = k; text = n ∷ [] }

-- [ 2 x { i, { } } ] ,
example : read (memory parts 11) (tok LeftBracket 0 ∷ tok Number 50 ∷ tok Word 120 ∷ tok LeftBrace 0 ∷ tok Word 7 ∷ tok Comma 0 ∷ tok LeftBrace 0 ∷ tok RightBrace 0 ∷ tok RightBrace 0 ∷ tok RightBracket 0 ∷ tok Comma 0 ∷ [])
    ≡ Some (array (50 ∷ []) ∷ begin false ∷ plain (7 ∷ []) ∷ begin false ∷ close ∷ close ∷ [], tok Comma 0 ∷ [])
unfolding parts
example = refl

-- <{ <4 x w>, { } }> ,
beside_vectors : read (memory parts 14) (tok Less 0 ∷ tok LeftBrace 0 ∷ tok Less 0 ∷ tok Number 52 ∷ tok Word 120 ∷ tok Word 7 ∷ tok Greater 0 ∷ tok Comma 0 ∷ tok LeftBrace 0 ∷ tok RightBrace 0 ∷ tok RightBrace 0 ∷ tok Greater 0 ∷ tok Comma 0 ∷ [])
    ≡ Some (begin true ∷ vector (52 ∷ []) (7 ∷ []) ∷ begin false ∷ close ∷ close ∷ [], tok Comma 0 ∷ [])
unfolding parts
beside_vectors = refl

-- <{ }>
empty_packed : read (memory parts 4) (tok Less 0 ∷ tok LeftBrace 0 ∷ tok RightBrace 0 ∷ tok Greater 0 ∷ []) ≡ Some (begin true ∷ close ∷ [], [])
unfolding parts
empty_packed = refl

-- <4 x w> and nothing around it
vector_alone : read (memory parts 5) (tok Less 0 ∷ tok Number 52 ∷ tok Word 120 ∷ tok Word 7 ∷ tok Greater 0 ∷ []) ≡ Some (vector (52 ∷ []) (7 ∷ []) ∷ [], [])
unfolding parts
vector_alone = refl

-- `<` and neither a number nor `{`
neither : read (memory parts 2) (tok Less 0 ∷ tok Word 7 ∷ []) ≡ None
unfolding parts
neither = refl
