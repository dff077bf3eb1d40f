-- Types nested to any depth, as their nodes in prefix order.
use Rattle.std.specs.Prelude.{◌≡◌, ℕ, zero, suc, Bool, true, false, List, [], ◌∷◌, ◌++◌}
use Rattle.text_forms.specs.declared.TokenKind.TheVariants.{Comma, RightBracket, LeftBrace, RightBrace, Less, Greater}
use Rattle.text_forms.specs.declared.Around.{Around}
use Rattle.text_forms.specs.declared.Around.TheVariants.{InArray, InStruct}
use Rattle.text_forms.specs.Form.{Lexeme, Form, ahead, pair, either, mapped, many, Spells}
pub use Rattle.text_forms.specs.Gives.{mark}
use Rattle.text_forms.specs.Reading.{Terminal, any_of, mark_then, nullable, first, after, decides, all_apart}

-- what a language chooses: its nodes N are such that the list of a type's nodes determines the type
pub record TypeParts (N : Type 0) : Type 1 where
  -- a type in which no other stands
  pub leaf : Form (List N)
  -- an array up to the type of its elements, behind which a right bracket stands
  pub array_head : Form (List N)
  -- a struct begins, packed or not
  pub opening : Bool → N
  -- a struct ends
  pub closing : N

-- the lists one behind the other
abbrev pub concat : {A : Type 0} → List (List A) → List A
concat [] = []
concat (x ∷ xs) = x ++ concat xs

-- a form behind a comma
abbrev pub comma_then : {A : Type 0} → Form A → Form A
comma_then f = mapped (λ x. x.1) (pair (mark Comma) f)

-- the nodes of one behind those of the other
abbrev pub joined : {N : Type 0} → Form (List N) → Form (List N) → Form (List N)
joined f g = mapped (λ x. x.0 ++ x.1) (pair f g)

-- `{`, or where it is packed `<` behind which `{` stands, as a leaf may begin with `<` too
abbrev pub struct_head : {N : Type 0} → TypeParts N → Bool → Form (List N)
struct_head l true = mapped (λ _. l.opening true ∷ []) (ahead Less (mark LeftBrace))
struct_head l false = mapped (λ _. l.opening false ∷ []) (mark LeftBrace)

-- `}`, or `}>` where it is packed
abbrev pub struct_end : {N : Type 0} → TypeParts N → Bool → Form (List N)
struct_end l true = mapped (λ _. l.closing ∷ []) (pair (mark RightBrace) (mark Greater))
struct_end l false = mapped (λ _. l.closing ∷ []) (mark RightBrace)

-- what is behind a type inside of this, where the other types in it are of this form
abbrev pub remainder : {N : Type 0} → TypeParts N → Form (List N) → Around → Form (List N)
remainder l m InArray = mapped (λ _. []) (mark RightBracket)
remainder l m (InStruct p) = joined (mapped concat (many (comma_then m))) (struct_end l p)

-- a struct, packed or not, whose types are of this form
abbrev pub struct_of : {N : Type 0} → TypeParts N → Bool → Form (List N) → Form (List N)
struct_of l p m = joined (struct_head l p) (either (struct_end l p) (joined m (remainder l m (InStruct p))))

-- an array whose type is of this form
abbrev pub array_of : {N : Type 0} → TypeParts N → Form (List N) → Form (List N)
array_of l m = joined l.array_head (joined m (remainder l m InArray))

-- a leaf, or an array or a struct of such types
abbrev pub one_deeper : {N : Type 0} → TypeParts N → Form (List N) → Form (List N)
one_deeper l m = either l.leaf (either (array_of l m) (either (struct_of l false m) (struct_of l true m)))

-- nested at most so deep
abbrev pub memory : {N : Type 0} → TypeParts N → ℕ → Form (List N)
memory l zero = l.leaf
memory l (suc d) = one_deeper l (memory l d)

-- by these tokens a type is spelled
abbrev pub SpellsMemory : {N : Type 0} → TypeParts N → List N → List Lexeme → Type 0
SpellsMemory l a ts = (d : ℕ) × Spells (memory l d) a ts

-- the tokens with which a struct begins
abbrev pub struct_begins : List Terminal
struct_begins = any_of LeftBrace ∷ mark_then Less (any_of LeftBrace) ∷ []

-- and that with which it ends
abbrev pub struct_ends : List Terminal
struct_ends = any_of RightBrace ∷ []

-- One token ahead decides in the parts, and between them.
pub record PartsDecide {N : Type 0} (l : TypeParts N) : Type 0 where
  pub leaf_decides : decides l.leaf ≡ true
  pub leaf_takes : nullable l.leaf ≡ false
  pub leaf_ends : after l.leaf ≡ []
  pub array_decides : decides l.array_head ≡ true
  pub array_takes : nullable l.array_head ≡ false
  pub array_ends : after l.array_head ≡ []
  pub leaf_apart : all_apart (first l.leaf) (first l.array_head ++ struct_begins) ≡ true
  pub array_apart : all_apart (first l.array_head) struct_begins ≡ true
  pub end_apart : all_apart struct_ends (first l.leaf ++ (first l.array_head ++ struct_begins)) ≡ true
