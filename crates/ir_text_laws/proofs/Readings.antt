-- A text reads as at most one tree.
use Rattle.std.proofs.Common.{◌≡◌, ℕ, List, Some, None, sym, ap, ◌∙◌, subst}
use Rattle.text_forms.specs.Form.{Lexeme}
use Rattle.text_forms.specs.Lexical.{StopsAt, Lexes}
use Rattle.text_forms.proofs.Exact.{some_is}
use Rattle.text_lex.proofs.Unique.{lexes_unique, stops_lexes}
use Rattle.ir_types.specs.ItemForms.{SpellsModule}
use Rattle.ir_types.specs.Numbered.{numbered_module}
use Rattle.ir_types.specs.Collected.{collected}
use Rattle.ir_types.specs.Reads.{Reads}
use Rattle.ir_types.specs.Tree.{FunctionTree, WrittenFunction, Item, ModuleTree}
use Rattle.ir_types.proofs.Skimming.{one_spelling}

same_numbered : (w v : List (Item WrittenFunction)) (a b : List (Item FunctionTree)) → w ≡ v → numbered_module w ≡ Some a → numbered_module v ≡ Some b → a ≡ b
same_numbered w v a b e p q = some_is a b (sym p ∙ ap numbered_module e ∙ q)

-- things without a name take the same numbers
pub one_numbering : (text : List ℕ) (t u : ModuleTree) (a : Reads text t) (b : Reads text u) → a.numbered ≡ b.numbered
one_numbering text t u a b =
    let ts = lexes_unique text a.tokens b.tokens a.lexes b.lexes in
    let spelled : SpellsModule b.written a.tokens = subst (λ (us : List Lexeme). SpellsModule b.written us) (sym ts) b.spelled in
    let written = one_spelling a.written b.written a.tokens a.spelled spelled in
    same_numbered a.written b.written a.numbered b.numbered written a.numbers b.numbers

-- a text reads as at most one tree
pub one_reading : (text : List ℕ) (t u : ModuleTree) → Reads text t → Reads text u → t ≡ u
one_reading text t u a b = sym a.says ∙ ap collected (one_numbering text t u a b) ∙ b.says

-- the text's tokens are those that spell what it reads as
spelled_by : (text : List ℕ) (tokens : List Lexeme) (t : ModuleTree) → Lexes text tokens → (r : Reads text t) → SpellsModule r.written tokens
spelled_by text tokens t x r = subst (λ (us : List Lexeme). SpellsModule r.written us) (lexes_unique text r.tokens tokens r.lexes x) r.spelled

-- where its tokens spell no items, a text reads as none
pub unspelled : (text : List ℕ) (tokens : List Lexeme) (t : ModuleTree) → Lexes text tokens → ((written : List (Item WrittenFunction)) → SpellsModule written tokens → ⊥) → Reads text t → ⊥
unspelled text tokens t x none r = none r.written (spelled_by text tokens t x r)

-- and where a thing without a name finds no number
pub unnumbered : (text : List ℕ) (tokens : List Lexeme) (written : List (Item WrittenFunction)) (t : ModuleTree) → Lexes text tokens → SpellsModule written tokens → numbered_module written ≡ None → Reads text t → ⊥
unnumbered text tokens written t x s e r =
    let w = one_spelling written r.written tokens s (spelled_by text tokens t x r) in
    let n = sym e ∙ ap numbered_module w ∙ r.numbers in
    cc

-- and where no token begins at some place
pub stopped : (text : List ℕ) (place : ℕ) (t : ModuleTree) → StopsAt text place → Reads text t → ⊥
stopped text place t h r = stops_lexes text place r.tokens h r.lexes
