-- A memory type in an instruction is read as any memory type.
use Rattle.std.proofs.Common.{◌≡◌, ℕ, ◌≤◌, true, List, [], ◌∷◌, ◌++◌, length, codes, Some, refl, sym, ap, ◌∙◌, subst, length-append, arith, inl, inr}
use Rattle.std.proofs.lemmas.List.{append-nil}
use Rattle.text_forms.specs.declared.TokenKind.TheVariants.{Word, Number, Less, Greater}
use Rattle.text_forms.specs.Form.{Lexeme, is_one_of, one, exactly, pair, made, Spells}
use Rattle.text_forms.specs.Reading.{◌>>=◌, read}
use Rattle.text_forms.specs.Nested.{SpellsMemory}
use Rattle.text_forms.proofs.Balanced.{balanced}
use Rattle.text_forms.proofs.Between.{same_values}
use Rattle.text_forms.proofs.Complete.{complete}
use Rattle.text_forms.proofs.Exact.{read_spells}
use Rattle.text_forms.proofs.Begins.{nothing_next}
use Rattle.text_forms.proofs.Nested.{memory_read, memory_spelled}
use Rattle.text_forms.proofs.NestedDecides.{memory_decides}
use Rattle.text_forms.proofs.NestedTokens.{enclosed_is, BeginsArray, memory_tokens}
use Rattle.text_forms.proofs.Parts.{lexeme}
use Rattle.text_forms.proofs.Sound.{sound, bind_some}
use Rattle.ir_types.specs.declared.inst.Ty.{Ty}
use Rattle.ir_types.specs.TypeNodes.{TypeNode}
use Rattle.text_forms.specs.Combined.{behind}
use Rattle.ir_types.specs.TypeForms.{width, vector_type, value_type, local_name, elements_of, memory_leaf, array_begin, type_parts, memory_type, type_words, type_tokens, type_spelled, inst_memory}
use Rattle.ir_types.proofs.Balanced.{leaf_stack, array_stack}
use Rattle.ir_types.proofs.Decides.{parts_decide}

-- ---- the tokens of a memory type

-- such tokens stand for themselves
themselves : (a ts : List Lexeme) → Spells type_tokens a ts → a ≡ ts
themselves a ts (inl s) = sym s.1 ∙ sym s.2.0
themselves a ts (inr (inl s)) = sym s.1 ∙ sym s.2
themselves a ts (inr (inr (inl s))) = s.5
themselves a ts (inr (inr (inr (inl s)))) = s.5
themselves a ts (inr (inr (inr (inr s)))) = s.5

word_is : (w : List ℕ) (ts : List Lexeme) → ts ≡ lexeme Word w ∷ [] → is_one_of type_words w ≡ true → Spells type_tokens ts ts
word_is w ts e p = inl (w, sym e, (e, p))

width_is : (n : ℕ) (ts : List Lexeme) → Spells width n ts → Spells type_tokens ts ts
unfolding width type_words
width_is n ts (inl s) = word_is (codes "i1") ts s.2 refl
width_is n ts (inr (inl s)) = word_is (codes "i8") ts s.2 refl
width_is n ts (inr (inr (inl s))) = word_is (codes "i16") ts s.2 refl
width_is n ts (inr (inr (inr (inl s)))) = word_is (codes "i32") ts s.2 refl
width_is n ts (inr (inr (inr (inr s)))) = word_is (codes "i64") ts s.2 refl

vector_is : (t : Ty) (ts : List Lexeme) → Spells vector_type t ts → Spells type_tokens ts ts
unfolding vector_type width
vector_is t ts s =
    let p = s.2.2 in
    let b = p.2.2 in
    let end = b.4 in
    let inner = balanced (pair (one Number) (behind (codes "x") width)) refl p.2.0.0 b.0 b.3 in
    inr (inr (inr (inr (enclosed_is Less Greater s.2.0.0 end.0 b.0 ts (p.1 ∙ ap (λ (w : List Lexeme). lexeme Less s.2.0.0 ∷ w) (b.2 ∙ ap (λ (w : List Lexeme). b.0 ++ w) end.2)) inner))))

value_is : (t : Ty) (ts : List Lexeme) → Spells value_type t ts → Spells type_tokens ts ts
unfolding value_type type_words
value_is t ts (inl s) = width_is s.0 ts s.2
value_is t ts (inr (inl s)) = word_is (codes "ptr") ts s.2 refl
value_is t ts (inr (inr s)) = vector_is t ts s

leaf_is : (nodes : List TypeNode) (ts : List Lexeme) → Spells memory_leaf nodes ts → Spells type_tokens ts ts
unfolding memory_leaf local_name
leaf_is nodes ts (inl s) = value_is s.0 ts s.2
leaf_is nodes ts (inr s) = let n = s.2 in inr (inl (n.0, sym n.2, n.2))

begins_array : BeginsArray type_parts
unfolding type_parts array_begin
begins_array nodes ts s =
    let p = s.2.2 in
    let mark = p.3 in
    let more = balanced (pair (made elements_of (one Number)) (exactly Word (codes "x"))) refl _ p.1 p.4 in
    (mark.0, p.1, p.2 ∙ ap (λ (w : List Lexeme). w ++ p.1) mark.2, more)

type_is : (d : ℕ) (nodes : List TypeNode) (ts : List Lexeme) → Spells (memory_type d) nodes ts → Spells type_tokens ts ts
unfolding type_parts
type_is d nodes ts s =
    elim (memory_tokens type_parts leaf_stack array_stack begins_array d nodes ts s) [ inl x ↦ leaf_is nodes ts x | inr y ↦ inr (inr y) ]

-- ---- reading them

spelled_again : (nodes : List TypeNode) (ts : List Lexeme) → SpellsMemory type_parts nodes ts → type_spelled ts ≡ Some nodes
spelled_again nodes ts s =
    let le : length (ts ++ []) ≤ length ts = omega (arith, length-append ts []) in
    let e : read (memory_type (length ts)) ts ≡ Some (nodes, []) = ap (read (memory_type (length ts))) (sym (append-nil ts)) ∙ memory_read type_parts parts_decide nodes ts [] (length ts) le s in
    rw e refl

-- What the instruction reader finds with the grammar of all memory types is what the grammar of instructions says.
pub inst_memory_reads : (d : ℕ) (ts : List Lexeme) → length ts ≤ d → read inst_memory ts ≡ read (memory_type d) ts
unfolding inst_memory
inst_memory_reads d ts le =
    same_values _ _
    (λ x e.
    let a = bind_some (read type_tokens ts) (λ y. type_spelled y.0 >>= λ b. Some (b, y.1)) x e in
    let b = bind_some (type_spelled a.0.0) (λ b. Some (b, a.0.1)) x a.2 in
    let t = sound type_tokens refl ts a.0 a.1 in
    let n = length a.0.0 in
    let s = read_spells (memory_type n) (memory_decides type_parts parts_decide n) b.0 a.0.0 b.1 in
    let r : SpellsMemory type_parts b.0 t.used = (n, subst (λ (us : List Lexeme). Spells (memory_type n) b.0 us) (themselves a.0.0 t.used t.spelled) s) in
    let fits : length (t.used ++ a.0.1) ≤ d = omega (arith, le, ap length t.parts) in
    ap (read (memory_type d)) t.parts ∙ memory_read type_parts parts_decide b.0 t.used a.0.1 d fits r ∙ b.2)
    (λ x e.
    let t = memory_spelled type_parts parts_decide d ts x e in
    let r : read type_tokens ts ≡ Some (t.used, x.1) = ap (read type_tokens) t.parts ∙ complete type_tokens refl t.used t.used x.1 (type_is t.spelled.0 x.0 t.used t.spelled.1) (nothing_next x.1) in
    rw (r, spelled_again x.0 t.used t.spelled) refl)
