-- Memory types are read alike at each depth that is at least the number of the tokens.
use Rattle.std.proofs.Common.{◌≡◌, ℕ, zero, suc, ◌≤◌, true, cond, List, [], ◌∷◌, codes, length, Option, Some, None, refl, sym, ap, ◌∙◌, arith}
use Rattle.text_forms.specs.declared.TokenKind.TheVariants.{Word}
use Rattle.text_forms.specs.Form.{Lexeme, Form, mapped, either}
use Rattle.text_forms.specs.Reading.{this, first, all_apart, opens, read, ◌>>=◌}
use Rattle.text_forms.proofs.Nested.{any_depth}
use Rattle.text_forms.proofs.NestedDecides.{memory_takes}
use Rattle.ir_types.specs.TypeNodes.{TypeNode}
use Rattle.text_forms.specs.Combined.{word}
use Rattle.ir_types.specs.TypeForms.{local_name, width, vector_type, value_type, memory_leaf, array_begin, type_parts, memory_type}
use Rattle.ir_types.proofs.Decides.{parts_decide}
use Rattle.ir_reader_items.specs.Sources.{type_read, nodes_or_none}
use Rattle.ir_reader_items.specs.Typed.{defined_read}
use Rattle.ir_reader_items.proofs.Swaps.{swapped}

pub type_is : (d : ℕ) (ts : List Lexeme) → length ts ≤ d → type_read ts ≡ read (memory_type d) ts
type_is d ts le = any_depth type_parts parts_decide (length ts) d ts (omega arith) le

-- no memory type begins with the word `opaque`
not_opaque : (d : ℕ) → all_apart (first (memory_type d)) (this Word (codes "opaque") ∷ []) ≡ true
unfolding local_name width vector_type value_type memory_leaf array_begin type_parts
not_opaque zero = refl
not_opaque (suc d) = refl

abbrev pub opaque_word : Form (Option (List TypeNode))
opaque_word = word (codes "opaque") None

pub defined_is : (d : ℕ) (ts : List Lexeme) → length ts ≤ d → defined_read ts ≡ read (either (mapped Some (memory_type d)) opaque_word) ts
defined_is d ts le =
    ap (λ (r : Option (List TypeNode × List Lexeme)). cond (opens opaque_word ts) (read opaque_word ts) (r >>= λ x. Some (Some x.0, x.1))) (type_is d ts le)
    ∙ swapped (mapped Some (memory_type d)) opaque_word ts (memory_takes type_parts parts_decide d) refl (not_opaque d)

abbrev read_so : List TypeNode → List Lexeme → Option (List TypeNode × List Lexeme)
read_so nodes us = Some (nodes, us)

-- what is read is what its nodes say
pub read_again : (nodes : List TypeNode) (us : List Lexeme) (r : Option (List TypeNode × List Lexeme)) → r ≡ Some (nodes, us) → read_so nodes us ≡ read_so (nodes_or_none r) us
read_again nodes us r e = ap (λ (o : Option (List TypeNode × List Lexeme)). read_so (nodes_or_none o) us) (sym e)
