-- A memory type in an instruction is spelled as one of enough depth.
use Rattle.std.proofs.Common.{◌≡◌, ℕ, true, List, [], length, Some, sym, ap, ◌∙◌, subst, refl, arith}
use Rattle.std.proofs.lemmas.List.{append-nil}
use Rattle.text_forms.specs.Form.{Lexeme, Form, Spells}
use Rattle.text_forms.specs.Reading.{read, decides}
use Rattle.text_forms.proofs.Complete.{complete}
use Rattle.text_forms.proofs.NestedDecides.{memory_decides}
use Rattle.text_forms.proofs.Sound.{sound}
use Rattle.ir_types.specs.TypeNodes.{TypeNode}
use Rattle.ir_types.specs.TypeForms.{type_parts, memory_type, inst_memory}
use Rattle.ir_types.proofs.Decides.{parts_decide}
use Rattle.ir_types.proofs.InstMemory.{inst_memory_reads}

inst_memory_decides : decides inst_memory ≡ true
unfolding inst_memory
inst_memory_decides = refl

depth_decides : (d : ℕ) → decides (memory_type d) ≡ true
depth_decides d = memory_decides type_parts parts_decide d

-- what two forms read alike is spelled by the one as it is by the other
spelled_alike : {A : Type 0} (f g : Form A) → decides f ≡ true → decides g ≡ true → (a : A) (ts : List Lexeme) → read f ts ≡ read g ts → Spells f a ts → Spells g a ts
spelled_alike f g df dg a ts e s =
    let r : read f ts ≡ Some (a, []) = ap (read f) (sym (append-nil ts)) ∙ complete f df a ts [] s refl in
    let t = sound g dg ts (a, []) (sym e ∙ r) in
    let all : t.used ≡ ts = sym (append-nil t.used) ∙ sym t.parts in
    subst (λ (us : List Lexeme). Spells g a us) all t.spelled

-- what spells a type in an instruction spells a memory type that is as deep as it has tokens
pub as_memory_type : (nodes : List TypeNode) (ts : List Lexeme) → Spells inst_memory nodes ts → Spells (memory_type (length ts)) nodes ts
as_memory_type nodes ts s = spelled_alike inst_memory (memory_type (length ts)) inst_memory_decides (depth_decides (length ts)) nodes ts (inst_memory_reads (length ts) ts (omega arith)) s

-- and the other way
pub as_inst_memory : (nodes : List TypeNode) (ts : List Lexeme) → Spells (memory_type (length ts)) nodes ts → Spells inst_memory nodes ts
as_inst_memory nodes ts s = spelled_alike (memory_type (length ts)) inst_memory (depth_decides (length ts)) inst_memory_decides nodes ts (sym (inst_memory_reads (length ts) ts (omega arith))) s
