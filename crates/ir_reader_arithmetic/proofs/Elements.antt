-- Elements of vectors are read, or not, as their parts are.
use Rattle.std.proofs.Common.{◌≡◌, ℕ, List, Some, None, refl}
use Rattle.text_forms.specs.declared.TokenKind.TheVariants.{Comma}
use Rattle.text_forms.specs.Form.{Lexeme, Form}
use Rattle.text_forms.specs.Reading.{read}
use Rattle.ir_types.specs.declared.inst.Ty.{Ty}
use Rattle.ir_types.specs.Offsets.{Definitions}
use Rattle.ir_types.specs.Tree.{OperandTree}
use Rattle.text_forms.specs.Combined.{after_mark}
use Rattle.ir_types.specs.InstParts.{typed_value, comma_typed, index_value}
use Rattle.ir_types.specs.InstForms.{extract_tree, extractelement, insert_tree, insertelement}

-- an index behind a comma
abbrev pub index_behind : Definitions → Form (ℕ × OperandTree)
index_behind defs = after_mark Comma (index_value defs)

-- lanes of vectors, of what their parts are read as
pub extract_reads : (defs : Definitions) (v : Ty × OperandTree) (i : ℕ × OperandTree) (ts us ws : List Lexeme) → read (typed_value defs) ts ≡ Some (v, us) → read (index_behind defs) us ≡ Some (i, ws) → read (extractelement defs) ts ≡ Some (extract_tree (v, i), ws)
unfolding extractelement
extract_reads defs v i ts us ws vector index = rw vector (rw index refl)

-- no index stands behind the vector of `extractelement`
pub extract_fails : (defs : Definitions) (v : Ty × OperandTree) (ts us : List Lexeme) → read (typed_value defs) ts ≡ Some (v, us) → read (index_behind defs) us ≡ None → read (extractelement defs) ts ≡ None
unfolding extractelement
extract_fails defs v ts us vector index = rw vector (rw index refl)

-- `insertelement`, of what its parts are read as
pub insert_reads : (defs : Definitions) (v e : Ty × OperandTree) (i : ℕ × OperandTree) (ts us vs ws : List Lexeme) → read (typed_value defs) ts ≡ Some (v, us) → read (comma_typed defs) us ≡ Some (e, vs) → read (index_behind defs) vs ≡ Some (i, ws)
    → read (insertelement defs) ts ≡ Some (insert_tree (v, (e, i)), ws)
unfolding insertelement
insert_reads defs v e i ts us vs ws vector element index = rw vector (rw element (rw index refl))
