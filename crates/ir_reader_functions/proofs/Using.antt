-- What instructions use that are read one after another.
use Rattle.std.proofs.Common.{◌≡◌, List, [], ◌∷◌, ◌++◌, map, refl, sym, ap, ◌∙◌, append_assoc}
use Rattle.std.proofs.lemmas.List.{append-nil}
use Rattle.text_forms.specs.Nested.{concat}
use Rattle.ir_types.specs.Tree.{InstTree, BlockTree}
use Rattle.ir_types.specs.Used.{types_in, types_of, operands_of}
use Rattle.ir_reader_types.specs.Tables.{TableLists}
use Rattle.ir_reader_types.specs.Uses.{Uses, InstsUse}
use Rattle.ir_reader_types.proofs.Uses.{uses_both}
use Rattle.ir_reader_functions.specs.Functions.{insts_among}

concat_append : {A B : Type 0} (f : A → List B) (xs ys : List A) → concat (map f (xs ++ ys)) ≡ concat (map f xs) ++ concat (map f ys)
concat_append f [] ys = refl
concat_append {A} {B} f (x ∷ xs) ys = ap (λ (l : List B). f x ++ l) (concat_append f xs ys) ∙ sym (append_assoc (f x) (concat (map f xs)) (concat (map f ys)))

concat_push : {A B : Type 0} (f : A → List B) (xs : List A) (x : A) → concat (map f (xs ++ x ∷ [])) ≡ concat (map f xs) ++ f x
concat_push {A} {B} f xs x = concat_append f xs (x ∷ []) ∙ ap (λ (l : List B). concat (map f xs) ++ l) (append-nil (f x))

module _ (a b c : TableLists) where
  -- an instruction more
  pub uses_inst : (insts : List InstTree) (i : InstTree) → InstsUse a insts b → Uses b (types_in i.kind) i.args c → InstsUse a (insts ++ i ∷ []) c
  uses_inst insts i p q =
      rw (concat_push (λ (i : InstTree). types_in i.kind) insts i, concat_push (λ (i : InstTree). i.args) insts i)
      (uses_both a b c (types_of insts) (types_in i.kind) (operands_of insts) i.args p q)

  -- some instructions more
  uses_more : (insts more : List InstTree) → InstsUse a insts b → InstsUse b more c → InstsUse a (insts ++ more) c
  uses_more insts more p q =
      rw (concat_append (λ (i : InstTree). types_in i.kind) insts more, concat_append (λ (i : InstTree). i.args) insts more)
      (uses_both a b c (types_of insts) (types_of more) (operands_of insts) (operands_of more) p q)

  -- a block more
  pub uses_block : (blocks : List BlockTree) (block : BlockTree) → InstsUse a (insts_among blocks) b → InstsUse b block.insts c → InstsUse a (insts_among (blocks ++ block ∷ [])) c
  uses_block blocks block p q = rw (concat_push (λ (b : BlockTree). b.insts) blocks block) (uses_more (insts_among blocks) block.insts p q)
