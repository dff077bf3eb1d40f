-- What is known of lines and blocks that tokens spell.
use Rattle.std.proofs.Common.{List, [], ◌∷◌, ◌++◌, Option, Some, None, subst}
use Rattle.std.specs.Prelude.{map}
use Rattle.std.specs.List.{AllByRecursion}
use Rattle.text_forms.specs.declared.TokenKind.TheVariants.{Local, Equal}
use Rattle.text_forms.specs.Form.{Form}
use Rattle.text_forms.proofs.Sound.{bind_some}
use Rattle.text_forms.proofs.Exact.{some_is}
use Rattle.ir_types.specs.declared.name.Name.{Name}
use Rattle.ir_types.specs.Kinds.{Kind}
use Rattle.ir_types.specs.Offsets.{Definitions}
use Rattle.ir_types.specs.Written.{name_behind}
use Rattle.ir_types.specs.declared.inst.Ty.{Ty}
use Rattle.ir_types.specs.Tree.{OperandTree, InstTree, WrittenParam, WrittenBlock}
use Rattle.ir_types.specs.Words.{kept}
use Rattle.ir_types.specs.InstForms.{inst_attachments, operation, terminator}
use Rattle.ir_types.specs.FunctionForms.{named_by, line, block}
use Rattle.ir_shape.specs.Shape.{IsKept, IsName, IsType, IsTypedIn, IsBodyOf, IsNameThere, IsTerminator, EndsOnce}
use Rattle.ir_shape.proofs.Names.{behind_is}
use Rattle.ir_shape.proofs.Sure.{Sure, pair_sure, either_sure, mapped_sure, made_sure, ahead_sure, IsThere, optional_sure, many_sure}
use Rattle.ir_shape.proofs.Values.{label_sure}
use Rattle.ir_shape.proofs.Instructions.{IsPlain, operation_sure, terminator_sure}

-- ---- lines

pub record IsWrittenInst (i : InstTree) : Type 0 where
  pub body : IsBodyOf (IsTypedIn i.wide) i
  pub result : IsNameThere i.result
  pub attachments : IsKept inst_attachments i.kept

record IsOperationLine (i : InstTree) : Type 0 where
  inst : IsWrittenInst i
  goes_on : ¬ IsTerminator i.kind

record IsTerminatorLine (i : InstTree) : Type 0 where
  inst : IsWrittenInst i
  ends : IsTerminator i.kind

-- however its result is named
line_sure : {P Q : InstTree → Type 0} {f : Form InstTree} → Sure f P → ((i : InstTree) (o : Option Name) → P i → IsNameThere o → Q (named_by i o)) → Sure (line f) Q
line_sure {P} {Q} p named_so = either_sure
    (made_sure {Q = Q} (ahead_sure Local (ahead_sure Equal p)) (λ x i h e.
    let b = bind_some (name_behind x.0) _ i e in
    subst Q (some_is _ i b.2) (named_so x.1.1 (Some b.0) h (behind_is x.0 b.0 b.1))))
    (mapped_sure {Q = Q} p (λ i h. named_so i None h tt))

-- a body stays one under another name of its result
pub renamed : {P : Ty → OperandTree → Type 0} (i : InstTree) (o : Option Name) → IsBodyOf P i → IsBodyOf P (named_by i o)
renamed i o h = record { args = h.args; labels = h.labels; count = h.count; result = h.result; parts = h.parts }

written : (i : InstTree) (o : Option Name) → IsPlain i → IsNameThere o → IsWrittenInst (named_by i o)
written i o h g = record { body = renamed i o h.body; result = g; attachments = h.attachments }

operation_line_sure : (defs : Definitions) → Sure (line (operation defs)) IsOperationLine
operation_line_sure defs = line_sure (operation_sure defs) (λ i o h g. record { inst = written i o h.plain g; goes_on = h.goes_on })

terminator_line_sure : (defs : Definitions) → Sure (line (terminator defs)) IsTerminatorLine
terminator_line_sure defs = line_sure (terminator_sure defs) (λ i o h g. record { inst = written i o h.plain g; ends = h.ends })

-- ---- blocks

pub record IsWrittenBlock (b : WrittenBlock) : Type 0 where
  pub name : IsNameThere b.label
  pub insts : AllByRecursion IsWrittenInst b.insts
  pub ending : EndsOnce (map (λ i. i.kind) b.insts)

pub record IsWrittenParam (p : WrittenParam) : Type 0 where
  pub ty : IsType p.ty
  pub kept_texts : IsKept kept p.kept
  pub name : IsNameThere p.name

all_insts : (is : List InstTree) (last : InstTree) → AllByRecursion IsOperationLine is → IsTerminatorLine last → AllByRecursion IsWrittenInst (is ++ last ∷ [])
all_insts [] last h g = (g.inst, tt)
all_insts (i ∷ is) last h g = (h.0.inst, all_insts is last h.1 g)

-- something stands behind
ends_behind : (k : Kind) (is : List InstTree) (last : InstTree) → ¬ IsTerminator k → EndsOnce (map (λ i. i.kind) (is ++ last ∷ [])) → EndsOnce (k ∷ map (λ i. i.kind) (is ++ last ∷ []))
ends_behind k [] last n h = (n, h)
ends_behind k (i ∷ is) last n h = (n, h)

ending_of : (is : List InstTree) (last : InstTree) → AllByRecursion IsOperationLine is → IsTerminatorLine last → EndsOnce (map (λ i. i.kind) (is ++ last ∷ []))
ending_of [] last h g = g.ends
ending_of (i ∷ is) last h g = ends_behind i.kind is last h.0.goes_on (ending_of is last h.1 g)

-- a name that may be absent is one where it is there
pub there_name : (o : Option Name) → IsThere IsName o → IsNameThere o
there_name None h = tt
there_name (Some n) h = h

-- what is read as a block is a written one
pub block_sure : (defs : Definitions) → Sure (block defs) IsWrittenBlock
unfolding block
block_sure defs = mapped_sure (pair_sure (optional_sure label_sure) (pair_sure (many_sure (operation_line_sure defs)) (terminator_line_sure defs))) (λ x h. record {
  name = there_name x.0 h.0;
  insts = all_insts x.1.0 x.1.1 h.1.0 h.1.1;
  ending = ending_of x.1.0 x.1.1 h.1.0 h.1.1;
})
