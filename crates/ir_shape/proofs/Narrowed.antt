-- What has the shape of a module can be printed where no instruction is wide.
use Rattle.std.proofs.Common.{◌≡◌, Bool, true, false, List, [], ◌∷◌, sym, subst}
use Rattle.std.specs.List.{AllByRecursion, AllZip, filter_map}
use Rattle.ir_types.specs.declared.inst.Ty.{Ty}
use Rattle.ir_types.specs.Collected.{as_function}
use Rattle.ir_types.specs.Tree.{OperandTree, local, number, null, poison, lanes, global, out_of_range, InstTree, BlockTree, FunctionTree, ModuleTree, Item, head_line, comdat_line, type_item, variable_item, function_item, attribute_line, metadata_line}
use Rattle.ir_shape.specs.Shape.{IsOperand, IsOperandIn, IsTyped, IsTypedIn, IsReadInst, IsInst, IsBlockOf, IsBlock, IsFunctionOf, IsFunction, IsItemOf, IsItem, HasShape, IsPrintable}
use Rattle.ir_shape.specs.Narrow.{IsNarrowInst, IsNarrowBlock, IsNarrowFunction, IsNarrow}

-- ---- instructions

not_both : (b : Bool) → b ≡ false → b ≡ true → ⊥
not_both true e f = cc
not_both false e f = cc

narrow_operand : (wide : Bool) (t : Ty) (a : OperandTree) → wide ≡ false → IsOperandIn wide t a → IsOperand t a
narrow_operand wide t (local n) e h = h
narrow_operand wide t (number v) e h = h
narrow_operand wide t null e h = h
narrow_operand wide t poison e h = h
narrow_operand wide t (lanes xs) e h = h
narrow_operand wide t (global n bytes) e h = h
narrow_operand wide t (out_of_range n) e h = not_both wide e h.0

narrow_operands : (wide : Bool) (ts : List Ty) (args : List OperandTree) → wide ≡ false → AllZip (IsTypedIn wide) ts args → AllZip IsTyped ts args
narrow_operands wide [] [] e h = tt
narrow_operands wide [] (a ∷ args) e h = absurd h
narrow_operands wide (t ∷ ts) [] e h = absurd h
narrow_operands wide (t ∷ ts) (a ∷ args) e h = ((h.0.0, narrow_operand wide t a e h.0.1), narrow_operands wide ts args e h.1)

narrow_inst : (i : InstTree) → IsReadInst i → i.wide ≡ false → IsInst i
narrow_inst i h e = record {
  body = record { args = narrow_operands i.wide _ i.args e h.body.args; labels = h.body.labels; count = h.body.count; result = h.body.result; parts = h.body.parts };
  result = h.result;
  attachments = h.attachments;
  narrow = e;
}

-- ---- blocks, functions and items

-- what holds of each by two things that are known of it
pub by_both : {A : Type 0} (P Q R : A → Type 0) → ((a : A) → P a → Q a → R a) → (xs : List A) → AllByRecursion P xs → AllByRecursion Q xs → AllByRecursion R xs
by_both P Q R so [] h g = tt
by_both P Q R so (x ∷ xs) h g = (so x h.0 g.0, by_both P Q R so xs h.1 g.1)

narrow_block : (b : BlockTree) → IsBlockOf IsReadInst b → IsNarrowBlock b → IsBlock b
narrow_block b h n = record { name = h.name; insts = by_both IsReadInst IsNarrowInst IsInst narrow_inst b.insts h.insts n; ending = h.ending }

narrow_function : (f : FunctionTree) → IsFunctionOf IsReadInst f → IsNarrowFunction f → IsFunction f
narrow_function f h n = record {
  name = h.name;
  before = h.before;
  ret = h.ret;
  params = h.params;
  fixed = h.fixed;
  after = h.after;
  blocks = by_both (IsBlockOf IsReadInst) IsNarrowBlock IsBlock narrow_block f.body h.blocks n;
}

narrow_items : (items : List (Item FunctionTree)) → AllByRecursion (IsItemOf IsReadInst) items → AllByRecursion IsNarrowFunction (filter_map as_function items) → AllByRecursion IsItem items
narrow_items [] h n = tt
narrow_items (head_line xs ∷ items) h n = (h.0, narrow_items items h.1 n)
narrow_items (comdat_line xs ∷ items) h n = (h.0, narrow_items items h.1 n)
narrow_items (type_item name t ∷ items) h n = (h.0, narrow_items items h.1 n)
narrow_items (variable_item v ∷ items) h n = (h.0, narrow_items items h.1 n)
narrow_items (function_item f ∷ items) h n = (narrow_function f h.0 n.0, narrow_items items h.1 n.1)
narrow_items (attribute_line xs ∷ items) h n = (h.0, narrow_items items h.1 n)
narrow_items (metadata_line xs ∷ items) h n = (h.0, narrow_items items h.1 n)

-- ---- modules

-- A tree with the shape of a module can be printed where no instruction is wide.
pub tree_narrow : (m : ModuleTree) → HasShape m → IsNarrow m → IsPrintable m
tree_narrow m h n = record {
  items = h.items;
  known = narrow_items h.items h.known (subst (λ (t : ModuleTree). AllByRecursion IsNarrowFunction t.functions) (sym h.says) n);
  says = h.says;
}
