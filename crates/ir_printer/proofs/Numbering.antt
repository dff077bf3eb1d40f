-- Items with all their names are numbered as they stand.
use Rattle.std.proofs.Common.{◌≡◌, ℕ, List, [], ◌∷◌, Option, Some, None, refl, sym, ap, ◌∙◌}
use Rattle.std.specs.Prelude.{map}
use Rattle.std.specs.List.{AllByRecursion}
use Rattle.text_forms.specs.Walk.{walk}
use Rattle.ir_types.specs.declared.name.Name.{Name}
use Rattle.ir_types.specs.declared.inst.Ty.{Ty}
use Rattle.ir_types.specs.declared.inst.Ty.TheVariants.{Int, Ptr, Vector, Void}
use Rattle.ir_types.specs.Tree.{InstTree, BlockTree, ParamTree, FunctionTree, WrittenParam, WrittenBlock, WrittenFunction, Item, head_line, comdat_line, type_item, variable_item, function_item, attribute_line, metadata_line}
use Rattle.ir_types.specs.Numbered.{next_after, named_result, numbered_inst, numbered_block, numbered_param, numbered_function, numbered_item, numbered_module}
use Rattle.ir_shape.specs.Shape.{IsResult, IsInst, IsBlock, IsParam, IsFunction, IsItem}

abbrev pub written_param : ParamTree → WrittenParam
written_param p = record { ty = p.ty; kept = p.kept; name = Some p.name }

abbrev pub written_block : BlockTree → WrittenBlock
written_block b = record { label = Some b.name; insts = b.insts }

abbrev pub written_function : FunctionTree → WrittenFunction
written_function f = record { name = f.name; before = f.before; ret = f.ret; params = map written_param f.params; varargs = f.varargs; after = f.after; body = map written_block f.body }

-- the item with each name written
abbrev pub written_item : Item FunctionTree → Item WrittenFunction
written_item (head_line xs) = head_line xs
written_item (comdat_line xs) = comdat_line xs
written_item (type_item n t) = type_item n t
written_item (variable_item v) = variable_item v
written_item (function_item f) = function_item (written_function f)
written_item (attribute_line xs) = attribute_line xs
written_item (metadata_line xs) = metadata_line xs

-- a walk that changes nothing
walk_same : {S A B : Type 0} (P : B → Type 0) (f : B → A) (step : S → A → Option (B × S)) → ((s : S) (b : B) → P b → (t : S) × (step s (f b) ≡ Some (b, t))) → (s : S) (items : List B) → AllByRecursion P items → (t : S) × (walk step s (map f items) ≡ Some (items, t))
walk_same P f step same s [] h = (s, refl)
walk_same P f step same s (b ∷ more) h =
    let p = same s b h.0 in
    let q = walk_same P f step same p.0 more h.1 in
    (q.0, rw (p.1, q.1) refl)

same_result : (next : ℕ) (t : Ty) (o : Option Name) → IsResult t o → (after : ℕ) × (named_result next t o ≡ Some (o, after))
same_result next Void None h = (next, refl)
same_result next (Int w) None h = absurd h
same_result next Ptr None h = absurd h
same_result next (Vector m w) None h = absurd h
same_result next Void (Some n) h = (next_after next n, refl)
same_result next (Int w) (Some n) h = (next_after next n, refl)
same_result next Ptr (Some n) h = (next_after next n, refl)
same_result next (Vector m w) (Some n) h = (next_after next n, refl)

same_inst : (next : ℕ) (i : InstTree) → IsInst i → (after : ℕ) × (numbered_inst next i ≡ Some (i, after))
same_inst next i h = let r = same_result next i.ty i.result h.result in (r.0, rw r.1 refl)

pub map_same : {A : Type 0} (xs : List A) → map (λ x. x) xs ≡ xs
map_same [] = refl
map_same (x ∷ xs) = ap (λ (l : List _). x ∷ l) (map_same xs)

same_block : (next : ℕ) (b : BlockTree) → IsBlock b → (after : ℕ) × (numbered_block next (written_block b) ≡ Some (b, after))
same_block next b h =
    let w = walk_same IsInst (λ i. i) numbered_inst same_inst (next_after next b.name) b.insts h.insts in
    let e : walk numbered_inst (next_after next b.name) b.insts ≡ Some (b.insts, w.0) = ap (walk numbered_inst (next_after next b.name)) (sym (map_same b.insts)) ∙ w.1 in
    (w.0, rw e refl)

same_param : (next : ℕ) (p : ParamTree) → IsParam p → (after : ℕ) × (numbered_param next (written_param p) ≡ Some (p, after))
same_param next p h = (next_after next p.name, refl)

same_function : (f : FunctionTree) → IsFunction f → numbered_function (written_function f) ≡ Some f
same_function f h =
    let p = walk_same IsParam written_param numbered_param same_param 0 f.params h.params in
    let b = walk_same IsBlock written_block numbered_block same_block p.0 f.body h.blocks in
    rw (p.1, b.1) refl

same_item : (u : Unit {0}) (i : Item FunctionTree) → IsItem i → (v : Unit {0}) × (numbered_item u (written_item i) ≡ Some (i, v))
same_item u (head_line xs) h = (u, refl)
same_item u (comdat_line xs) h = (u, refl)
same_item u (type_item n t) h = (u, refl)
same_item u (variable_item v) h = (u, refl)
same_item u (function_item f) h = (u, rw (same_function f h) refl)
same_item u (attribute_line xs) h = (u, refl)
same_item u (metadata_line xs) h = (u, refl)

-- The names of items that are written with all their names are their names.
pub numbered_again : (items : List (Item FunctionTree)) → AllByRecursion IsItem items → numbered_module (map written_item items) ≡ Some items
numbered_again items h = let w = walk_same IsItem written_item numbered_item same_item tt items h in rw w.1 refl
