-- Numbers keep what is known of a module.
use Rattle.std.proofs.Common.{◌≡◌, ◌+◌, ◌<◌, ◌^◌, ℕ, List, [], ◌∷◌, length, Option, Some, None, refl, sym, ap, ◌∙◌, subst, arith}
use Rattle.std.specs.Prelude.{map, nat_lt}
use Rattle.std.specs.List.{AllByRecursion}
use Rattle.std.proofs.lemmas.Bool.Decides.{nat_tests}
use Rattle.std.proofs.lemmas.List.{length-map}
use Rattle.std.proofs.lemmas.Option.{cond_some}
use Rattle.text_forms.specs.Reading.{◌>>=◌}
use Rattle.text_forms.specs.Walk.{walk}
use Rattle.text_forms.proofs.Sound.{bind_some}
use Rattle.text_forms.proofs.Exact.{some_is}
use Rattle.ir_types.specs.declared.name.Name.{Name}
use Rattle.ir_types.specs.declared.name.Name.TheVariants.{Number}
use Rattle.ir_types.specs.declared.inst.Ty.{Ty}
use Rattle.ir_types.specs.declared.inst.Ty.TheVariants.{Int, Ptr, Vector, Void}
use Rattle.ir_types.specs.Tree.{KeptTexts, InstTree, BlockTree, ParamTree, FunctionTree, WrittenParam, WrittenBlock, WrittenFunction, Item, head_line, comdat_line, type_item, variable_item, function_item, attribute_line, metadata_line}
use Rattle.ir_types.specs.FunctionForms.{named_by}
use Rattle.ir_types.specs.Numbered.{next_after, named, named_result, numbered_inst, numbered_block, numbered_param, numbered_function, numbered_item, numbered_module}
use Rattle.ir_shape.specs.Shape.{IsName, IsNameThere, IsResult, IsReadInst, EndsOnce, IsKept, before_form, after_form, IsBlockOf, IsParam, IsFunctionOf, IsItemOf}
use Rattle.ir_shape.proofs.Written.{IsWrittenInst, IsWrittenBlock, IsWrittenParam, renamed}
use Rattle.ir_shape.proofs.Items.{before_written, after_written, IsWrittenFunction, IsWrittenItem}

-- ---- walks

walk_all : {S A B : Type 0} (P : A → Type 0) (Q : B → Type 0) (step : S → A → Option (B × S)) → ((s : S) (a : A) (x : B × S) → P a → step s a ≡ Some x → Q x.0) → (s : S) (items : List A) (x : List B × S) → AllByRecursion P items → walk step s items ≡ Some x → AllByRecursion Q x.0
walk_all P Q step keeps s [] x h e = subst (λ (y : List _ × _). AllByRecursion Q y.0) (some_is ([], s) x e) tt
walk_all P Q step keeps s (a ∷ more) x h e =
    let p = bind_some (step s a) _ x e in
    let q = bind_some (walk step p.0.1 more) _ x p.2 in
    subst (λ (y : List _ × _). AllByRecursion Q y.0) (some_is _ x q.2) (keeps s a p.0 h.0 p.1, walk_all P Q step keeps p.0.1 more q.0 h.1 q.1)

-- what each step keeps of an element
walk_map : {S A B K : Type 0} (f : A → K) (g : B → K) (step : S → A → Option (B × S)) → ((s : S) (a : A) (x : B × S) → step s a ≡ Some x → f a ≡ g x.0) → (s : S) (items : List A) (x : List B × S) → walk step s items ≡ Some x → map f items ≡ map g x.0
walk_map f g step keeps s [] x e = ap (λ (y : List _ × _). map g y.0) (some_is ([], s) x e)
walk_map f g step keeps s (a ∷ more) x e =
    let p = bind_some (step s a) _ x e in
    let q = bind_some (walk step p.0.1 more) _ x p.2 in
    let first = keeps s a p.0 p.1 in
    let rest = walk_map f g step keeps p.0.1 more q.0 q.1 in
    subst (λ (y : List _ × _). f a ∷ map f more ≡ map g y.0) (some_is _ x q.2) (cc)

walk_length : {S A B : Type 0} (step : S → A → Option (B × S)) (s : S) (items : List A) (x : List B × S) → walk step s items ≡ Some x → length items ≡ length x.0
walk_length {S} {A} {B} step s items x e =
    let f : A → ℕ = λ a. 0 in
    let g : B → ℕ = λ b. 0 in
    let m = walk_map f g step (λ s a x e. refl) s items x e in
    sym (length-map items f) ∙ ap length m ∙ length-map x.0 g

-- ---- numbers keep what is known

named_known : (next : ℕ) (o : Option Name) (x : Name × ℕ) → IsNameThere o → named next o ≡ Some x → IsName x.0
named_known next (Some n) x h e = subst (λ (y : Name × ℕ). IsName y.0) (some_is (n, next_after next n) x e) h
named_known next None x h e =
    let c = cond_some (nat_lt next (2 ^ 32)) (Number next, next + 1) x e in
    let lt : next < 2 ^ 32 = let t = c.0 in grind (arith, nat_tests) in
    subst (λ (y : Name × ℕ). IsName y.0) c.1 lt

result_of_some : (t : Ty) (n : Name) → IsName n → IsResult t (Some n)
result_of_some (Int w) n h = h
result_of_some Ptr n h = h
result_of_some (Vector m w) n h = h
result_of_some Void n h = h

named_then : (next : ℕ) (t : Ty) (o : Option Name) (x : Option Name × ℕ) → IsNameThere o → (named next o >>= λ x. Some (Some x.0, x.1)) ≡ Some x → IsResult t x.0
named_then next t o x h e =
    let p = bind_some (named next o) _ x e in
    subst (λ (y : Option Name × ℕ). IsResult t y.0) (some_is _ x p.2) (result_of_some t p.0.0 (named_known next o p.0 h p.1))

result_known : (next : ℕ) (t : Ty) (o : Option Name) (x : Option Name × ℕ) → IsNameThere o → named_result next t o ≡ Some x → IsResult t x.0
result_known next Void None x h e = subst (λ (y : Option Name × ℕ). IsResult Void y.0) (some_is (None, next) x e) tt
result_known next (Int w) None x h e = named_then next (Int w) None x h e
result_known next (Int w) (Some n) x h e = named_then next (Int w) (Some n) x h e
result_known next Ptr None x h e = named_then next Ptr None x h e
result_known next Ptr (Some n) x h e = named_then next Ptr (Some n) x h e
result_known next (Vector m w) None x h e = named_then next (Vector m w) None x h e
result_known next (Vector m w) (Some n) x h e = named_then next (Vector m w) (Some n) x h e
result_known next Void (Some n) x h e = named_then next Void (Some n) x h e

result_set : (i : InstTree) (o : Option Name) → IsWrittenInst i → IsResult i.ty o → IsReadInst (named_by i o)
result_set i o h r = record { body = renamed i o h.body; result = r; attachments = h.attachments }

inst_known : (next : ℕ) (i : InstTree) (x : InstTree × ℕ) → IsWrittenInst i → numbered_inst next i ≡ Some x → IsReadInst x.0
inst_known next i x h e =
    let p = bind_some (named_result next i.ty i.result) _ x e in
    subst (λ (y : InstTree × ℕ). IsReadInst y.0) (some_is _ x p.2) (result_set i p.0.0 h (result_known next i.ty i.result p.0 h.result p.1))

inst_kind : (next : ℕ) (i : InstTree) (x : InstTree × ℕ) → numbered_inst next i ≡ Some x → i.kind ≡ x.0.kind
inst_kind next i x e =
    let p = bind_some (named_result next i.ty i.result) _ x e in
    ap (λ (y : InstTree × ℕ). y.0.kind) (some_is _ x p.2)

block_known : (next : ℕ) (b : WrittenBlock) (x : BlockTree × ℕ) → IsWrittenBlock b → numbered_block next b ≡ Some x → IsBlockOf IsReadInst x.0
block_known next b x h e =
    let p = bind_some (named next b.label) _ x e in
    let q = bind_some (walk numbered_inst p.0.1 b.insts) _ x p.2 in
    subst (λ (y : BlockTree × ℕ). IsBlockOf IsReadInst y.0) (some_is _ x q.2) (record {
      name = named_known next b.label p.0 h.name p.1;
      insts = walk_all IsWrittenInst IsReadInst numbered_inst inst_known p.0.1 b.insts q.0 h.insts q.1;
      ending = subst EndsOnce (walk_map (λ i. i.kind) (λ i. i.kind) numbered_inst inst_kind p.0.1 b.insts q.0 q.1) h.ending;
    })

param_known : (next : ℕ) (p : WrittenParam) (x : ParamTree × ℕ) → IsWrittenParam p → numbered_param next p ≡ Some x → IsParam x.0
param_known next w x h e =
    let p = bind_some (named next w.name) _ x e in
    subst (λ (y : ParamTree × ℕ). IsParam y.0) (some_is _ x p.2) (record { ty = h.ty; kept_texts = h.kept_texts; name = named_known next w.name p.0 h.name p.1 })

before_known : (ws : List WrittenBlock) (bs : List BlockTree) (xs : KeptTexts) → length ws ≡ length bs → IsKept (before_written ws) xs → IsKept (before_form bs) xs
before_known [] [] xs e h = h
before_known [] (b ∷ bs) xs e h = absurd (omega arith)
before_known (w ∷ ws) [] xs e h = absurd (omega arith)
before_known (w ∷ ws) (b ∷ bs) xs e h = h

after_known : (ws : List WrittenBlock) (bs : List BlockTree) (xs : KeptTexts) → length ws ≡ length bs → IsKept (after_written ws) xs → IsKept (after_form bs) xs
after_known [] [] xs e h = h
after_known [] (b ∷ bs) xs e h = absurd (omega arith)
after_known (w ∷ ws) [] xs e h = absurd (omega arith)
after_known (w ∷ ws) (b ∷ bs) xs e h = h

none_again : {A B : Type 0} (ws : List A) (bs : List B) → length ws ≡ length bs → ws ≡ [] → bs ≡ []
none_again ws [] e h = refl
none_again [] (b ∷ bs) e h = absurd (omega arith)
none_again (w ∷ ws) (b ∷ bs) e h = absurd cc

function_known : (f : WrittenFunction) (x : FunctionTree) → IsWrittenFunction f → numbered_function f ≡ Some x → IsFunctionOf IsReadInst x
function_known f x h e =
    let p = bind_some (walk numbered_param 0 f.params) _ x e in
    let q = bind_some (walk numbered_block p.0.1 f.body) _ x p.2 in
    let n = walk_length numbered_block p.0.1 f.body q.0 q.1 in
    subst (IsFunctionOf IsReadInst) (some_is _ x q.2) (record {
      name = h.name;
      before = before_known f.body q.0.0 f.before n h.before;
      ret = h.ret;
      params = walk_all IsWrittenParam IsParam numbered_param param_known 0 f.params p.0 h.params p.1;
      fixed = λ v. none_again f.body q.0.0 n (h.fixed v);
      after = after_known f.body q.0.0 f.after n h.after;
      blocks = walk_all IsWrittenBlock (IsBlockOf IsReadInst) numbered_block block_known p.0.1 f.body q.0 h.blocks q.1;
    })

item_known : (u : Unit {0}) (i : Item WrittenFunction) (x : Item FunctionTree × Unit {0}) → IsWrittenItem i → numbered_item u i ≡ Some x → IsItemOf IsReadInst x.0
item_known u (head_line xs) x h e = subst (λ (y : Item FunctionTree × Unit {0}). IsItemOf IsReadInst y.0) (some_is _ x e) h
item_known u (comdat_line xs) x h e = subst (λ (y : Item FunctionTree × Unit {0}). IsItemOf IsReadInst y.0) (some_is _ x e) h
item_known u (type_item n t) x h e = subst (λ (y : Item FunctionTree × Unit {0}). IsItemOf IsReadInst y.0) (some_is _ x e) h
item_known u (variable_item v) x h e = subst (λ (y : Item FunctionTree × Unit {0}). IsItemOf IsReadInst y.0) (some_is _ x e) h
item_known u (function_item f) x h e =
    let p = bind_some (numbered_function f) _ x e in
    subst (λ (y : Item FunctionTree × Unit {0}). IsItemOf IsReadInst y.0) (some_is _ x p.2) (function_known f p.0 h p.1)
item_known u (attribute_line xs) x h e = subst (λ (y : Item FunctionTree × Unit {0}). IsItemOf IsReadInst y.0) (some_is _ x e) h
item_known u (metadata_line xs) x h e = subst (λ (y : Item FunctionTree × Unit {0}). IsItemOf IsReadInst y.0) (some_is _ x e) h

-- items that are numbered have the shape that the written ones have
pub items_known : (w : List (Item WrittenFunction)) (items : List (Item FunctionTree)) → AllByRecursion IsWrittenItem w → numbered_module w ≡ Some items → AllByRecursion (IsItemOf IsReadInst) items
items_known w items h e =
    let p = bind_some (walk numbered_item tt w) _ items e in
    subst (AllByRecursion (IsItemOf IsReadInst)) (some_is _ items p.2) (walk_all IsWrittenItem (IsItemOf IsReadInst) numbered_item item_known tt w p.0 h p.1)
