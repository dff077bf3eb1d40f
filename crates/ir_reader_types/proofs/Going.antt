-- Each step of the reading of a memory type keeps what the whole gives.
use Rattle.std.proofs.Common.{◌≡◌, ℕ, ◌≤◌, Bool, true, false, List, [], ◌∷◌, ◌++◌, length, map, Some, None, refl, sym, ap, ◌∙◌, append_assoc}
use Rattle.std.proofs.lemmas.List.{append-nil}
use Rattle.std.specs.List.{AllByRecursion}
use Rattle.text_forms.specs.declared.Around.TheVariants.{InStruct}
use Rattle.text_forms.specs.View.{Extends}
use Rattle.text_forms.specs.Form.{Lexeme}
use Rattle.text_forms.specs.Reading.{read}
use Rattle.text_forms.specs.Nested.{concat}
use Rattle.text_forms.specs.Machine.{head, next, whole}
use Rattle.text_forms.proofs.Machine.{leaf_step, inside_step, head_fails, next_more, next_done, next_fails}
use Rattle.ir_types.specs.declared.name.Name.{Name}
use Rattle.ir_types.specs.declared.memory_type.TypeId.{TypeId}
use Rattle.ir_types.specs.declared.memory_type.MemTy.{MemTy}
use Rattle.ir_types.specs.TypeNodes.{TypeNode, array, opening, closing, nodes_from, all_nodes, type_nodes}
use Rattle.ir_types.specs.Types.{IsBefore, AreTypes}
use Rattle.ir_types.specs.TypeForms.{type_parts}
use Rattle.ir_types.proofs.Decides.{parts_decide}
use Rattle.ir_types.proofs.NameAt.{extends_refl}
use Rattle.ir_reader_types.specs.Frames.{Frame, in_array, in_struct, around_of, closed, frame_nodes, opened_nodes, arounds, goes_on, AreBefore, end_nodes}
use Rattle.ir_reader_types.proofs.NodeLists.{nodes_stay, nodes_of_new}

-- ---- the nodes of the frames stay what they are

members_stay : (names later : List Name) (types others : List MemTy) (ids : List TypeId) → AreTypes names 0 types → AllByRecursion (IsBefore (length types)) ids → Extends names later → Extends types others
    → concat (map (λ id. type_nodes later others id) ids) ≡ concat (map (λ id. type_nodes names types id) ids)
members_stay names later types others [] are h n t = refl
members_stay names later types others (id ∷ ids) are h n t =
    ap (λ (x : List TypeNode). x ++ concat (map (λ id. type_nodes later others id) ids)) (nodes_stay names later types others id are h.0 n t)
    ∙ ap (λ (x : List TypeNode). type_nodes names types id ++ x) (members_stay names later types others ids are h.1 n t)

pub opened_stays : (names later : List Name) (types others : List MemTy) (frames : List Frame) → AreTypes names 0 types → AreBefore (length types) frames → Extends names later → Extends types others
    → opened_nodes later others frames ≡ opened_nodes names types frames
opened_stays names later types others [] are h n t = refl
opened_stays names later types others (in_array c ∷ outer) are h n t = ap (λ (x : List TypeNode). x ++ array c ∷ []) (opened_stays names later types others outer are h n t)
opened_stays names later types others (in_struct p ids ∷ outer) are h n t =
    ap (λ (x : List TypeNode). x ++ frame_nodes later others (in_struct p ids)) (opened_stays names later types others outer are h.1 n t)
    ∙ ap (λ (x : List TypeNode). opened_nodes names types outer ++ (opening p ∷ x)) (members_stay names later types others ids are h.0 n t)

-- ---- a type begins

pub begins_done : (d : ℕ) (names later : List Name) (types : List MemTy) (frames : List Frame) (t : MemTy) (id : TypeId) (xs : List TypeNode) (ts us : List Lexeme) → AreTypes names 0 types → AreBefore (length types) frames → Extends names later
    → id.0 ≡ length types → xs ≡ nodes_from later (all_nodes later [] types) t → length ts ≤ d → read (head type_parts) ts ≡ Some ((xs, None), us)
    → goes_on d later (types ++ t ∷ []) frames (Some id) us ≡ goes_on d names types frames None ts
begins_done d names later types frames t id xs ts us are before n at e le r =
    let o = opened_nodes names types frames in
    let same = opened_stays names later types (types ++ t ∷ []) frames are before n (record { more = t ∷ []; parts = refl }) in
    let new : type_nodes later (types ++ t ∷ []) id ≡ xs = nodes_of_new later types t id at ∙ sym e in
    ap (λ (x : List TypeNode). whole type_parts d (x ++ type_nodes later (types ++ t ∷ []) id) (arounds frames) false us) (same ∙ sym (append-nil o))
    ∙ ap (λ (x : List TypeNode). whole type_parts d ((o ++ []) ++ x) (arounds frames) false us) new
    ∙ sym (leaf_step type_parts parts_decide d (o ++ []) (arounds frames) ts us xs le r)

pub begins_inside : (d : ℕ) (names later : List Name) (types : List MemTy) (frames : List Frame) (f : Frame) (xs : List TypeNode) (ts us : List Lexeme) → AreTypes names 0 types → AreBefore (length types) frames → Extends names later
    → xs ≡ frame_nodes later types f → length ts ≤ d → read (head type_parts) ts ≡ Some ((xs, Some (around_of f)), us)
    → goes_on d later types (f ∷ frames) None us ≡ goes_on d names types frames None ts
begins_inside d names later types frames f xs ts us are before n e le r =
    let o = opened_nodes names types frames in
    let same = opened_stays names later types types frames are before n (extends_refl types) in
    ap (λ (x : List TypeNode). whole type_parts d ((x ++ frame_nodes later types f) ++ []) (arounds frames ++ around_of f ∷ []) true us) (same ∙ sym (append-nil o))
    ∙ ap (λ (x : List TypeNode). whole type_parts d x (arounds frames ++ around_of f ∷ []) true us) (append-nil ((o ++ []) ++ frame_nodes later types f) ∙ ap (λ (x : List TypeNode). (o ++ []) ++ x) (sym e))
    ∙ sym (inside_step type_parts parts_decide d (o ++ []) (arounds frames) (around_of f) ts us xs le r)

pub begins_nothing : (d : ℕ) (names : List Name) (types : List MemTy) (frames : List Frame) (ts : List Lexeme) → length ts ≤ d → read (head type_parts) ts ≡ None → goes_on d names types frames None ts ≡ None
begins_nothing d names types frames ts le r = head_fails type_parts parts_decide d (opened_nodes names types frames ++ []) (arounds frames) ts le r

-- ---- behind a type

pub concat_push : (f : TypeId → List TypeNode) (ids : List TypeId) (id : TypeId) → concat (map f (ids ++ id ∷ [])) ≡ concat (map f ids) ++ f id
concat_push f [] id = append-nil (f id)
concat_push f (i ∷ ids) id = ap (λ (x : List TypeNode). f i ++ x) (concat_push f ids id) ∙ sym (append_assoc (f i) (concat (map f ids)) (f id))

pub goes_more : (d : ℕ) (names : List Name) (types : List MemTy) (outer : List Frame) (p : Bool) (ids : List TypeId) (id : TypeId) (ts us : List Lexeme) → read (next type_parts (InStruct p)) ts ≡ Some (([], true), us)
    → goes_on d names types (in_struct p (ids ++ id ∷ []) ∷ outer) None us ≡ goes_on d names types (in_struct p ids ∷ outer) (Some id) ts
goes_more d names types outer p ids id ts us r =
    let o = opened_nodes names types outer in
    let f : TypeId → List TypeNode = λ i. type_nodes names types i in
    let inside = concat (map f ids) in
    let front = (o ++ (opening p ∷ inside)) ++ f id in
    ap (λ (x : List TypeNode). whole type_parts d ((o ++ (opening p ∷ x)) ++ []) (arounds outer ++ InStruct p ∷ []) true us) (concat_push f ids id)
    ∙ ap (λ (x : List TypeNode). whole type_parts d (x ++ []) (arounds outer ++ InStruct p ∷ []) true us) (sym (append_assoc o (opening p ∷ inside) (f id)))
    ∙ sym (next_more type_parts d front (arounds outer) (InStruct p) ts us [] r)

-- the nodes of the frame, of its last part, and of its end are those of the type that it is
pub closed_nodes : (names : List Name) (types : List MemTy) (f : Frame) (id : TypeId) → (frame_nodes names types f ++ type_nodes names types id) ++ end_nodes (around_of f) ≡ nodes_from names (all_nodes names [] types) (closed f id)
closed_nodes names types (in_array n) id = append-nil (array n ∷ type_nodes names types id)
closed_nodes names types (in_struct p ids) id = ap (λ (x : List TypeNode). opening p ∷ (x ++ closing ∷ [])) (sym (concat_push (λ i. type_nodes names types i) ids id))

pub goes_out : (d : ℕ) (names : List Name) (types : List MemTy) (outer : List Frame) (f : Frame) (id new : TypeId) (ts us : List Lexeme) → AreTypes names 0 types → AreBefore (length types) outer → new.0 ≡ length types
    → read (next type_parts (around_of f)) ts ≡ Some ((end_nodes (around_of f), false), us)
    → goes_on d names (types ++ closed f id ∷ []) outer (Some new) us ≡ goes_on d names types (f ∷ outer) (Some id) ts
goes_out d names types outer f id new ts us are before at r =
    let o = opened_nodes names types outer in
    let a = frame_nodes names types f in
    let b = type_nodes names types id in
    let c = end_nodes (around_of f) in
    let t = closed f id in
    let same = opened_stays names names types (types ++ t ∷ []) outer are before (extends_refl names) (record { more = t ∷ []; parts = refl }) in
    let made : type_nodes names (types ++ t ∷ []) new ≡ (a ++ b) ++ c = nodes_of_new names types t new at ∙ sym (closed_nodes names types f id) in
    ap (λ (x : List TypeNode). whole type_parts d (x ++ type_nodes names (types ++ t ∷ []) new) (arounds outer) false us) same
    ∙ ap (λ (x : List TypeNode). whole type_parts d (o ++ x) (arounds outer) false us) made
    ∙ ap (λ (x : List TypeNode). whole type_parts d x (arounds outer) false us) (sym (append_assoc o (a ++ b) c) ∙ ap (λ (x : List TypeNode). x ++ c) (sym (append_assoc o a b)))
    ∙ sym (next_done type_parts d ((o ++ a) ++ b) (arounds outer) (around_of f) ts us c r)

pub goes_nowhere : (d : ℕ) (names : List Name) (types : List MemTy) (outer : List Frame) (f : Frame) (id : TypeId) (ts : List Lexeme) → read (next type_parts (around_of f)) ts ≡ None → goes_on d names types (f ∷ outer) (Some id) ts ≡ None
goes_nowhere d names types outer f id ts r = next_fails type_parts d (opened_nodes names types (f ∷ outer) ++ type_nodes names types id) (arounds outer) (around_of f) ts r
