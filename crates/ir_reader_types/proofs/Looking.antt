-- Which names were looked up while a memory type is read.
use Rattle.std.proofs.Common.{◌≡◌, true, List, [], ◌∷◌, ◌++◌, length, Some, None, refl, sym, ap, ◌∙◌, subst, append_assoc}
use Rattle.std.proofs.lemmas.List.{append-nil}
use Rattle.std.specs.Prelude.{map}
use Rattle.text_forms.specs.declared.Around.{Around}
use Rattle.text_forms.specs.declared.Around.TheVariants.{InArray, InStruct}
use Rattle.text_forms.specs.View.{Extends}
use Rattle.text_forms.specs.Form.{Lexeme}
use Rattle.text_forms.specs.Reading.{read}
use Rattle.text_forms.specs.Nested.{concat}
use Rattle.text_forms.specs.Machine.{next}
use Rattle.text_forms.proofs.Parts.{some_is}
use Rattle.ir_types.specs.TypeForms.{type_parts}
use Rattle.ir_types.specs.declared.name.Name.{Name}
use Rattle.ir_types.specs.declared.memory_type.TypeId.{TypeId}
use Rattle.ir_types.specs.declared.memory_type.TypeName.{TypeName}
use Rattle.ir_types.specs.declared.memory_type.MemTy.{MemTy}
use Rattle.ir_types.specs.TypeNodes.{TypeNode, opening, nodes_from, all_nodes, type_nodes, names_used}
use Rattle.ir_types.proofs.NameAt.{extends_refl}
use Rattle.ir_reader_types.specs.TypeTable.{names_of, LooksUpAll}
use Rattle.ir_reader_types.specs.Frames.{Frame, innermost, in_array, in_struct, frame_nodes, opened_nodes, nodes_so_far, closed, around_of, end_nodes, Holds, Looked}
use Rattle.ir_reader_types.specs.Levels.{Adds, Closes}
use Rattle.ir_reader_types.specs.Heads.{next_nodes}
use Rattle.ir_reader_types.proofs.Holding.{not_in_array, outer_before}
use Rattle.ir_reader_types.proofs.NodeLists.{nodes_of_new}
use Rattle.ir_reader_types.proofs.Going.{opened_stays, concat_push, closed_nodes}
use Rattle.ir_reader_types.proofs.LookUps.{used_append, looks_up_same, looks_up_more}

-- nodes behind others, which use these names
used_behind : (xs ys zs : List TypeNode) → zs ≡ xs ++ ys → names_used ((xs ++ []) ++ ys) ≡ names_used zs
used_behind xs ys zs e = ap (λ (l : List TypeNode). names_used (l ++ ys)) (append-nil xs) ∙ ap names_used (sym e)

-- ---- a type begins

pub looked_done : (base old new : List TypeName) (types : List MemTy) (frames : List Frame) (t : MemTy) (id : TypeId) (xs : List TypeNode) → Holds (names_of old) types frames None → Extends (names_of old) (names_of new)
    → id.0 ≡ length types → xs ≡ nodes_from (names_of new) (all_nodes (names_of new) [] types) t → LooksUpAll old xs new → Looked base old types frames None → Looked base new (types ++ t ∷ []) frames (Some id)
looked_done base old new types frames t id xs h n at e l k =
    let names = names_of old in
    let later = names_of new in
    let same = opened_stays names later types (types ++ t ∷ []) frames h.types_are h.frames_before n (record { more = t ∷ []; parts = refl }) in
    let made : type_nodes later (types ++ t ∷ []) id ≡ xs = nodes_of_new later types t id at ∙ sym e in
    let whole : nodes_so_far later (types ++ t ∷ []) frames (Some id) ≡ opened_nodes names types frames ++ xs =
    ap (λ (x : List TypeNode). x ++ type_nodes later (types ++ t ∷ []) id) same ∙ ap (λ (x : List TypeNode). opened_nodes names types frames ++ x) made in
    looks_up_same base new ((opened_nodes names types frames ++ []) ++ xs) (nodes_so_far later (types ++ t ∷ []) frames (Some id)) (used_behind (opened_nodes names types frames) xs _ whole) (looks_up_more base old new (nodes_so_far names types frames None) xs k l)

pub looked_inside : (base old new : List TypeName) (types : List MemTy) (frames : List Frame) (f : Frame) (xs : List TypeNode) → Holds (names_of old) types frames None → Extends (names_of old) (names_of new)
    → xs ≡ frame_nodes (names_of new) types f → LooksUpAll old xs new → Looked base old types frames None → Looked base new types (f ∷ frames) None
looked_inside base old new types frames f xs h n e l k =
    let names = names_of old in
    let later = names_of new in
    let same = opened_stays names later types types frames h.types_are h.frames_before n (extends_refl types) in
    let whole : nodes_so_far later types (f ∷ frames) None ≡ opened_nodes names types frames ++ xs =
    append-nil (opened_nodes later types frames ++ frame_nodes later types f) ∙ ap (λ (x : List TypeNode). x ++ frame_nodes later types f) same ∙ ap (λ (x : List TypeNode). opened_nodes names types frames ++ x) (sym e) in
    looks_up_same base new ((opened_nodes names types frames ++ []) ++ xs) (nodes_so_far later types (f ∷ frames) None) (used_behind (opened_nodes names types frames) xs _ whole) (looks_up_more base old new (nodes_so_far names types frames None) xs k l)

-- ---- behind a type

pub looked_more : (base entries : List TypeName) (types : List MemTy) (frames new : List Frame) (w : Around) (id : TypeId) (ts us : List Lexeme) → innermost frames ≡ Some w → Adds frames id new → read (next type_parts w) ts ≡ Some (next_nodes w true, us)
    → Looked base entries types frames (Some id) → Looked base entries types new None
looked_more base entries types [] new w id ts us i a r k = absurd a
looked_more base entries types (in_array n ∷ outer) new w id ts us i a r k =
    absurd (not_in_array ts us (subst (λ (v : Around). read (next type_parts v) ts ≡ Some (([], true), us)) (sym (some_is InArray w i)) r))
looked_more base entries types (in_struct p ids ∷ outer) new w id ts us i a r k =
    let names = names_of entries in
    let f : TypeId → List TypeNode = λ i. type_nodes names types i in
    let o = opened_nodes names types outer in
    let same : nodes_so_far names types new None ≡ nodes_so_far names types (in_struct p ids ∷ outer) (Some id) =
    ap (λ (l : List Frame). nodes_so_far names types l None) a ∙ append-nil (o ++ (opening p ∷ concat (map f (ids ++ id ∷ []))))
    ∙ ap (λ (x : List TypeNode). o ++ (opening p ∷ x)) (concat_push f ids id) ∙ sym (append_assoc o (opening p ∷ concat (map f ids)) (f id)) in
    looks_up_same base entries (nodes_so_far names types (in_struct p ids ∷ outer) (Some id)) (nodes_so_far names types new None) (ap names_used (sym same)) k

no_names_end : (w : Around) → names_used (end_nodes w) ≡ []
no_names_end InArray = refl
no_names_end (InStruct p) = refl

-- nodes between others, of which the last use no names
used_closed : (o a b c : List TypeNode) → names_used c ≡ [] → names_used ((o ++ a) ++ b) ≡ names_used (o ++ ((a ++ b) ++ c))
used_closed o a b c e =
    ap names_used (append_assoc o a b) ∙ used_append o (a ++ b)
    ∙ ap (λ (l : List Name). names_used o ++ l) (sym (append-nil (names_used (a ++ b))) ∙ ap (λ (l : List Name). names_used (a ++ b) ++ l) (sym e) ∙ sym (used_append (a ++ b) c))
    ∙ sym (used_append o ((a ++ b) ++ c))

pub looked_closed : (base entries : List TypeName) (types others : List MemTy) (frames new : List Frame) (id at : TypeId) (t : MemTy) → Closes frames id t new → Holds (names_of entries) types frames (Some id)
    → others ≡ types ++ t ∷ [] → at.0 ≡ length types → Looked base entries types frames (Some id) → Looked base entries others new (Some at)
looked_closed base entries types others [] new id at t c h o e k = absurd c
looked_closed base entries types others (f ∷ outer) new id at t c h o e k =
    let names = names_of entries in
    let u = closed f id in
    let made : others ≡ types ++ u ∷ [] = o ∙ ap (λ (v : MemTy). types ++ v ∷ []) c.0 in
    let front = opened_nodes names types outer in
    let same = opened_stays names names types (types ++ u ∷ []) outer h.types_are (outer_before (length types) f outer h.frames_before) (extends_refl names) (record { more = u ∷ []; parts = refl }) in
    let nodes : type_nodes names (types ++ u ∷ []) at ≡ (frame_nodes names types f ++ type_nodes names types id) ++ end_nodes (around_of f) = nodes_of_new names types u at e ∙ sym (closed_nodes names types f id) in
    let whole : nodes_so_far names others new (Some at) ≡ front ++ ((frame_nodes names types f ++ type_nodes names types id) ++ end_nodes (around_of f)) =
    ap (λ (l : List MemTy). nodes_so_far names l new (Some at)) made ∙ ap (λ (l : List Frame). nodes_so_far names (types ++ u ∷ []) l (Some at)) c.1
    ∙ ap (λ (x : List TypeNode). x ++ type_nodes names (types ++ u ∷ []) at) same ∙ ap (λ (x : List TypeNode). front ++ x) nodes in
    looks_up_same base entries ((front ++ frame_nodes names types f) ++ type_nodes names types id) (nodes_so_far names others new (Some at)) (used_closed front (frame_nodes names types f) (type_nodes names types id) (end_nodes (around_of f)) (no_names_end (around_of f)) ∙ ap names_used (sym whole)) k

-- ---- the type is complete

pub looked_whole : (base entries : List TypeName) (types : List MemTy) (frames : List Frame) (id : TypeId) → innermost frames ≡ None → Looked base entries types frames (Some id) → LooksUpAll base (type_nodes (names_of entries) types id) entries
looked_whole base entries types [] id e k = k
looked_whole base entries types (f ∷ outer) id e k = absurd cc
