-- What holds of the types and frames before a step holds behind it.
use Rattle.std.proofs.Common.{◌≡◌, ℕ, ◌≤◌, Bool, true, false, List, [], ◌∷◌, ◌++◌, length, Option, Some, None, Err, refl, sym, ap, ◌∙◌, subst, true≢false, arith, length-append}
use Rattle.std.proofs.lemmas.List.{map-append}
use Rattle.std.specs.List.{AllByRecursion}
use Rattle.text_forms.specs.declared.Around.{Around}
use Rattle.text_forms.specs.declared.Around.TheVariants.{InArray, InStruct}
use Rattle.text_forms.specs.declared.cursor.SyntaxFault.{SyntaxFault}
use Rattle.text_forms.specs.declared.cursor.SyntaxFault.TheVariants.{NoReading, Memory}
use Rattle.text_forms.specs.View.{Extends}
use Rattle.text_forms.specs.Form.{Lexeme}
use Rattle.text_forms.specs.Gives.{Gives}
use Rattle.text_forms.specs.Reading.{◌>>=◌, read}
use Rattle.text_forms.specs.Nested.{mark}
use Rattle.text_forms.specs.Machine.{next}
use Rattle.text_forms.proofs.Exact.{some_is}
use Rattle.text_forms.specs.declared.TokenKind.TheVariants.{RightBracket}
use Rattle.ir_types.specs.declared.name.Name.{Name}
use Rattle.ir_types.specs.declared.memory_type.TypeId.{TypeId}
use Rattle.ir_types.specs.declared.memory_type.TypeName.{TypeName}
use Rattle.ir_types.specs.declared.memory_type.MemTy.{MemTy}
use Rattle.ir_types.specs.declared.memory_type.MemTy.TheVariants.{One, Array, Struct, Named}
use Rattle.ir_types.specs.TypeNodes.{TypeNode, nodes_from}
use Rattle.ir_types.specs.Types.{IsBefore, IsTypeAt}
use Rattle.ir_types.specs.TypeForms.{type_parts}
use Rattle.ir_reader_types.specs.TypeTable.{names_of}
use Rattle.ir_reader_types.specs.Frames.{Frame, in_array, in_struct, around_of, innermost, closed, goes_on, AreBefore, Holds, is_refusal}
use Rattle.ir_reader_types.specs.Levels.{Adds, Closes}
use Rattle.ir_reader_types.specs.Heads.{IsAlone, next_nodes}
use Rattle.ir_reader_types.proofs.NodeLists.{types_with_names, types_push}
use Rattle.ir_reader_types.proofs.Going.{goes_more, goes_out, goes_nowhere}

pub names_extend : (old new : List TypeName) → Extends old new → Extends (names_of old) (names_of new)
names_extend old new x = record { more = names_of x.more; parts = ap names_of x.parts ∙ map-append (λ (t : TypeName). t.name) old x.more }

-- a refusal of a part is one of the whole, and want of memory says nothing
pub refuses : {X Y Z : Type 0} (view : X → Y) (e : SyntaxFault) (r : Option Y) (w : Option Z) → (r ≡ None → w ≡ None) → Gives view (Err e) r → is_refusal e ≡ true → w ≡ None
refuses view (NoReading place) r w h g t = h g
refuses view Memory r w h g t = absurd (true≢false (sym t))

-- ---- types that stand alone

pub alone_at : (names : List Name) (i : ℕ) (t : MemTy) → IsAlone names t → IsTypeAt names i t
alone_at names i (One t) h = h
alone_at names i (Array n e) h = absurd h
alone_at names i (Struct p ms) h = subst (λ (l : List TypeId). AllByRecursion (IsBefore i) l) (sym h) tt
alone_at names i (Named k) h = h

pub alone_nodes : (names : List Name) (before : List (List TypeNode)) (t : MemTy) → IsAlone names t → nodes_from names [] t ≡ nodes_from names before t
alone_nodes names before (One t) h = refl
alone_nodes names before (Array n e) h = absurd h
alone_nodes names before (Struct p ms) h = ap (λ (l : List TypeId). nodes_from names [] (Struct p l)) h ∙ sym (ap (λ (l : List TypeId). nodes_from names before (Struct p l)) h)
alone_nodes names before (Named k) h = refl

-- ---- places before a place

members_before : (m n : ℕ) (ids : List TypeId) → m ≤ n → AllByRecursion (IsBefore m) ids → AllByRecursion (IsBefore n) ids
members_before m n [] le h = tt
members_before m n (id ∷ ids) le h = (omega (arith, h.0), members_before m n ids le h.1)

frames_before : (m n : ℕ) (frames : List Frame) → m ≤ n → AreBefore m frames → AreBefore n frames
frames_before m n [] le h = tt
frames_before m n (in_array c ∷ outer) le h = frames_before m n outer le h
frames_before m n (in_struct p ids ∷ outer) le h = (members_before m n ids le h.0, frames_before m n outer le h.1)

pub frames_before_more : (types : List MemTy) (t : MemTy) (frames : List Frame) → AreBefore (length types) frames → AreBefore (length (types ++ t ∷ [])) frames
frames_before_more types t frames h = frames_before (length types) (length (types ++ t ∷ [])) frames (omega (arith, length-append types (t ∷ []))) h

one_more : (n : ℕ) (ids : List TypeId) (id : TypeId) → AllByRecursion (IsBefore n) ids → IsBefore n id → AllByRecursion (IsBefore n) (ids ++ id ∷ [])
one_more n [] id h here = (here, tt)
one_more n (i ∷ ids) id h here = (h.0, one_more n ids id h.1 here)

-- ---- a type begins

pub holds_done : (names later : List Name) (types : List MemTy) (frames : List Frame) (t : MemTy) (id : TypeId) → Holds names types frames None → Extends names later → IsTypeAt later (length types) t → id.0 ≡ length types
    → Holds later (types ++ t ∷ []) frames (Some id)
holds_done names later types frames t id h n here at = record {
  types_are = types_push later types t (types_with_names names later types n h.types_are) here;
  frames_before = frames_before_more types t frames h.frames_before;
  done_before = omega (arith, at, length-append types (t ∷ []));
}

pub holds_array : (names later : List Name) (types : List MemTy) (frames : List Frame) (n : ℕ) → Holds names types frames None → Extends names later → Holds later types (in_array n ∷ frames) None
holds_array names later types frames n h e = record { types_are = types_with_names names later types e h.types_are; frames_before = h.frames_before; done_before = tt }

pub holds_struct : (names later : List Name) (types : List MemTy) (frames : List Frame) (p : Bool) → Holds names types frames None → Extends names later → Holds later types (in_struct p [] ∷ frames) None
holds_struct names later types frames p h e = record { types_are = types_with_names names later types e h.types_are; frames_before = (tt, h.frames_before); done_before = tt }

-- ---- behind a type

abbrev Step : Type 0
Step = Option ((List TypeNode × Bool) × List Lexeme)

abbrev no_more : Option (Unit {0} × List Lexeme) → Step
no_more r = r >>= λ x. Some (([], false), x.1)

-- in an array no other type follows
pub not_in_array : (ts us : List Lexeme) → read (next type_parts InArray) ts ≡ Some (([], true), us) → ⊥
not_in_array ts us e = by (read (mark RightBracket) ts) e
  where
    by : (r : Option (Unit {0} × List Lexeme)) → no_more r ≡ Some (([], true), us) → ⊥
    by None e = cc
    by (Some x) e =
        let a : (List TypeNode × Bool) × List Lexeme = (([], false), x.1) in
        let b : (List TypeNode × Bool) × List Lexeme = (([], true), us) in
        true≢false (sym (ap (λ (z : (List TypeNode × Bool) × List Lexeme). z.0.1) (some_is a b e)))

pub nothing_goes : (d : ℕ) (names : List Name) (types : List MemTy) (frames : List Frame) (w : Around) (id : TypeId) (ts : List Lexeme) → innermost frames ≡ Some w → read (next type_parts w) ts ≡ None → goes_on d names types frames (Some id) ts ≡ None
nothing_goes d names types [] w id ts i r = absurd cc
nothing_goes d names types (f ∷ outer) w id ts i r = goes_nowhere d names types outer f id ts (subst (λ (v : Around). read (next type_parts v) ts ≡ None) (sym (some_is (around_of f) w i)) r)

pub another_goes : (d : ℕ) (names : List Name) (types : List MemTy) (frames new : List Frame) (w : Around) (id : TypeId) (ts us : List Lexeme) → innermost frames ≡ Some w → Adds frames id new → read (next type_parts w) ts ≡ Some (next_nodes w true, us)
    → goes_on d names types new None us ≡ goes_on d names types frames (Some id) ts
another_goes d names types [] new w id ts us i a r = absurd a
another_goes d names types (in_array n ∷ outer) new w id ts us i a r =
    absurd (not_in_array ts us (subst (λ (v : Around). read (next type_parts v) ts ≡ Some (([], true), us)) (sym (some_is InArray w i)) r))
another_goes d names types (in_struct p ids ∷ outer) new w id ts us i a r =
    ap (λ (l : List Frame). goes_on d names types l None us) a
    ∙ goes_more d names types outer p ids id ts us (subst (λ (v : Around). read (next type_parts v) ts ≡ Some (([], true), us)) (sym (some_is (InStruct p) w i)) r)

pub another_holds : (names : List Name) (types : List MemTy) (frames new : List Frame) (id : TypeId) → Adds frames id new → Holds names types frames (Some id) → Holds names types new None
another_holds names types [] new id a h = absurd a
another_holds names types (in_array n ∷ outer) new id a h = rw a (record { types_are = h.types_are; frames_before = h.frames_before; done_before = tt })
another_holds names types (in_struct p ids ∷ outer) new id a h = rw a (record { types_are = h.types_are; frames_before = (one_more (length types) ids id h.frames_before.0 h.done_before, h.frames_before.1); done_before = tt })

pub outer_before : (n : ℕ) (f : Frame) (outer : List Frame) → AreBefore n (f ∷ outer) → AreBefore n outer
outer_before n (in_array c) outer h = h
outer_before n (in_struct p ids) outer h = h.1

closed_at : (names : List Name) (n : ℕ) (f : Frame) (outer : List Frame) (id : TypeId) → AreBefore n (f ∷ outer) → IsBefore n id → IsTypeAt names n (closed f id)
closed_at names n (in_array c) outer id h here = here
closed_at names n (in_struct p ids) outer id h here = one_more n ids id h.0 here

pub closing_goes : (d : ℕ) (names : List Name) (types others : List MemTy) (frames new : List Frame) (w : Around) (id at : TypeId) (t : MemTy) (ts us : List Lexeme) → innermost frames ≡ Some w → Closes frames id t new → Holds names types frames (Some id)
    → others ≡ types ++ t ∷ [] → at.0 ≡ length types → read (next type_parts w) ts ≡ Some (next_nodes w false, us) → goes_on d names others new (Some at) us ≡ goes_on d names types frames (Some id) ts
closing_goes d names types others [] new w id at t ts us i c h o e r = absurd c
closing_goes d names types others (f ∷ outer) new w id at t ts us i c h o e r =
    let made : others ≡ types ++ closed f id ∷ [] = o ∙ ap (λ (u : MemTy). types ++ u ∷ []) c.0 in
    ap (λ (l : List MemTy). goes_on d names l new (Some at) us) made ∙ ap (λ (l : List Frame). goes_on d names (types ++ closed f id ∷ []) l (Some at) us) c.1
    ∙ goes_out d names types outer f id at ts us h.types_are (outer_before (length types) f outer h.frames_before) e
    (subst (λ (v : Around). read (next type_parts v) ts ≡ Some (next_nodes v false, us)) (sym (some_is (around_of f) w i)) r)

pub closing_holds : (names : List Name) (types others : List MemTy) (frames new : List Frame) (id at : TypeId) (t : MemTy) → Closes frames id t new → Holds names types frames (Some id) → others ≡ types ++ t ∷ [] → at.0 ≡ length types → Holds names others new (Some at)
closing_holds names types others [] new id at t c h o e = absurd c
closing_holds names types others (f ∷ outer) new id at t c h o e =
    rw (o ∙ ap (λ (u : MemTy). types ++ u ∷ []) c.0, c.1) (record {
      types_are = types_push names types (closed f id) h.types_are (closed_at names (length types) f outer id h.frames_before h.done_before);
      frames_before = frames_before_more types (closed f id) outer (outer_before (length types) f outer h.frames_before);
      done_before = omega (arith, e, length-append types (closed f id ∷ []));
    })
