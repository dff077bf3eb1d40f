-- What is still to be printed of all types that are begun.
use Rattle.std.proofs.Common.{◌≡◌, ◌<◌, ◌+◌, ◌≤◌, ℕ, suc, List, [], ◌∷◌, ◌++◌, length, length-append, Some, None, add-one, get_or, refl, sym, ap, ◌∙◌, append_assoc, arith}
use Rattle.std.specs.Prelude.{slice_get}
use Rattle.std.specs.List.{AllByRecursion}
use Rattle.std.proofs.lemmas.List.{append-nil}
use Rattle.std.proofs.lemmas.Option.{slice_get_read, slice_get_past}
use Rattle.text_lex.specs.Layout.{Piece, text_of}
use Rattle.text_lex.proofs.Layouts.{text_of-append}
use Rattle.ir_types.specs.declared.name.Name.{Name}
use Rattle.ir_types.specs.declared.memory_type.TypeId.{TypeId}
use Rattle.ir_types.specs.declared.memory_type.MemTy.{MemTy}
use Rattle.ir_types.specs.Types.{AreTypes}
use Rattle.ir_types.specs.TypeNodes.{type_nodes}
use Rattle.ir_printer_types.specs.declared.memory_type.Frame.{Frame}
use Rattle.ir_printer_types.specs.MemoryPieces.{node_pieces}
use Rattle.ir_printer_types.specs.Parts.{HasItsName, parts_of, up_to_part}
use Rattle.ir_printer_types.proofs.ByPlaces.{pieces_at, all_memory_pieces}
use Rattle.ir_printer_types.proofs.Cells.{by_nodes}
use Rattle.ir_printer_types.proofs.MemoryPlaced.{placed}
use Rattle.ir_printer_types.proofs.MemoryRest.{rest_from, part_next, part_last, two_pieces, type_at, is_at, named_at, part_within}

-- ---- which pieces

-- of one of them
abbrev pub rest_of : List Name → List MemTy → Frame → List Piece
rest_of names types f = rest_from names (all_memory_pieces names [] types) (type_at types f.id) f.printed

-- of all, the last one first
abbrev pub rest_of_all : List Name → List MemTy → List Frame → List Piece
rest_of_all names types [] = []
rest_of_all names types (f ∷ fs) = rest_of_all names types fs ++ rest_of names types f

-- it stands in the list
abbrev pub IsWithin : List MemTy → Frame → Type 0
IsWithin types f = f.id.0 < length types

-- a type that is begun
abbrev pub frame : TypeId → ℕ → Frame
frame id k = record { id = id; printed = k }

last_first : (names : List Name) (types : List MemTy) (fs : List Frame) (f : Frame) → rest_of_all names types (fs ++ f ∷ []) ≡ rest_of names types f ++ rest_of_all names types fs
last_first names types [] f = sym (append-nil (rest_of names types f))
last_first names types (g ∷ fs) f = ap (λ (ps : List Piece). ps ++ rest_of names types g) (last_first names types fs f) ∙ append_assoc (rest_of names types f) (rest_of_all names types fs) (rest_of names types g)

-- the pieces that are still to be printed, and the types that are begun
abbrev pub left_of : List Name → List MemTy → List Frame → ℕ
left_of names types fs = length (rest_of_all names types fs) + length fs

-- nothing of it is printed
at_first : (names : List Name) (types : List MemTy) (id : TypeId) → AreTypes names 0 types → id.0 < length types → rest_of names types (frame id 0) ≡ pieces_at (all_memory_pieces names [] types) id.0
at_first names types id h lt = sym (placed names types id h lt)

-- the next part of the last one is begun
part_begins : (names : List Name) (types : List MemTy) (fs : List Frame) (id e : TypeId) (k : ℕ) → AreTypes names 0 types → e.0 < length types → slice_get (parts_of (type_at types id)) k ≡ Some e
    → rest_of_all names types (fs ++ frame id k ∷ []) ≡ up_to_part names (type_at types id) k ++ rest_of_all names types ((fs ++ frame id (k + 1) ∷ []) ++ frame e 0 ∷ [])
part_begins names types fs id e k h lt s =
    let all = all_memory_pieces names [] types in
    let t = type_at types id in
    let new : rest_of_all names types ((fs ++ frame id (k + 1) ∷ []) ++ frame e 0 ∷ []) ≡ pieces_at all e.0 ++ (rest_from names all t (suc k) ++ rest_of_all names types fs) =
    last_first names types (fs ++ frame id (k + 1) ∷ []) (frame e 0) ∙ rw (at_first names types e h lt, last_first names types fs (frame id (k + 1)), add-one k) refl in
    last_first names types fs (frame id k) ∙ ap (λ (ps : List Piece). ps ++ rest_of_all names types fs) (part_next names all t k e s) ∙ append_assoc (up_to_part names t k) _ _ ∙ ap (λ (ps : List Piece). up_to_part names t k ++ ps) (append_assoc (pieces_at all e.0) _ _ ∙ sym new)

-- the last one is printed
last_ends : (names : List Name) (types : List MemTy) (fs : List Frame) (id : TypeId) (k : ℕ) → slice_get (parts_of (type_at types id)) k ≡ None → rest_of_all names types (fs ++ frame id k ∷ []) ≡ up_to_part names (type_at types id) k ++ rest_of_all names types fs
last_ends names types fs id k s = last_first names types fs (frame id k) ∙ ap (λ (ps : List Piece). ps ++ rest_of_all names types fs) (part_last names (all_memory_pieces names [] types) (type_at types id) k s)

-- these pieces are printed, and then the others are still to be
printed_more : (out out1 whole : List ℕ) (ps qs rs : List Piece) → rs ≡ ps ++ qs → out1 ≡ out ++ text_of ps → out ++ text_of rs ≡ whole → out1 ++ text_of qs ≡ whole
printed_more out out1 whole ps qs rs e e1 so_far = rw e1 (append_assoc out (text_of ps) (text_of qs) ∙ ap (λ (s : List ℕ). out ++ s) (sym (ap text_of e ∙ text_of-append ps qs)) ∙ so_far)

-- what is known of the list is known of its front and of its last one, and the other way round
within_front : (types : List MemTy) (fs : List Frame) (f : Frame) → AllByRecursion (IsWithin types) (fs ++ f ∷ []) → AllByRecursion (IsWithin types) fs × IsWithin types f
within_front types [] f h = (tt, h.0)
within_front types (g ∷ fs) f h = let rest = within_front types fs f h.1 in ((h.0, rest.0), rest.1)

within_more : (types : List MemTy) (fs : List Frame) (f : Frame) → AllByRecursion (IsWithin types) fs → IsWithin types f → AllByRecursion (IsWithin types) (fs ++ f ∷ [])
within_more types [] f h i = (i, tt)
within_more types (g ∷ fs) f h i = (h.0, within_more types fs f h.1 i)

-- ---- what the loop keeps

pub record IsPrinting (names : List Name) (types : List MemTy) (out : List ℕ) (whole : List ℕ) (fs : List Frame) : Type 0 where
  pub within : AllByRecursion (IsWithin types) fs
  pub printed : out ++ text_of (rest_of_all names types fs) ≡ whole

-- with one frame, all of the type is to be printed
pub all_begins : (names : List Name) (types : List MemTy) (out : List ℕ) (id : TypeId) → AreTypes names 0 types → id.0 < length types → IsPrinting names types out (out ++ text_of (node_pieces (type_nodes names types id))) (frame id 0 ∷ [])
all_begins names types out id h lt = record { within = (lt, tt); printed = ap (λ (ps : List Piece). out ++ text_of ps) (at_first names types id h lt ∙ by_nodes names types id h lt) }

-- a type that is taken from the list
pub taken_within : {names : List Name} {types : List MemTy} {out whole : List ℕ} {frames : List Frame} (fs : List Frame) (f : Frame) → IsPrinting names types out whole frames → frames ≡ fs ++ f ∷ [] → f.id.0 < length types
taken_within {types = types} fs f p e = (within_front types fs f (rw e at p.within)).1

-- a type of the list that has a name has it in the list of names
pub taken_named : {t : MemTy} (names : List Name) (types : List MemTy) (id : TypeId) → AreTypes names 0 types → id.0 < length types → t ≡ get_or types id.0 t → HasItsName names t
taken_named {t} names types id h lt i = rw (is_at types id.0 t lt i) (named_at names types id h lt)

-- the part of a type that is found, or is missing
found : (types : List MemTy) (id : TypeId) (t : MemTy) (ids : List TypeId) (k : ℕ) (e : TypeId) → id.0 < length types → t ≡ get_or types id.0 t → ids ≡ parts_of t → k < length ids → e ≡ get_or ids k e → slice_get (parts_of (type_at types id)) k ≡ Some e
found types id t ids k e lt a p l g = rw (sym (is_at types id.0 t lt a), sym p) (slice_get_read ids (length ids) k e refl l g)

missing : (types : List MemTy) (id : TypeId) (t : MemTy) (ids : List TypeId) (k : ℕ) → id.0 < length types → t ≡ get_or types id.0 t → ids ≡ parts_of t → length ids ≤ k → slice_get (parts_of (type_at types id)) k ≡ None
missing types id t ids k lt a p l = rw (sym (is_at types id.0 t lt a), sym p) (slice_get_past ids k l)

-- A part is begun.
pub goes_on : {names : List Name} {types : List MemTy} {out out1 whole : List ℕ} {frames middle more : List Frame} {t : MemTy} {ids : List TypeId} {e : TypeId} (fs : List Frame) (f : Frame) → AreTypes names 0 types → IsPrinting names types out whole frames
    → frames ≡ fs ++ f ∷ [] → t ≡ get_or types f.id.0 t → ids ≡ parts_of t → f.printed < length ids → e ≡ get_or ids f.printed e
    → out1 ≡ out ++ text_of (up_to_part names t f.printed) → middle ≡ fs ++ frame f.id (f.printed + 1) ∷ [] → more ≡ middle ++ frame e 0 ∷ []
    → IsPrinting names types out1 whole more × (left_of names types more < left_of names types frames)
goes_on {names} {types} {out} {out1} {whole} {t = t} {ids = ids} {e = e} fs f h p a i q l g o b c =
    let known = within_front types fs f (rw a at p.within) in
    let s = found types f.id t ids f.printed e known.1 i q l g in
    let inside = part_within names types f.id f.printed e h known.1 s in
    let begun = part_begins names types fs f.id e f.printed h inside s in
    let printed : out1 ≡ out ++ text_of (up_to_part names (type_at types f.id) f.printed) = rw (sym (is_at types f.id.0 t known.1 i)) o in
    rw (c, b, a) (
      record {
        within = within_more types _ (frame e 0) (within_more types fs (frame f.id (f.printed + 1)) known.0 known.1) inside;
        printed = printed_more out out1 whole (up_to_part names (type_at types f.id) f.printed) (rest_of_all names types ((fs ++ frame f.id (f.printed + 1) ∷ []) ++ frame e 0 ∷ [])) _ begun printed (rw a at p.printed);
      },
      omega (arith, ap length begun, two_pieces names (type_at types f.id) f.printed e s, length-append {A = Piece}, length-append {A = Frame}),
    )

-- None is left.
pub comes_back : {names : List Name} {types : List MemTy} {out out1 whole : List ℕ} {frames : List Frame} {t : MemTy} {ids : List TypeId} (fs : List Frame) (f : Frame) → IsPrinting names types out whole frames
    → frames ≡ fs ++ f ∷ [] → t ≡ get_or types f.id.0 t → ids ≡ parts_of t → length ids ≤ f.printed → out1 ≡ out ++ text_of (up_to_part names t f.printed)
    → IsPrinting names types out1 whole fs × (left_of names types fs < left_of names types frames)
comes_back {names} {types} {out} {out1} {whole} {t = t} {ids = ids} fs f p a i q l o =
    let known = within_front types fs f (rw a at p.within) in
    let ended = last_ends names types fs f.id f.printed (missing types f.id t ids f.printed known.1 i q l) in
    let printed : out1 ≡ out ++ text_of (up_to_part names (type_at types f.id) f.printed) = rw (sym (is_at types f.id.0 t known.1 i)) o in
    rw a (
      record { within = known.0; printed = printed_more out out1 whole (up_to_part names (type_at types f.id) f.printed) (rest_of_all names types fs) _ ended printed (rw a at p.printed) },
      omega (arith, ap length ended, length-append {A = Piece}, length-append {A = Frame}),
    )
