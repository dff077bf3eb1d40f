-- What is still to be printed of memory types that are begun.
use Rattle.std.proofs.Common.{◌≡◌, ◌<◌, ◌+◌, ◌≤◌, ℕ, zero, suc, true, false, List, [], ◌∷◌, ◌++◌, length, Some, None, get_or, drop, refl, ap, subst, append_assoc, arith}
use Rattle.std.specs.Prelude.{map, nat_lt, slice_get}
use Rattle.std.specs.List.{AllByRecursion}
use Rattle.std.proofs.lemmas.List.{drop_all}
use Rattle.std.proofs.lemmas.Option.{slice_get_within}
use Rattle.std.proofs.lemmas.Bool.Decides.{nat_tests}
use Rattle.text_lex.specs.Layout.{Piece}
use Rattle.ir_types.specs.declared.name.Name.{Name}
use Rattle.ir_types.specs.declared.inst.Ty.TheVariants.{Void}
use Rattle.ir_types.specs.declared.memory_type.TypeId.{TypeId}
use Rattle.ir_types.specs.declared.memory_type.MemTy.{MemTy}
use Rattle.ir_types.specs.declared.memory_type.MemTy.TheVariants.{One, Array, Struct, Named}
use Rattle.ir_types.specs.Types.{IsBefore, IsTypeAt, AreTypes}
use Rattle.ir_printer_types.specs.Pieces.{comma, blank, each_behind}
use Rattle.ir_printer_types.specs.MemoryPieces.{struct_head, struct_end}
use Rattle.ir_printer_types.specs.Parts.{HasItsName, parts_of, end_pieces, up_to_part}
use Rattle.ir_printer_types.proofs.ByPlaces.{pieces_at, memory_pieces_from}

-- ---- a type, of which so many parts are printed

-- what is still to be printed of it
abbrev pub rest_from : List Name → List (List Piece) → MemTy → ℕ → List Piece
rest_from names all t zero = memory_pieces_from names all t
rest_from names all t (suc k) = each_behind (comma ∷ blank ∷ []) (map (λ id. pieces_at all id.0) (drop (suc k) (parts_of t))) ++ end_pieces t

drop_found : {A : Type 0} (xs : List A) (k : ℕ) (x : A) → slice_get xs k ≡ Some x → drop k xs ≡ x ∷ drop (suc k) xs
drop_found [] k x e = absurd cc
drop_found (y ∷ xs) zero x e = cc
drop_found (y ∷ xs) (suc k) x e = drop_found xs k x e

is_past : {A : Type 0} (xs : List A) (k : ℕ) → slice_get xs k ≡ None → length xs ≤ k
is_past [] k e = omega arith
is_past (y ∷ xs) zero e = absurd cc
is_past (y ∷ xs) (suc k) e = omega (arith, is_past xs k e)

-- the spaces inside of a struct go to what stands around its members
regrouped : (h q r e : List Piece) → h ++ ((blank ∷ ((q ++ r) ++ blank ∷ [])) ++ e) ≡ (h ++ blank ∷ []) ++ (q ++ (r ++ (blank ∷ e)))
regrouped h q r e = simp append_assoc

-- its next part, and what stands before
pub part_next : (names : List Name) (all : List (List Piece)) (t : MemTy) (k : ℕ) (e : TypeId) → slice_get (parts_of t) k ≡ Some e → rest_from names all t k ≡ up_to_part names t k ++ (pieces_at all e.0 ++ rest_from names all t (suc k))
part_next names all (One t) zero e h = absurd cc
part_next names all (Array n element) zero e h = let s : element ≡ e = cc in rw s refl
part_next names all (Struct p []) zero e h = absurd cc
part_next names all (Struct p (m ∷ ms)) zero e h = let s : m ≡ e = cc in rw s (regrouped (struct_head p) (pieces_at all e.0) _ (struct_end p))
part_next names all (Named j) zero e h = absurd cc
part_next names all t (suc k) e h =
    let lt = slice_get_within (parts_of t) (suc k) e h in
    let b : nat_lt (suc k) (length (parts_of t)) ≡ true = grind (arith, nat_tests) in
    rw (b, drop_found (parts_of t) (suc k) e h) (ap (λ (ps : List Piece). comma ∷ blank ∷ ps) (append_assoc (pieces_at all e.0) _ (end_pieces t)))

-- or what stands behind the last
pub part_last : (names : List Name) (all : List (List Piece)) (t : MemTy) (k : ℕ) → slice_get (parts_of t) k ≡ None → rest_from names all t k ≡ up_to_part names t k
part_last names all (One t) zero h = refl
part_last names all (Array n element) zero h = absurd cc
part_last names all (Struct p []) zero h = refl
part_last names all (Struct p (m ∷ ms)) zero h = absurd cc
part_last names all (Named j) zero h = refl
part_last names all t (suc k) h =
    let le = is_past (parts_of t) (suc k) h in
    let b : nat_lt (suc k) (length (parts_of t)) ≡ false = grind (arith, nat_tests) in
    rw (b, drop_all (suc k) (parts_of t) le) refl

-- at least two pieces stand before a part
pub two_pieces : (names : List Name) (t : MemTy) (k : ℕ) (e : TypeId) → slice_get (parts_of t) k ≡ Some e → 2 ≤ length (up_to_part names t k)
two_pieces names (One t) zero e h = absurd cc
two_pieces names (Array n element) zero e h = omega arith
two_pieces names (Struct p []) zero e h = absurd cc
two_pieces names (Struct true (m ∷ ms)) zero e h = omega arith
two_pieces names (Struct false (m ∷ ms)) zero e h = omega arith
two_pieces names (Named j) zero e h = absurd cc
two_pieces names t (suc k) e h =
    let lt = slice_get_within (parts_of t) (suc k) e h in
    let b : nat_lt (suc k) (length (parts_of t)) ≡ true = grind (arith, nat_tests) in
    rw b (omega arith)

-- ---- the type at a place

abbrev pub type_at : List MemTy → TypeId → MemTy
type_at types id = get_or types id.0 (One Void)

-- the same, whatever is said to stand behind the last
pub is_at : (types : List MemTy) (i : ℕ) (t : MemTy) → i < length types → t ≡ get_or types i t → t ≡ get_or types i (One Void)
is_at [] i t lt e = absurd (omega arith)
is_at (u ∷ types) zero t lt e = e
is_at (u ∷ types) (suc i) t lt e = is_at types i t (omega arith) e

typed_at : (names : List Name) (types : List MemTy) (n k : ℕ) → AreTypes names n types → k < length types → IsTypeAt names (n + k) (get_or types k (One Void))
typed_at names [] n k h lt = absurd (omega arith)
typed_at names (t ∷ types) n zero h lt = let e : n + 0 ≡ n = omega arith in rw e (h.0)
typed_at names (t ∷ types) n (suc k) h lt = let e : n + suc k ≡ suc n + k = omega arith in rw e (typed_at names types (suc n) k h.1 (omega arith))

-- the type at a place that has a name has it in the list
pub named_at : (names : List Name) (types : List MemTy) (id : TypeId) → AreTypes names 0 types → id.0 < length types → HasItsName names (type_at types id)
named_at names types id h lt = named (type_at types id) (typed_at names types 0 id.0 h lt)
  where
    named : (t : MemTy) → IsTypeAt names (0 + id.0) t → HasItsName names t
    named (One t) i = tt
    named (Array n element) i = tt
    named (Struct p members) i = tt
    named (Named k) i = i.within

before_each : (n : ℕ) (ids : List TypeId) (k : ℕ) (e : TypeId) → AllByRecursion (IsBefore n) ids → slice_get ids k ≡ Some e → e.0 < n
before_each n [] k e h s = absurd cc
before_each n (id ∷ ids) zero e h s = let same : id ≡ e = cc in subst (IsBefore n) same h.0
before_each n (id ∷ ids) (suc k) e h s = before_each n ids k e h.1 s

part_before : (names : List Name) (n : ℕ) (t : MemTy) (k : ℕ) (e : TypeId) → IsTypeAt names n t → slice_get (parts_of t) k ≡ Some e → e.0 < n
part_before names n (One t) k e i s = absurd cc
part_before names n (Array m element) k e i s = before_each n (element ∷ []) k e (i, tt) s
part_before names n (Struct p members) k e i s = before_each n members k e i s
part_before names n (Named j) k e i s = absurd cc

-- its parts stand in the list too
pub part_within : (names : List Name) (types : List MemTy) (id : TypeId) (k : ℕ) (e : TypeId) → AreTypes names 0 types → id.0 < length types → slice_get (parts_of (type_at types id)) k ≡ Some e → e.0 < length types
part_within names types id k e h lt s = let b = part_before names (0 + id.0) (type_at types id) k e (typed_at names types 0 id.0 h lt) s in omega arith
