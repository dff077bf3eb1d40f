-- The pieces of a type at a place, from those of all types.
use Rattle.std.proofs.Common.{◌≡◌, ◌<◌, ◌+◌, ℕ, zero, suc, List, [], ◌∷◌, ◌++◌, length, length-append, get_or, refl, sym, ap, ◌∙◌, subst, arith}
use Rattle.std.specs.Prelude.{map}
use Rattle.std.specs.List.{AllByRecursion}
use Rattle.std.proofs.Math.ListN.{get_or-append}
use Rattle.std.proofs.Math.Seq.{get_or-append_seam}
use Rattle.text_lex.specs.Layout.{Piece}
use Rattle.ir_types.specs.declared.name.Name.{Name}
use Rattle.ir_types.specs.declared.inst.Ty.TheVariants.{Void}
use Rattle.ir_types.specs.declared.memory_type.TypeId.{TypeId}
use Rattle.ir_types.specs.declared.memory_type.MemTy.{MemTy}
use Rattle.ir_types.specs.declared.memory_type.MemTy.TheVariants.{One, Array, Struct, Named}
use Rattle.ir_types.specs.Types.{IsBefore, IsTypeAt, AreTypes}
use Rattle.ir_printer_types.specs.MemoryPieces.{array_pieces, struct_pieces}
use Rattle.ir_printer_types.proofs.ByPlaces.{pieces_at, memory_pieces_from, all_memory_pieces}

-- those of the types before stay
pieces_kept : (names : List Name) (before : List (List Piece)) (types : List MemTy) (k : ℕ) → k < length before → pieces_at (all_memory_pieces names before types) k ≡ pieces_at before k
pieces_kept names before [] k lt = refl
pieces_kept names before (t ∷ types) k lt =
    let p = memory_pieces_from names before t in
    pieces_kept names (before ++ p ∷ []) types k (omega (arith, length-append before (p ∷ []))) ∙ get_or-append before (p ∷ []) [] k lt

-- two lists with the same pieces at the first places
abbrev Agree : ℕ → List (List Piece) → List (List Piece) → Type 0
Agree n all before = (k : ℕ) → k < n → pieces_at all k ≡ pieces_at before k

members_agree : (n : ℕ) (all before : List (List Piece)) (ids : List TypeId) → Agree n all before → AllByRecursion (IsBefore n) ids → map (λ id. pieces_at all id.0) ids ≡ map (λ id. pieces_at before id.0) ids
members_agree n all before [] a h = refl
members_agree n all before (id ∷ ids) a h = let first = a id.0 h.0 in let rest = members_agree n all before ids a h.1 in (cc)

from_agreeing : (names : List Name) (n : ℕ) (all before : List (List Piece)) (t : MemTy) → Agree n all before → IsTypeAt names n t → memory_pieces_from names all t ≡ memory_pieces_from names before t
from_agreeing names n all before (One t) a i = refl
from_agreeing names n all before (Array m element) a i = ap (array_pieces m) (a element.0 i)
from_agreeing names n all before (Struct p members) a i = ap (struct_pieces p) (members_agree n all before members a i)
from_agreeing names n all before (Named k) a i = refl

placed_behind : (names : List Name) (before : List (List Piece)) (types : List MemTy) (i : ℕ) → AreTypes names (length before) types → i < length types → pieces_at (all_memory_pieces names before types) (length before + i) ≡ memory_pieces_from names (all_memory_pieces names before types) (get_or types i (One Void))
placed_behind names before [] i h lt = absurd (omega arith)
placed_behind names before (t ∷ types) zero h lt =
    let p = memory_pieces_from names before t in
    let all = all_memory_pieces names (before ++ p ∷ []) types in
    let here : length before + 0 ≡ length before = omega arith in
    rw here (pieces_kept names (before ++ p ∷ []) types (length before) (omega (arith, length-append before (p ∷ []))) ∙ get_or-append_seam before p [] []
    ∙ sym (from_agreeing names (length before) all before t (λ k l. pieces_kept names before (t ∷ types) k l) h.0))
placed_behind names before (t ∷ types) (suc i) h lt =
    let p = memory_pieces_from names before t in
    let longer : suc (length before) ≡ length (before ++ p ∷ []) = omega (arith, length-append before (p ∷ [])) in
    let there : length before + suc i ≡ length (before ++ p ∷ []) + i = omega (arith, longer) in
    rw there (placed_behind names (before ++ p ∷ []) types i (subst (λ (n : ℕ). AreTypes names n types) longer h.1) (omega arith))

-- The pieces of a type at a place are made from those of all types.
pub placed : (names : List Name) (types : List MemTy) (id : TypeId) → AreTypes names 0 types → id.0 < length types → pieces_at (all_memory_pieces names [] types) id.0 ≡ memory_pieces_from names (all_memory_pieces names [] types) (get_or types id.0 (One Void))
placed names types id h lt = let here : 0 + id.0 ≡ id.0 = omega arith in rw here at (placed_behind names [] types id.0 h lt)
