-- The first names are made to stand for types.
use Rattle.std.proofs.Common.{◌≡◌, ℕ, zero, suc, ◌≤◌, ◌<◌, List, [], ◌∷◌, ◌++◌, length, get_or, take, ◌+◌, refl, sym, ap, ◌∙◌, arith}
use Rattle.std.proofs.lemmas.List.{take_more, length-take-le}
use Rattle.ir_types.specs.declared.name.Name.{Name}
use Rattle.ir_types.specs.declared.memory_type.TypeName.{TypeName}
use Rattle.ir_types.specs.declared.memory_type.NamedType.{NamedType}
use Rattle.ir_reader_types.specs.TypeTable.{names_of, with_type}
use Rattle.ir_reader.specs.Typed.{with_types}

pub with_none : (ts : List TypeName) → with_types ts [] ≡ ts
with_none [] = refl
with_none (t ∷ ts) = refl

-- the next one too
pub with_next : (ts : List TypeName) (tys : List NamedType) (i : ℕ) (ty : NamedType) → i ≡ length tys → i < length ts → with_type (with_types ts tys) i ty ≡ with_types ts (tys ++ ty ∷ [])
with_next [] tys i ty e lt = absurd (omega arith)
with_next (t ∷ ts) [] zero ty e lt = ap (λ (l : List TypeName). record { name = t.name; ty = ty } ∷ l) (sym (with_none ts))
with_next (t ∷ ts) [] (suc i) ty e lt = absurd (omega arith)
with_next (t ∷ ts) (s ∷ tys) zero ty e lt = absurd (omega arith)
with_next (t ∷ ts) (s ∷ tys) (suc i) ty e lt = ap (λ (l : List TypeName). record { name = t.name; ty = s } ∷ l) (with_next ts tys i ty (omega arith) (omega arith))

pub with_names : (ts : List TypeName) (tys : List NamedType) → names_of (with_types ts tys) ≡ names_of ts
with_names [] tys = refl
with_names (t ∷ ts) [] = refl
with_names (t ∷ ts) (ty ∷ tys) = ap (λ (l : List Name). t.name ∷ l) (with_names ts tys)

pub with_length : (ts : List TypeName) (tys : List NamedType) → length (with_types ts tys) ≡ length ts
with_length [] tys = refl
with_length (t ∷ ts) [] = refl
with_length (t ∷ ts) (ty ∷ tys) = ap suc (with_length ts tys)

-- those behind stay
pub with_front : (ts more : List TypeName) (tys : List NamedType) → length tys ≤ length ts → with_types (ts ++ more) tys ≡ with_types ts tys ++ more
with_front [] more [] le = with_none more
with_front [] more (ty ∷ tys) le = absurd (omega arith)
with_front (t ∷ ts) more [] le = refl
with_front (t ∷ ts) more (ty ∷ tys) le = ap (λ (l : List TypeName). record { name = t.name; ty = ty } ∷ l) (with_front ts more tys (omega arith))

-- of those up to a place, the next
pub with_taken : (ts : List TypeName) (tys : List NamedType) (i : ℕ) (d : NamedType) → i < length tys → length tys ≤ length ts → with_type (with_types ts (take i tys)) i (get_or tys i d) ≡ with_types ts (take (i + 1) tys)
with_taken ts tys i d lt le =
    let e : i ≡ length (take i tys) = sym (length-take-le i tys (omega arith)) in
    with_next ts (take i tys) i (get_or tys i d) e (omega arith) ∙ ap (with_types ts) (sym (take_more tys i d lt))

pub set_next : (ts names new : List TypeName) (tys : List NamedType) (i : ℕ) (d : NamedType) → new ≡ with_type names i (get_or tys i d) → names ≡ with_types ts (take i tys) → i < length tys → length tys ≤ length ts → new ≡ with_types ts (take (i + 1) tys)
set_next ts names new tys i d e h lt le = e ∙ ap (λ (l : List TypeName). with_type l i (get_or tys i d)) h ∙ with_taken ts tys i d lt le
