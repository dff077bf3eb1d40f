-- Steps one after another.
use Rattle.std.proofs.Common.{◌≡◌, ℕ, ◌+◌, ◌%◌, ◌^◌, ◌<◌, ◌≤◌, List, [], ◌∷◌, map, length, get_or, drop, drop-cons, drop_of_length-le, add-one, Option, Some, None, refl, sym, ap, ◌∙◌, arith}
use Rattle.text_forms.specs.Bind.{◌>>=◌}
use Rattle.ir_types.specs.TypeNodes.{TypeNode}
use Rattle.ir_types.specs.Offsets.{Definitions, unnamed, stepped_into, path_offset, small_size, scaled, offset_of}
use Rattle.ir_sizes.specs.declared.offsets.Index.{Index}
use Rattle.ir_sizes.specs.Stepping.{index_pair, step_by}

-- so many bytes more
abbrev pub and_more : ℕ → Option ℕ → Option ℕ
and_more bytes o = o >>= λ more. Some ((bytes + more) % 2 ^ 64)

-- the bytes of a step and of those behind it
abbrev behind_step : Definitions → List (ℕ × ℕ) → ℕ × List TypeNode → Option ℕ
behind_step defs more s = path_offset defs s.1 more >>= λ o. Some ((s.0 + o) % 2 ^ 64)

joined_steps : {A B C : Type 0} (o : Option A) (f : A → Option B) (g : B → Option C) → (o >>= λ a. f a >>= g) ≡ ((o >>= f) >>= g)
joined_steps None f g = refl
joined_steps (Some a) f g = refl

module _ (defs : Definitions) where
  by_step : (nodes : List TypeNode) (i : ℕ × ℕ) (more : List (ℕ × ℕ)) → path_offset defs nodes (i ∷ more) ≡ (step_by defs nodes i >>= behind_step defs more)
  by_step nodes i more = joined_steps (unnamed (length defs) defs nodes) (λ u. stepped_into defs u i) (behind_step defs more)

  pub path_refused : (nodes : List TypeNode) (i : ℕ × ℕ) (more : List (ℕ × ℕ)) → step_by defs nodes i ≡ None → path_offset defs nodes (i ∷ more) ≡ None
  path_refused nodes i more e = by_step nodes i more ∙ ap (λ (o : Option (ℕ × List TypeNode)). o >>= behind_step defs more) e

  pub no_bytes_more : (nodes : List TypeNode) (is : List (ℕ × ℕ)) → path_offset defs nodes is ≡ and_more 0 (path_offset defs nodes is)
  no_bytes_more nodes [] = refl
  no_bytes_more nodes (i ∷ more) = by_step nodes i more ∙ small (step_by defs nodes i) ∙ ap (and_more 0) (sym (by_step nodes i more))
    where
      least : (b : ℕ) (o : Option ℕ) → (o >>= λ k. Some ((b + k) % 2 ^ 64)) ≡ and_more 0 (o >>= λ k. Some ((b + k) % 2 ^ 64))
      least b None = refl
      least b (Some k) = let e : (b + k) % 2 ^ 64 ≡ (0 + (b + k) % 2 ^ 64) % 2 ^ 64 = omega arith in ap (λ (n : ℕ). Some n) e

      small : (o : Option (ℕ × List TypeNode)) → (o >>= behind_step defs more) ≡ and_more 0 (o >>= behind_step defs more)
      small None = refl
      small (Some s) = least s.0 (path_offset defs s.1 more)

  pub path_step : (bytes : ℕ) (nodes : List TypeNode) (i : ℕ × ℕ) (more : List (ℕ × ℕ)) (b : ℕ) (to : List TypeNode) → step_by defs nodes i ≡ Some (b, to) → and_more bytes (path_offset defs nodes (i ∷ more)) ≡ and_more ((bytes + b) % 2 ^ 64) (path_offset defs to more)
  path_step bytes nodes i more b to e =
      ap (and_more bytes) (by_step nodes i more ∙ ap (λ (o : Option (ℕ × List TypeNode)). o >>= behind_step defs more) e) ∙ sum (path_offset defs to more)
    where
      sum : (o : Option ℕ) → and_more bytes (o >>= λ k. Some ((b + k) % 2 ^ 64)) ≡ and_more ((bytes + b) % 2 ^ 64) o
      sum None = refl
      sum (Some k) = let e : (bytes + (b + k) % 2 ^ 64) % 2 ^ 64 ≡ ((bytes + b) % 2 ^ 64 + k) % 2 ^ 64 = omega arith in ap (λ (n : ℕ). Some n) e

-- the indexes from a place on
pub one_more : (indexes : List Index) (k : ℕ) (d : Index) → k < length indexes → map index_pair (drop k indexes) ≡ index_pair (get_or indexes k d) ∷ map index_pair (drop (k + 1) indexes)
one_more indexes k d h = ap (map index_pair) (drop-cons indexes k d h ∙ ap (λ (n : ℕ). get_or indexes k d ∷ drop n indexes) (sym (add-one k)))

-- none stand there
pub no_more : (indexes : List Index) (k : ℕ) → length indexes ≤ k → map index_pair (drop k indexes) ≡ []
no_more indexes k h = ap (map index_pair) (drop_of_length-le indexes h)

pub nothing_more : (bytes : ℕ) → bytes < 2 ^ 64 → Some bytes ≡ and_more bytes (Some 0)
nothing_more bytes h = let e : bytes ≡ (bytes + 0) % 2 ^ 64 = omega arith in ap (λ (n : ℕ). Some n) e

-- ---- the first index

module _ (defs : Definitions) (nodes : List TypeNode) (i : ℕ × ℕ) (more : List (ℕ × ℕ)) where
  pub offset_unsized : small_size defs nodes ≡ None → offset_of defs nodes (i ∷ more) ≡ None
  offset_unsized e = ap (λ (o : Option ℕ). o >>= λ s. path_offset defs nodes more >>= λ k. Some ((scaled s i + k) % 2 ^ 64)) e

  pub offset_found : (s k : ℕ) → small_size defs nodes ≡ Some s → path_offset defs nodes more ≡ Some k → offset_of defs nodes (i ∷ more) ≡ Some ((scaled s i + k) % 2 ^ 64)
  offset_found s k e f =
      ap (λ (o : Option ℕ). o >>= λ s. path_offset defs nodes more >>= λ k. Some ((scaled s i + k) % 2 ^ 64)) e
      ∙ ap (λ (o : Option ℕ). o >>= λ k. Some ((scaled s i + k) % 2 ^ 64)) f

  pub offset_refused : (s : ℕ) → small_size defs nodes ≡ Some s → path_offset defs nodes more ≡ None → offset_of defs nodes (i ∷ more) ≡ None
  offset_refused s e f =
      ap (λ (o : Option ℕ). o >>= λ s. path_offset defs nodes more >>= λ k. Some ((scaled s i + k) % 2 ^ 64)) e
      ∙ ap (λ (o : Option ℕ). o >>= λ k. Some ((scaled s i + k) % 2 ^ 64)) f
