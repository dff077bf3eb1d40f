-- The names of symbols by their places.
use Rattle.std.proofs.Common.{◌≡◌, ℕ, zero, suc, ◌<◌, List, [], ◌∷◌, length, map, get_or, refl, ap, ◌∙◌, arith}
use Rattle.ir_types.specs.declared.module.Symbol.{Symbol}
use Rattle.ir_types.specs.Names.{name_at}

-- the name of a symbol that stands at a place
pub symbol_at : (ss : List Symbol) (i : ℕ) (s : Symbol) → i < length ss → s ≡ get_or ss i s → s.name ≡ name_at (map (λ (s : Symbol). s.name) ss) i
symbol_at ss i s within e = ap (λ (x : Symbol). x.name) e ∙ at ss i within where
  at : (xs : List Symbol) (k : ℕ) → k < length xs → (get_or xs k s).name ≡ name_at (map (λ (s : Symbol). s.name) xs) k
  at [] k lt = absurd (omega (arith, lt))
  at (x ∷ xs) zero lt = refl
  at (x ∷ xs) (suc k) lt = at xs k (omega (arith, lt))
