-- Lists that are seen the same in all later scopes.
use Rattle.std.proofs.Common.{◌≡◌, List, [], ◌∷◌, ◌++◌, map, sym, ap, ◌∙◌}
use Rattle.std.proofs.lemmas.List.{map_push}
use Rattle.ir_reader_values.specs.declared.scope.Scope.{Scope}
use Rattle.ir_reader_values.specs.Seen.{Widens, IsSteady, AreSteady}
use Rattle.ir_reader_values.proofs.Widening.{widens_trans}

module _ {A B : Type 0} (view : Scope → A → B) (m n : Scope) (xs ys : List A) (x : A) (pushed : ys ≡ xs ++ x ∷ []) (w : Widens m n) (all : AreSteady view m xs) where
  seen_in : (s : Scope) → map (view s) ys ≡ map (view s) xs ++ view s x ∷ []
  seen_in s = ap (λ (l : List A). map (view s) l) pushed ∙ map_push (view s) xs x

  -- one more at the end
  pub push_seen : map (view n) ys ≡ map (view m) xs ++ view n x ∷ []
  push_seen = seen_in n ∙ ap (λ (l : List B). l ++ view n x ∷ []) (all n w)

  pub push_steady : IsSteady view n x → AreSteady view n ys
  push_steady one = λ later e.
      seen_in later
      ∙ ap (λ (l : List B). l ++ view later x ∷ []) (all later (widens_trans m n later w e))
      ∙ ap (λ (b : B). map (view m) xs ++ b ∷ []) (one later e)
      ∙ sym push_seen
