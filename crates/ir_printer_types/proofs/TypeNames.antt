-- The name at a place of a list of named things.
use Rattle.std.proofs.Common.{◌≡◌, ◌<◌, ℕ, zero, suc, List, [], ◌∷◌, length, get_or, sym, ap, arith}
use Rattle.std.specs.Prelude.{map}
use Rattle.ir_types.specs.declared.name.Name.{Name}
use Rattle.ir_types.specs.Names.{name_at}

-- the name at a place is that of the one there
pub named_by : {A : Type 0} (name : A → Name) (xs : List A) (k : ℕ) (x : A) → k < length xs → x ≡ get_or xs k x → name_at (map name xs) k ≡ name x
named_by name [] k x lt e = absurd (omega arith)
named_by name (y ∷ xs) zero x lt e = ap name (sym e)
named_by name (y ∷ xs) (suc k) x lt e = named_by name xs k x (omega arith) e
