-- The name at a place of a table of names.
use Rattle.std.proofs.Common.{◌≡◌, ℕ, zero, suc, List, [], ◌∷◌, ◌++◌, Some, sym, ap, ◌∙◌, append_assoc}
use Rattle.std.proofs.lemmas.List.{append-nil}
use Rattle.std.specs.Prelude.{slice_get}
use Rattle.text_forms.specs.View.{Extends}
use Rattle.ir_types.specs.declared.name.Name.{Name}
use Rattle.ir_types.specs.Names.{name_at}

-- what stands at a place is its name
pub name_got : (ns : List Name) (i : ℕ) (n : Name) → slice_get ns i ≡ Some n → name_at ns i ≡ n
name_got [] i n e = absurd cc
name_got (m ∷ ns) zero n e = cc
name_got (m ∷ ns) (suc i) n e = name_got ns i n e

-- and stays its name when others are added
got_before : (ns more : List Name) (i : ℕ) (n : Name) → slice_get ns i ≡ Some n → name_at (ns ++ more) i ≡ n
got_before [] more i n e = absurd cc
got_before (m ∷ ns) more zero n e = cc
got_before (m ∷ ns) more (suc i) n e = got_before ns more i n e

-- A name stands at its place in each later table.
pub name_stays : (ns later : List Name) (i : ℕ) (n : Name) → slice_get ns i ≡ Some n → Extends ns later → name_at later i ≡ n
name_stays ns later i n e x = ap (λ (l : List Name). name_at l i) x.parts ∙ got_before ns x.more i n e

-- A list extends itself.
pub extends_refl : {A : Type 0} (a : List A) → Extends a a
extends_refl a = record { more = []; parts = sym (append-nil a) }

-- What extends what extends a list extends the list.
pub extends_trans : {A : Type 0} (a b c : List A) → Extends a b → Extends b c → Extends a c
extends_trans a b c p q = record { more = p.more ++ q.more; parts = q.parts ∙ ap (λ (l : List _). l ++ q.more) p.parts ∙ append_assoc a p.more q.more }
