use Rattle.std.proofs.Common.{◌≡◌, length, arith, ap, sym, ◌∙◌, Some}
use Rattle.std.specs.Prelude.{slice_get}
use Rattle.ir_types.specs.Names.{IsTable, Adds}
use Rattle.ir_types.proofs.SameNames.{Adds-insert_key, IsTable-Adds, name_eq-Decides}
use Rattle.ir_types.proofs.NameAt.{name_got, name_stays}
use Rattle.ir_types.proofs.name.Names.add.Goals as goal

adds : (c : goal.In_ok-place) → Adds c.args.self.now c.args.name c.insert_full.new.self.keys
adds c = rw (c.in_ok-place.ensures.keys, ← c.self.view_is) (Adds-insert_key _ _)

table : (c : goal.In_ok-place) → IsTable c.insert_full.new.self.keys
table c = IsTable-Adds _ _ _ (omega (arith, ap length c.self.view_is)) c.insert_full.ensures.unique (adds c)

pub invariant_of-self-2 : goal.invariant_of-self-2
invariant_of-self-2 c = table c

pub returns-clause-ok : goal.returns-clause-ok
returns-clause-ok c = adds c

pub returns-clause-table : goal.returns-clause-table
returns-clause-table c = table c

stored : (c : goal.In_ok-place) → slice_get c.insert_full.new.self.keys c.in_ok-place.place ≡ Some c.args.name
stored c = let s = c.in_ok-place.ensures.stored in s.1 ∙ ap Some (sym ((name_eq-Decides c.args.name s.0).0 s.2))

pub returns-clause-place : goal.returns-clause-place
returns-clause-place c = name_got c.insert_full.new.self.keys c.in_ok-place.place c.args.name (stored c)

pub returns-clause-stays : goal.returns-clause-stays
returns-clause-stays c = λ later x. name_stays c.insert_full.new.self.keys later c.in_ok-place.place c.args.name (stored c) x
