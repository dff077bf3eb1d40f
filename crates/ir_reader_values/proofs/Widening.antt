-- What a scope is when its lists have grown.
use Rattle.std.proofs.Common.{List, refl, sym, ◌∙◌}
use Rattle.text_forms.specs.View.{Extends}
use Rattle.ir_types.specs.declared.name.Name.{Name}
use Rattle.ir_types.proofs.NameAt.{extends_refl, extends_trans}
use Rattle.ir_reader_types.specs.Tables.{TableLists, Grows}
use Rattle.ir_reader_types.proofs.Growth.{grows_refl, grows_trans}
use Rattle.ir_reader_values.specs.declared.scope.Scope.{Scope}
use Rattle.ir_reader_values.specs.Seen.{definitions, Widens, IsSteady}

-- a scope widens itself
pub widens_refl : (s : Scope) → Widens s s
widens_refl s = record { names = extends_refl s.names; tables = grows_refl s.tables; definitions = refl }

-- what widens one that widens another widens that
pub widens_trans : (a b c : Scope) → Widens a b → Widens b c → Widens a c
widens_trans a b c p q = record {
  names = extends_trans a.names b.names c.names p.names q.names;
  tables = grows_trans a.tables b.tables c.tables p.tables q.tables;
  definitions = q.definitions ∙ p.definitions;
}

-- local names are added
pub names_widen : (s : Scope) (names : List Name) → Extends s.names names → Widens s (record s { names = names })
unfolding definitions
names_widen s names e = record { names = e; tables = grows_refl s.tables; definitions = refl }

-- the module's lists have grown
pub tables_widen : (s : Scope) (tables : TableLists) → Grows s.tables tables → Widens s (record s { tables = tables })
unfolding definitions
tables_widen s tables g = record { names = extends_refl s.names; tables = g; definitions = g.definitions }

-- what stays what it is stays so behind more
pub steady_behind : {X Y : Type 0} (view : Scope → X → Y) (a b : Scope) (x : X) → Widens a b → IsSteady view a x → IsSteady view b x
steady_behind view a b x w stays = λ later e. stays later (widens_trans a b later w e) ∙ sym (stays b w)
