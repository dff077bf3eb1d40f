-- What tables are when they have grown.
use Rattle.std.proofs.Common.{◌≡◌, ◌≢◌, ℕ, zero, suc, ◌<◌, ◌≤◌, ◌⊎◌, Bool, true, false, cond, List, [], ◌∷◌, ◌++◌, map, length, Some, Result, Ok, Err, refl, sym, ap, ◌∙◌, subst, inl, inr, true≢false, append_assoc, arith, length-append}
use Rattle.std.specs.Prelude.{slice_get, Contains, OnOk, OnErr}
use Rattle.std.specs.Option.{option_map}
use Rattle.std.specs.List.{AllByRecursion, filter_map}
use Rattle.std.proofs.lemmas.Bool.{cases_lt}
use Rattle.std.proofs.lemmas.List.{append-nil}
use Rattle.std.proofs.lemmas.Option.{slice_get-get_or, slice_get_within, get_or_from_slice_get, slice_get-map}
use Rattle.text_forms.specs.View.{Extends}
use Rattle.ir_types.specs.declared.name.Name.{Name}
use Rattle.ir_types.specs.declared.name.Name.TheVariants.{Number}
use Rattle.ir_types.specs.declared.memory_type.TypeName.{TypeName}
use Rattle.ir_types.specs.declared.memory_type.NamedType.{NamedType}
use Rattle.ir_types.specs.declared.memory_type.NamedType.TheVariants.{Defined, Opaque, Missing}
use Rattle.ir_types.specs.declared.memory_type.MemTy.{MemTy}
use Rattle.ir_types.specs.Names.{Adds, name_at, has_name, unknown}
use Rattle.ir_types.specs.Types.{AreTypes}
use Rattle.ir_types.specs.TypeNodes.{TypeNode}
use Rattle.ir_types.proofs.NameAt.{name_got, name_stays, extends_refl, extends_trans}
use Rattle.ir_reader_types.specs.TypeTable.{names_of, missing_entry}
use Rattle.ir_reader_types.specs.Tables.{TableLists, definition_over, Grows, IsDefinedBefore, AreEntriesApart, AreTables}
use Rattle.ir_reader_types.proofs.FirstPlaces.{names_push}
use Rattle.ir_reader_types.proofs.LookUps.{has_this}
use Rattle.ir_reader_types.proofs.NodeLists.{nodes_stay}

pub grows_refl : (t : TableLists) → Grows t t
grows_refl t = record { symbols = extends_refl t.symbols; known = refl; entries = extends_refl t.entries; types = extends_refl t.types; definitions = refl }

pub grows_trans : (a b c : TableLists) → Grows a b → Grows b c → Grows a c
grows_trans a b c p q = record {
  symbols = extends_trans a.symbols b.symbols c.symbols p.symbols q.symbols;
  known = q.known ∙ p.known;
  entries = extends_trans a.entries b.entries c.entries p.entries q.entries;
  types = extends_trans a.types b.types c.types p.types q.types;
  definitions = q.definitions ∙ p.definitions;
}

-- ---- a place in a list with one more at its end

got_front : {A : Type 0} (xs : List A) (y : A) (i : ℕ) (x : A) → slice_get (xs ++ y ∷ []) i ≡ Some x → i < length xs → slice_get xs i ≡ Some x
got_front [] y i x e lt = absurd (omega arith)
got_front (z ∷ xs) y zero x e lt = e
got_front (z ∷ xs) y (suc i) x e lt = got_front xs y i x e (omega arith)

got_end : {A : Type 0} (xs : List A) (y : A) (i : ℕ) (x : A) → slice_get (xs ++ y ∷ []) i ≡ Some x → length xs ≤ i → (i ≡ length xs) × (x ≡ y)
got_end [] y zero x e le = (refl, cc)
got_end [] y (suc i) x e le = absurd cc
got_end (z ∷ xs) y zero x e le = absurd (omega arith)
got_end (z ∷ xs) y (suc i) x e le = let g = got_end xs y i x e (omega arith) in (ap suc g.0, g.1)

pub contains_got : {A : Type 0} (xs : List A) (i : ℕ) (x : A) → slice_get xs i ≡ Some x → Contains xs x
contains_got xs i x e = (i, slice_get_within xs i x e, get_or_from_slice_get xs i x x e)

-- ---- symbols

adds_extend : (old : List Name) (name : Name) (new : List Name) → Adds old name new → Extends old new
adds_extend old name new (inl there) = subst (λ (l : List Name). Extends old l) (sym there.1) (extends_refl old)
adds_extend old name new (inr fresh) = record { more = name ∷ []; parts = fresh.1 }

pub extends_length : {A : Type 0} (old new : List A) → Extends old new → length old ≤ length new
extends_length old new x = omega (arith, ap length x.parts, length-append old x.more)

-- another symbol, and nothing else
with_symbol : (t : TableLists) (name : Name) (symbols : List Name) → Adds t.symbols name symbols → AreTables t → AreTables (record t { symbols = symbols })
with_symbol t name symbols a h =
    record {
      known = omega (arith, h.known, extends_length t.symbols symbols (adds_extend t.symbols name symbols a));
      types_are = h.types_are;
      defined = h.defined;
      entries_apart = h.entries_apart;
      extents_are = h.extents_are;
    }

pub tables_with_symbol : {X E : Type 0} (r : Result X E) (t : TableLists) (name : Name) (symbols : List Name) → OnOk r (Adds t.symbols name symbols) → OnErr r (symbols ≡ t.symbols) → AreTables t → AreTables (record t { symbols = symbols })
tables_with_symbol (Ok x) t name symbols a same h = with_symbol t name symbols a h
tables_with_symbol (Err x) t name symbols a same h = subst (λ (l : List Name). AreTables (record t { symbols = l })) (sym same) h

pub symbol_stays : (symbols later : List Name) (i : ℕ) → i < length symbols → Extends symbols later → name_at later i ≡ name_at symbols i
symbol_stays symbols later i lt x = name_stays symbols later i _ (slice_get-get_or symbols i (Number 0) lt) x ∙ sym (name_got symbols i _ (slice_get-get_or symbols i (Number 0) lt))

-- ---- entries

pub got_name : (entries : List TypeName) (i : ℕ) (x : TypeName) → slice_get entries i ≡ Some x → slice_get (names_of entries) i ≡ Some x.name
got_name entries i x e = slice_get-map (λ (t : TypeName). t.name) entries i ∙ ap (option_map (λ (t : TypeName). t.name)) e

entries_push : (entries : List TypeName) (name : Name) → ¬ Contains (names_of entries) name → AreEntriesApart entries → AreEntriesApart (entries ++ missing_entry name ∷ [])
entries_push entries name fresh h = λ i j x y a b. by i j x y a b (cases_lt i (length entries)) (cases_lt j (length entries))
  where
    new : TypeName
    new = missing_entry name

    apart : (i : ℕ) (x : TypeName) → slice_get entries i ≡ Some x → x.name ≢ name
    apart i x a = λ e. fresh (subst (λ (m : Name). Contains (names_of entries) m) e (contains_got (names_of entries) i x.name (got_name entries i x a)))

    by : (i j : ℕ) (x y : TypeName) → slice_get (entries ++ new ∷ []) i ≡ Some x → slice_get (entries ++ new ∷ []) j ≡ Some y → (i < length entries) ⊎ (length entries ≤ i) → (j < length entries) ⊎ (length entries ≤ j) → x.ty ≡ Missing → i ≢ j → x.name ≢ y.name
    by i j x y a b (inl p) (inl q) m d = h i j x y (got_front entries new i x a p) (got_front entries new j y b q) m d
    by i j x y a b (inl p) (inr q) m d = λ e. apart i x (got_front entries new i x a p) (e ∙ ap (λ (t : TypeName). t.name) (got_end entries new j y b q).1)
    by i j x y a b (inr p) (inl q) m d = λ e. apart j y (got_front entries new j y b q) (sym e ∙ ap (λ (t : TypeName). t.name) (got_end entries new i x a p).1)
    by i j x y a b (inr p) (inr q) m d = absurd (d ((got_end entries new i x a p).0 ∙ sym (got_end entries new j y b q).0))

pub none_of : (n : Name) (ns : List Name) → has_name n ns ≡ false → ¬ Contains ns n
none_of n ns e = λ h. true≢false (sym (has_this n ns h.0 h.1 h.2) ∙ e)

-- names that were looked up one after another are apart
pub entries_looked : (entries : List TypeName) (used : List Name) → AreEntriesApart entries → AreEntriesApart (entries ++ map missing_entry (unknown (names_of entries) used))
entries_looked entries [] h = subst AreEntriesApart (sym (append-nil entries)) h
entries_looked entries (n ∷ ns) h = by (has_name n (names_of entries)) refl (entries_looked entries ns h) (λ fresh. entries_looked more ns (entries_push entries n fresh h))
  where
    more : List TypeName
    more = entries ++ missing_entry n ∷ []

    behind : List Name
    behind = unknown (names_of entries ++ n ∷ []) ns

    same : more ++ map missing_entry (unknown (names_of more) ns) ≡ entries ++ map missing_entry (n ∷ behind)
    same = ap (λ (l : List Name). more ++ map missing_entry (unknown l ns)) (names_push entries (missing_entry n)) ∙ append_assoc entries (missing_entry n ∷ []) (map missing_entry behind)

    by : (b : Bool) → has_name n (names_of entries) ≡ b → AreEntriesApart (entries ++ map missing_entry (unknown (names_of entries) ns)) → (¬ Contains (names_of entries) n → AreEntriesApart (more ++ map missing_entry (unknown (names_of more) ns)))
        → AreEntriesApart (entries ++ map missing_entry (cond b (unknown (names_of entries) ns) (n ∷ behind)))
    by true e there new = there
    by false e there new = subst AreEntriesApart same (new (none_of n (names_of entries) e))

-- ---- definitions

module _ (names later : List Name) (types others : List MemTy) (are : AreTypes names 0 types) (n : Extends names later) (t : Extends types others) where
  definition_stays : (name : Name) (ty : NamedType) → IsDefinedBefore (length types) (record { name = name; ty = ty }) → definition_over later others (record { name = name; ty = ty }) ≡ definition_over names types (record { name = name; ty = ty })
  definition_stays name (Defined id) h = ap (λ (l : List TypeNode). Some (name, Some l)) (nodes_stay names later types others id are h n t)
  definition_stays name Opaque h = refl
  definition_stays name Missing h = refl

  no_definitions : (ns : List Name) → filter_map (definition_over later others) (map missing_entry ns) ≡ []
  no_definitions [] = refl
  no_definitions (m ∷ ns) = no_definitions ns

  -- those of the entries, where names are added that are only used
  pub definitions_stay : (entries : List TypeName) (ns : List Name) → AllByRecursion (IsDefinedBefore (length types)) entries → filter_map (definition_over later others) (entries ++ map missing_entry ns) ≡ filter_map (definition_over names types) entries
  definitions_stay [] ns h = no_definitions ns
  definitions_stay (e ∷ entries) ns h = rw (definition_stays e.name e.ty h.0, definitions_stay entries ns h.1) refl
