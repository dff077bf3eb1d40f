-- Names that are looked up one after another.
use Rattle.std.proofs.Common.{◌≡◌, ℕ, zero, suc, ◌<◌, Bool, true, false, cond, List, [], ◌∷◌, ◌++◌, map, length, get_or, inl, inr, refl, sym, ap, ◌∙◌, append_assoc, arith}
use Rattle.std.specs.Prelude.{Contains}
use Rattle.std.proofs.lemmas.List.{append-nil}
use Rattle.std.proofs.lemmas.List.Elements.{filter_map-append}
use Rattle.std.proofs.lemmas.Map.Views.{Contains-from_any}
use Rattle.text_forms.proofs.Begins.{or_right}
use Rattle.ir_types.specs.declared.name.Name.{Name}
use Rattle.ir_types.specs.declared.memory_type.TypeName.{TypeName}
use Rattle.ir_types.specs.Names.{same_name, has_name, unknown}
use Rattle.ir_types.specs.TypeNodes.{TypeNode, called, as_called, names_used}
use Rattle.ir_reader_types.specs.TypeTable.{names_of, missing_entry, LooksUp, LooksUpSome, LooksUpAll}
use Rattle.ir_reader_types.proofs.FirstPlaces.{same_name-Decides}

-- some names, and then others
pub unknown_append : (known xs ys : List Name) → unknown known (xs ++ ys) ≡ unknown known xs ++ unknown (known ++ unknown known xs) ys
unknown_append known [] ys = ap (λ (l : List Name). unknown l ys) (sym (append-nil known))
unknown_append known (x ∷ xs) ys = by (has_name x known) (unknown_append known xs ys) (unknown_append (known ++ x ∷ []) xs ys)
  where
    more : List Name
    more = unknown (known ++ x ∷ []) xs

    by : (b : Bool) → unknown known (xs ++ ys) ≡ unknown known xs ++ unknown (known ++ unknown known xs) ys → unknown (known ++ x ∷ []) (xs ++ ys) ≡ more ++ unknown ((known ++ x ∷ []) ++ more) ys
        → cond b (unknown known (xs ++ ys)) (x ∷ unknown (known ++ x ∷ []) (xs ++ ys)) ≡ cond b (unknown known xs) (x ∷ more) ++ unknown (known ++ cond b (unknown known xs) (x ∷ more)) ys
    by true there new = there
    by false there new = ap (λ (l : List Name). x ∷ l) new ∙ ap (λ (l : List Name). x ∷ (more ++ unknown l ys)) (append_assoc known (x ∷ []) more)

pub names_append : (xs ys : List TypeName) → names_of (xs ++ ys) ≡ names_of xs ++ names_of ys
names_append [] ys = refl
names_append (x ∷ xs) ys = ap (λ (l : List Name). x.name ∷ l) (names_append xs ys)

pub missing_names : (ns : List Name) → names_of (map missing_entry ns) ≡ ns
missing_names [] = refl
missing_names (n ∷ ns) = ap (λ (l : List Name). n ∷ l) (missing_names ns)

missing_append : (xs ys : List Name) → map missing_entry (xs ++ ys) ≡ map missing_entry xs ++ map missing_entry ys
missing_append [] ys = refl
missing_append (x ∷ xs) ys = ap (λ (l : List TypeName). missing_entry x ∷ l) (missing_append xs ys)

-- entries in which names were looked up, and then others
pub looked_up : (old mid new : List TypeName) (used more : List Name) → mid ≡ old ++ map missing_entry (unknown (names_of old) used) → new ≡ mid ++ map missing_entry (unknown (names_of mid) more) → new ≡ old ++ map missing_entry (unknown (names_of old) (used ++ more))
looked_up old mid new used more e d =
    let here = unknown (names_of old) used in
    let known : names_of mid ≡ names_of old ++ here = ap names_of e ∙ names_append old (map missing_entry here) ∙ ap (λ (l : List Name). names_of old ++ l) (missing_names here) in
    let behind = unknown (names_of old ++ here) more in
    d
    ∙ ap (λ (l : List Name). mid ++ map missing_entry (unknown l more)) known
    ∙ ap (λ (l : List TypeName). l ++ map missing_entry behind) e
    ∙ append_assoc old (map missing_entry here) (map missing_entry behind)
    ∙ ap (λ (l : List TypeName). old ++ l) (sym (missing_append here behind))
    ∙ ap (λ (l : List Name). old ++ map missing_entry l) (sym (unknown_append (names_of old) used more))

pub used_append : (xs ys : List TypeNode) → names_used (xs ++ ys) ≡ names_used xs ++ names_used ys
used_append xs ys = filter_map-append as_called xs ys

-- types that use no names
pub looks_up_none : (names : List TypeName) (nodes : List TypeNode) → names_used nodes ≡ [] → LooksUpAll names nodes names
looks_up_none names nodes e = sym (ap (λ (l : List Name). names ++ map missing_entry (unknown (names_of names) l)) e ∙ append-nil names)

-- types that use the same names
pub looks_up_same : (old new : List TypeName) (nodes others : List TypeNode) → names_used nodes ≡ names_used others → LooksUpAll old nodes new → LooksUpAll old others new
looks_up_same old new nodes others e h = h ∙ ap (λ (l : List Name). old ++ map missing_entry (unknown (names_of old) l)) e

pub looks_up_more : (old mid new : List TypeName) (nodes more : List TypeNode) → LooksUpAll old nodes mid → LooksUpAll mid more new → LooksUpAll old (nodes ++ more) new
looks_up_more old mid new nodes more h k = looked_up old mid new (names_used nodes) (names_used more) h k ∙ ap (λ (l : List Name). old ++ map missing_entry (unknown (names_of old) l)) (sym (used_append nodes more))

-- ---- one name

pub has_this : (n : Name) (ns : List Name) (i : ℕ) → i < length ns → get_or ns i n ≡ n → has_name n ns ≡ true
has_this n [] i lt e = absurd (omega arith)
has_this n (m ∷ ns) zero lt e = rw ((same_name-Decides n m).1 (sym e)) refl
has_this n (m ∷ ns) (suc i) lt e = or_right (same_name n m) (has_name n ns) (has_this n ns i (omega arith) e)

pub has_none : (n : Name) (ns : List Name) → ¬ Contains ns n → has_name n ns ≡ false
has_none n ns h = by (has_name n ns) refl
  where
    by : (b : Bool) → has_name n ns ≡ b → b ≡ false
    by true e = absurd (h (Contains-from_any (λ x y s. (same_name-Decides x y).0 s) n ns e))
    by false e = refl

-- one name is looked up
pub looks_up_one : (old new : List TypeName) (name : Name) → LooksUp old name new → LooksUpAll old (called name ∷ []) new
looks_up_one old new name (inl h) = h.1 ∙ sym (rw (has_this name (names_of old) h.0.0 h.0.1 h.0.2) (append-nil old))
looks_up_one old new name (inr h) = h.1 ∙ sym (rw (has_none name (names_of old) h.0) refl)

-- ---- some names

pub looks_up_nothing : (names : List TypeName) → LooksUpSome names names
looks_up_nothing names = record { used = []; parts = sym (append-nil names) }

pub looks_up_further : (old mid new : List TypeName) → LooksUpSome old mid → LooksUpSome mid new → LooksUpSome old new
looks_up_further old mid new h k = record { used = h.used ++ k.used; parts = looked_up old mid new h.used k.used h.parts k.parts }

pub looks_up_this : (old new : List TypeName) (name : Name) → LooksUp old name new → LooksUpSome old new
looks_up_this old new name h = record { used = name ∷ []; parts = looks_up_one old new name h }
