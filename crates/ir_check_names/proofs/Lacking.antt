-- The first name of a memory type that isn't known is the first that is missing, and what is missing isn't known.
use Rattle.std.proofs.Common.{◌≡◌, ◌≢◌, ◌<◌, ◌≤◌, ◌-◌, ◌+◌, ℕ, zero, suc, Bool, true, false, not, cond, ◌||◌, List, [], ◌∷◌, ◌++◌, map, length, get_or, Option, Some, None, refl, sym, ap, ◌∙◌, ◌⊎◌, inl, inr, arith}
use Rattle.std.specs.Prelude.{slice_get}
use Rattle.std.specs.Option.{option_map}
use Rattle.std.specs.List.{list_any}
use Rattle.std.proofs.lemmas.Bool.{cases_lt}
use Rattle.std.proofs.lemmas.List.{map-append, length-map, length-append}
use Rattle.std.proofs.lemmas.List.Elements.{filter-append, filter_map-append}
use Rattle.text_forms.specs.Nested.{concat}
use Rattle.ir_types.specs.declared.name.Name.{Name}
use Rattle.ir_types.specs.declared.memory_type.TypeId.{TypeId}
use Rattle.ir_types.specs.declared.memory_type.TypeName.{TypeName}
use Rattle.ir_types.specs.declared.memory_type.NamedType.{NamedType}
use Rattle.ir_types.specs.declared.memory_type.NamedType.TheVariants.{Defined, Opaque, Missing}
use Rattle.ir_types.specs.declared.memory_type.MemTy.{MemTy}
use Rattle.ir_types.specs.declared.memory_type.MemTy.TheVariants.{One, Array, Struct, Named}
use Rattle.ir_types.specs.declared.module.Symbol.{Symbol}
use Rattle.ir_types.specs.declared.module.SymbolKind.{SymbolKind}
use Rattle.ir_types.specs.declared.module.SymbolKind.TheVariants as symbols
use Rattle.ir_types.specs.declared.module.Module.{Module}
use Rattle.std.proofs.lemmas.Option.{slice_get-map}
use Rattle.ir_types.proofs.NameAt.{name_got}
use Rattle.ir_types.specs.Denotes.{type_names_of, Denotes}
use Rattle.ir_types.specs.Names.{same_name, has_name, name_at, unknown}
use Rattle.ir_types.specs.Tree.{ModuleTree, TypeNameTree, SymbolTree}
use Rattle.ir_types.specs.TypeNodes.{TypeNode, called, closing, nodes_at, nodes_from, all_nodes, type_nodes, as_called, names_used}
use Rattle.ir_types.specs.Types.{IsTypeAt, AreTypes}
use Rattle.ir_types.specs.Used.{with_unknown, types_used, symbols_used}
use Rattle.ir_text_laws.proofs.Behind.{missing_types, missing_symbols}
use Rattle.ir_rules.specs.declared.fault.Subject.{Subject}
use Rattle.ir_rules.specs.declared.fault.Subject.TheVariants as subjects
use Rattle.ir_rules.specs.Breaches.{first}
use Rattle.ir_rules.specs.Unknown.{Known, is_known, unknown_of}
use Rattle.ir_check_names.specs.Choice.{or_else, first_of}
use Rattle.ir_check_names.specs.Definitions.{is_symbol_known}
use Rattle.ir_check_names.specs.Repeated.{is_type_known}
use Rattle.ir_check_names.specs.Missing.{missing_at, if_missing, missing_called, missing_from, missing_names}
use Rattle.ir_check_names.specs.FirstUnknown.{type_subject}
use Rattle.ir_check_names.proofs.Choosing.{first_both, mapped_both, or_none}
use Rattle.ir_check_names.proofs.Marked.{has_itself, got_at, marks_of}

-- ---- what isn't known

-- the first of some that isn't
abbrev pub first_unmet : Known → List Subject → Option Subject
first_unmet k subjects = first (unknown_of k subjects)

-- the first unknown of two lists behind one another
pub unmet_both : (k : Known) (xs ys : List Subject) → first_unmet k (xs ++ ys) ≡ or_else (first_unmet k xs) (first_unmet k ys)
unmet_both k xs ys = ap first (filter-append (λ s. not (is_known k s)) xs ys) ∙ first_both (unknown_of k xs) (unknown_of k ys)

-- and of a single one
pub unmet_one : (k : Known) (s : Subject) (b : Bool) → is_known k s ≡ b → cond b None (Some s) ≡ first_unmet k (s ∷ [])
unmet_one k s true e = rw e refl
unmet_one k s false e = rw e refl

-- ---- names that are only used are new

any_front : (p : Name → Bool) (xs ys : List Name) → list_any p (xs ++ ys) ≡ false → list_any p xs ≡ false
any_front p [] ys e = refl
any_front p (x ∷ xs) ys e = by (p x) (any_front p xs ys) e
  where
    by : (b : Bool) → (list_any p (xs ++ ys) ≡ false → list_any p xs ≡ false) → (b || list_any p (xs ++ ys)) ≡ false → (b || list_any p xs) ≡ false
    by true h e = e
    by false h e = h e

-- of names at their places, each is new
abbrev AreNew : List Name → List Name → Type 0
AreNew known names = (i : ℕ) → i < length names → has_name (name_at names i) known ≡ false

unknown_new : (known names : List Name) → AreNew known (unknown known names)
unknown_new known [] = λ i lt. absurd (omega arith)
unknown_new known (n ∷ names) = by (has_name n known) refl (unknown_new known names) (unknown_new (known ++ n ∷ []) names)
  where
    by : (b : Bool) → has_name n known ≡ b → AreNew known (unknown known names) → AreNew (known ++ n ∷ []) (unknown (known ++ n ∷ []) names) → AreNew known (cond b (unknown known names) (n ∷ unknown (known ++ n ∷ []) names))
    by true e there new i lt = there i lt
    by false e there new zero lt = e
    by false e there new (suc i) lt = any_front (same_name (name_at (unknown (known ++ n ∷ []) names) i)) known (n ∷ []) (new i (omega arith))

name_left : (xs ys : List Name) (i : ℕ) → i < length xs → name_at (xs ++ ys) i ≡ name_at xs i
name_left [] ys i lt = absurd (omega arith)
name_left (x ∷ xs) ys zero lt = refl
name_left (x ∷ xs) ys (suc i) lt = name_left xs ys i (omega arith)

name_right : (xs ys : List Name) (i : ℕ) → name_at (xs ++ ys) (length xs + i) ≡ name_at ys i
name_right [] ys i = let e : 0 + i ≡ i = omega arith in ap (name_at ys) e
name_right (x ∷ xs) ys i = let e : suc (length xs) + i ≡ suc (length xs + i) = omega arith in ap (name_at (x ∷ xs ++ ys)) e ∙ name_right xs ys i

-- the first so many are known, and no more
front_known : (known used : List Name) (i : ℕ) → i < length known → has_name (name_at (with_unknown known used) i) known ≡ true
front_known known used i lt = ap (λ n. has_name n known) (name_left known (unknown known used) i lt) ∙ has_itself known i lt

rest_new : (known used : List Name) (i : ℕ) → length known ≤ i → i < length (with_unknown known used) → has_name (name_at (with_unknown known used) i) known ≡ false
rest_new known used i le lt =
    let j = i - length known in
    let e : i ≡ length known + j = omega arith in
    let within : j < length (unknown known used) = omega (arith, length-append known (unknown known used)) in
    ap (λ n. has_name n known) (ap (name_at (with_unknown known used)) e ∙ name_right known (unknown known used) j) ∙ unknown_new known used j within

-- ---- entries of a module's lists

within : {A : Type 0} (xs : List A) (i : ℕ) (x : A) → slice_get xs i ≡ Some x → i < length xs
within [] i x e = absurd cc
within (y ∷ xs) zero x e = omega arith
within (y ∷ xs) (suc i) x e = let lt = within xs i x e in omega arith

-- a name is known where it stands among the first, as what has it is defined
known_where : (known used names : List Name) (i : ℕ) (n : Name) (b : Bool) → names ≡ with_unknown known used → slice_get names i ≡ Some n → (i < length known → b ≡ true) → (length known ≤ i → b ≡ false) → has_name n known ≡ b
known_where known used names i n b e at front rest = by (cases_lt i (length known))
  where
    name : name_at (with_unknown known used) i ≡ n
    name = ap (λ ns. name_at ns i) (sym e) ∙ name_got names i n at

    lt : i < length (with_unknown known used)
    lt = omega (arith, within names i n at, ap length e)

    by : (i < length known) ⊎ (length known ≤ i) → has_name n known ≡ b
    by (inl l) = ap (λ n. has_name n known) (sym name) ∙ front_known known used i l ∙ sym (front l)
    by (inr l) = ap (λ n. has_name n known) (sym name) ∙ rest_new known used i l lt ∙ sym (rest l)

defined_known : (ty : NamedType) → ty ≢ Missing → is_type_known ty ≡ true
defined_known (Defined id) h = refl
defined_known Opaque h = refl
defined_known Missing h = absurd (h refl)

declared_known : (kind : SymbolKind) → kind ≢ symbols.Missing → is_symbol_known kind ≡ true
declared_known (symbols.Variable id writable) h = refl
declared_known (symbols.Function f) h = refl
declared_known symbols.Missing h = absurd (h refl)

module _ (m : Module) (tree : ModuleTree) (d : Denotes m tree) where
  pub type_known : (i : ℕ) (n : TypeName) → slice_get m.type_names i ≡ Some n → has_name n.name (map (λ (t : TypeNameTree). t.name) tree.type_names) ≡ is_type_known n.ty
  type_known i n at =
      let there = missing_types m tree d i n at in
      let long : length (map (λ (t : TypeNameTree). t.name) tree.type_names) ≡ length tree.type_names = length-map tree.type_names _ in
      known_where (map (λ (t : TypeNameTree). t.name) tree.type_names) (types_used tree) (type_names_of m) i n.name (is_type_known n.ty) d.type_names (slice_get-map (λ (n : TypeName). n.name) m.type_names i ∙ ap (option_map (λ (n : TypeName). n.name)) at)
      (λ lt. defined_known n.ty (there.0 (omega arith))) (λ le. ap is_type_known (there.1 (omega arith)))

  pub symbol_known : (i : ℕ) (s : Symbol) → slice_get m.symbols i ≡ Some s → has_name s.name (map (λ (t : SymbolTree). t.name) tree.symbols) ≡ is_symbol_known s.kind
  symbol_known i s at =
      let there = missing_symbols m tree d i s at in
      let long : length (map (λ (t : SymbolTree). t.name) tree.symbols) ≡ length tree.symbols = length-map tree.symbols _ in
      known_where (map (λ (t : SymbolTree). t.name) tree.symbols) (symbols_used tree) (map (λ (s : Symbol). s.name) m.symbols) i s.name (is_symbol_known s.kind) d.symbols (slice_get-map (λ (s : Symbol). s.name) m.symbols i ∙ ap (option_map (λ (s : Symbol). s.name)) at)
      (λ lt. declared_known s.kind (there.0 (omega arith))) (λ le. ap is_symbol_known (there.1 (omega arith)))

-- the marks of symbols
pub symbols_marked : (known : List Name) (ss : List Symbol) → ((i : ℕ) (s : Symbol) → slice_get ss i ≡ Some s → has_name s.name known ≡ is_symbol_known s.kind) → map (λ (s : Symbol). is_symbol_known s.kind) ss ≡ marks_of (map (λ (s : Symbol). s.name) ss) known
symbols_marked known [] h = refl
symbols_marked known (s ∷ ss) h =
    let e = h 0 s refl in
    let es = symbols_marked known ss (λ i x at. h (suc i) x at) in
    cc

-- ---- types

module _ (k : Known) (es : List TypeName) (known : (i : ℕ) (n : TypeName) → slice_get es i ≡ Some n → has_name n.name k.types ≡ is_type_known n.ty) where
  -- the names at their places
  abbrev names_of : List Name
  names_of = map (λ (n : TypeName). n.name) es

  -- the first name of a type that isn't known
  abbrev first_name : List TypeNode → Option Subject
  first_name nodes = first_unmet k (map subjects.TypeName (names_used nodes))

  abbrev said : Option ℕ → Option Subject
  said o = option_map (type_subject es) o

  name_both : (xs ys : List TypeNode) → first_name (xs ++ ys) ≡ or_else (first_name xs) (first_name ys)
  name_both xs ys =
      ap (λ (ns : List Name). first_unmet k (map subjects.TypeName ns)) (filter_map-append as_called xs ys)
      ∙ ap (first_unmet k) (map-append subjects.TypeName (names_used xs) (names_used ys))
      ∙ unmet_both k (map subjects.TypeName (names_used xs)) (map subjects.TypeName (names_used ys))

  at_place : (missing : List (Option ℕ)) (before : List (List TypeNode)) (i : ℕ) → map said missing ≡ map first_name before → said (get_or missing i None) ≡ first_name (nodes_at before i)
  at_place [] [] i e = refl
  at_place [] (nodes ∷ before) i e = absurd cc
  at_place (o ∷ missing) [] i e = absurd cc
  at_place (o ∷ missing) (nodes ∷ before) zero e = cc
  at_place (o ∷ missing) (nodes ∷ before) (suc i) e = at_place missing before i cc

  in_members : (missing : List (Option ℕ)) (before : List (List TypeNode)) (ids : List TypeId) → map said missing ≡ map first_name before → said (first_of (missing_at missing) ids) ≡ first_name (concat (map (λ (id : TypeId). nodes_at before id.0) ids))
  in_members missing before [] e = refl
  in_members missing before (id ∷ ids) e =
      let one = at_place missing before id.0 e in
      let rest = in_members missing before ids e in
      let both = name_both (nodes_at before id.0) (concat (map (λ (id : TypeId). nodes_at before id.0) ids)) in
      let mapped = mapped_both (type_subject es) (missing_at missing id) (first_of (missing_at missing) ids) in
      cc

  if_called : (i : ℕ) (ty : NamedType) (s : Subject) → type_subject es i ≡ s → said (if_missing i ty) ≡ cond (is_type_known ty) None (Some s)
  if_called i (Defined id) s e = refl
  if_called i Opaque s e = refl
  if_called i Missing s e = ap Some e

  in_called : (i : ℕ) → i < length names_of → said (missing_called es i) ≡ first_name (called (name_at names_of i) ∷ [])
  in_called i lt = by (slice_get es i) refl
    where
      by : (o : Option TypeName) → slice_get es i ≡ o → said (missing_called es i) ≡ first_name (called (name_at (map (λ (n : TypeName). n.name) es) i) ∷ [])
      by None at = let got = got_at (map (λ (n : TypeName). n.name) es) i lt in let mapped = slice_get-map (λ (n : TypeName). n.name) es i ∙ ap (option_map (λ (n : TypeName). n.name)) at in absurd cc
      by (Some n) at =
          let name : name_at (map (λ (n : TypeName). n.name) es) i ≡ n.name = name_got (map (λ (n : TypeName). n.name) es) i n.name (slice_get-map (λ (n : TypeName). n.name) es i ∙ ap (option_map (λ (n : TypeName). n.name)) at) in
          let subject : type_subject es i ≡ subjects.TypeName n.name = rw (at, type_subject) refl in
          let found : missing_called es i ≡ if_missing i n.ty = rw (at, missing_called) refl in
          ap said found ∙ if_called i n.ty (subjects.TypeName n.name) subject ∙ unmet_one k (subjects.TypeName n.name) (is_type_known n.ty) (known i n at) ∙ ap (λ n. first_unmet k (subjects.TypeName n ∷ [])) (sym name)

  in_type : (missing : List (Option ℕ)) (before : List (List TypeNode)) (i : ℕ) (t : MemTy) → map said missing ≡ map first_name before → IsTypeAt names_of i t → said (missing_from es missing t) ≡ first_name (nodes_from names_of before t)
  in_type missing before i (One t) e h = refl
  in_type missing before i (Array n element) e h = at_place missing before element.0 e
  in_type missing before i (Struct packed members) e h =
      let inner = concat (map (λ (id : TypeId). nodes_at before id.0) members) in
      in_members missing before members e ∙ sym (name_both inner (closing ∷ []) ∙ or_none (first_name inner))
  in_type missing before i (Named p) e h = in_called p h.within

  in_types : (missing : List (Option ℕ)) (before : List (List TypeNode)) (i : ℕ) (ts : List MemTy) → map said missing ≡ map first_name before → AreTypes names_of i ts → map said (missing_names es missing ts) ≡ map first_name (all_nodes names_of before ts)
  in_types missing before i [] e h = e
  in_types missing before i (t ∷ ts) e h =
      let one = in_type missing before i t e h.0 in
      let left = map-append said missing (missing_from es missing t ∷ []) in
      let right = map-append first_name before (nodes_from names_of before t ∷ []) in
      in_types (missing ++ missing_from es missing t ∷ []) (before ++ nodes_from names_of before t ∷ []) (suc i) ts (cc) h.1

  pub type_right : (ts : List MemTy) (id : TypeId) → AreTypes names_of 0 ts → said (missing_at (missing_names es [] ts) id) ≡ first_name (type_nodes names_of ts id)
  type_right ts id h = at_place (missing_names es [] ts) (all_nodes names_of [] ts) id.0 (in_types [] [] 0 ts refl h)
