-- Names that no two functions have.
use Rattle.std.proofs.Common.{◌≡◌, ◌<◌, ℕ, zero, suc, ◌+◌, Bool, true, false, cond, ◌||◌, ◌&&◌, List, [], ◌∷◌, ◌++◌, map, filter, take, length, get_or, Option, Some, None, inl, inr, refl, sym, ap, ◌∙◌, true≢false, if◌then◌else◌, arith}
use Rattle.std.specs.Prelude.{slice_get, position}
use Rattle.std.specs.Bool.{Decides}
use Rattle.std.specs.List.{list_any, position_from}
use Rattle.std.specs.Option.{option_map}
use Rattle.std.proofs.lemmas.Bool.Decides.{Decides-eqb, same_from_decides}
use Rattle.std.proofs.lemmas.List.{take_more, map-append}
use Rattle.std.proofs.lemmas.Slice.Eq.{bytes_eq-Decides}
use Rattle.std.proofs.lemmas.Iterator.Adapters.{position_from-zero}
use Rattle.indexmap.specs.IndexSet.{insert_key}
use Rattle.text_forms.proofs.Begins.{test}
use Rattle.ir_types.specs.declared.name.Name.{Name}
use Rattle.ir_types.specs.declared.name.Name.TheVariants.{Text, Number}
use Rattle.ir_types.specs.declared.call.Callee.{Callee}
use Rattle.ir_types.specs.declared.inst.Ty.{Ty}
use Rattle.ir_types.specs.declared.module.Function.{Function}
use Rattle.ir_types.specs.Names.{same_name, has_name}
use Rattle.ir_types.specs.Kinds.{actual_types}
use Rattle.ir_types.specs.Denotes.{Tables, function_in}
use Rattle.ir_types.specs.Tree.{FunctionTree, SymbolTree}
use Rattle.ir_types.specs.Collected.{symbol_of_function}
use Rattle.ir_types.proofs.SameNames.{name_eq}
use Rattle.ir_rules.specs.Breaches.{behind_those}
use Rattle.ir_rules.specs.Duplicates.{repeated}
use Rattle.ir_rules.specs.Operands.{same_type}
use Rattle.ir_rules.specs.Callees.{signature_agrees, arguments_agree, is_called_rightly}
use Rattle.ir_check_calls.specs.Heads.{Apart, function_names, types_agree, is_called_so}
use Rattle.ir_check_calls.proofs.Agree.{called_same}

-- ---- equal names

-- whether two names are the same is decided
pub same_name-Decides : (x y : Name) → Decides (same_name x y) (x ≡ y)
same_name-Decides (Text a) (Text b) = (λ e. ap Text ((bytes_eq-Decides a b).0 e), λ e. (bytes_eq-Decides a b).1 (cc))
same_name-Decides (Text a) (Number n) = (λ e. absurd (true≢false (sym e)), λ e. (cc))
same_name-Decides (Number m) (Text t) = (λ e. absurd (true≢false (sym e)), λ e. (cc))
same_name-Decides (Number m) (Number n) = (λ e. ap Number ((Decides-eqb m n).0 e), λ e. (Decides-eqb m n).1 (cc))

-- `==` on names is the same
pub equal_names : (x y : Name) → name_eq x y ≡ same_name x y
equal_names (Text a) (Text b) = refl
equal_names (Text a) (Number n) = refl
equal_names (Number m) (Text b) = refl
equal_names (Number m) (Number n) = refl

other_way : (x y : Name) → same_name x y ≡ same_name y x
other_way x y =
    let back : Decides (same_name y x) (x ≡ y) = (λ e. sym ((same_name-Decides y x).0 e), λ e. (same_name-Decides y x).1 (sym e)) in
    same_from_decides (same_name x y) (same_name y x) (same_name-Decides x y) back

pub neither : (a b : Bool) → (a || b) ≡ false → (a ≡ false) × (b ≡ false)
neither true b e = absurd (true≢false e)
neither false b e = (refl, e)

-- ---- names that stand once, one after another

not_among : (n : Name) (fs : List Function) (i : ℕ) (d : Function) → has_name n (function_names fs) ≡ false → i < length fs → same_name n (get_or fs i d).name ≡ false
not_among n [] i d absent lt = absurd (omega arith)
not_among n (f ∷ fs) zero d absent lt = (neither (same_name n f.name) (has_name n (function_names fs)) absent).0
not_among n (f ∷ fs) (suc i) d absent lt = not_among n fs i d (neither (same_name n f.name) (has_name n (function_names fs)) absent).1 (omega arith)

new_there : (fs : List Function) (i : ℕ) (d : Function) → Apart (function_names fs) → i < length fs → has_name (get_or fs i d).name (function_names (take i fs)) ≡ false
new_there [] i d once lt = absurd (omega arith)
new_there (f ∷ fs) zero d once lt = refl
new_there (f ∷ fs) (suc i) d once lt =
    let n = (get_or fs i d).name in
    rw (other_way n f.name ∙ not_among f.name fs i d once.0 (omega arith), new_there fs i d once.1 (omega arith)) refl

any_same : (n : Name) (ns : List Name) → list_any (name_eq n) ns ≡ has_name n ns
any_same n [] = refl
any_same n (m ∷ ns) = rw (equal_names n m, any_same n ns) refl

-- what is inserted goes last
pub next_name : (fs : List Function) (i : ℕ) (d : Function) (n : Name) (keys later : List Name) → Apart (function_names fs) → i < length fs → n ≡ (get_or fs i d).name → keys ≡ function_names (take i fs) → later ≡ insert_key name_eq keys n → later ≡ function_names (take (i + 1) fs)
next_name fs i d n keys later once lt is so_far made =
    let new : list_any (name_eq n) keys ≡ false = any_same n keys ∙ ap (has_name n) so_far ∙ ap (λ k. has_name k (function_names (take i fs))) is ∙ new_there fs i d once lt in
    made ∙ ap (λ b. if b then keys else keys ++ n ∷ []) new ∙ ap (λ ks. ks ++ n ∷ []) so_far ∙ ap (λ k. function_names (take i fs) ++ k ∷ []) is
    ∙ sym (map-append (λ (f : Function). f.name) (take i fs) (get_or fs i d ∷ [])) ∙ ap function_names (sym (take_more fs i d lt))

-- ---- the one function of a name

from_suc : {A : Type 0} (p : A → Bool) (i j : ℕ) (xs : List A) → j ≡ suc i → position_from p j xs ≡ option_map suc (position_from p i xs)
from_suc p i j [] e = refl
from_suc p i j (x ∷ xs) e = elim (test (p x)) [ inl h ↦ rw h (ap Some e) | inr h ↦ rw h (from_suc p (i + 1) (j + 1) xs (omega (arith, e))) ]

position_in_cons : {A : Type 0} (p : A → Bool) (x : A) (xs : List A) → position p (x ∷ xs) ≡ cond (p x) (Some 0) (option_map suc (position p xs))
position_in_cons p x xs = position_from-zero p (x ∷ xs) ∙ ap (cond (p x) (Some 0)) (from_suc p 0 (0 + 1) xs (omega arith) ∙ ap (option_map suc) (sym (position_from-zero p xs)))

-- no function of a name that none has
pub none_of_name : (t : Tables) (n : Name) (p : FunctionTree → Bool) (fs : List Function) → has_name n (function_names fs) ≡ false → list_any (λ f. same_name n f.name && p f) (map (function_in t) fs) ≡ false
none_of_name t n p [] absent = refl
none_of_name t n p (f ∷ fs) absent =
    let none = neither (same_name n f.name) (has_name n (function_names fs)) absent in
    rw (none.0, none_of_name t n p fs none.1) refl

-- what is found at a place, where there is one
abbrev agrees_at : Callee → Ty → List Function → Option ℕ → Bool
agrees_at callee ty fs o = elim o [ Some i ↦ elim (slice_get fs i) [ Some f ↦ types_agree callee ty f | None ↦ false ] | None ↦ false ]

agrees_later : (callee : Callee) (ty : Ty) (f : Function) (fs : List Function) (o : Option ℕ) → agrees_at callee ty (f ∷ fs) (option_map suc o) ≡ agrees_at callee ty fs o
agrees_later callee ty f fs None = refl
agrees_later callee ty f fs (Some i) = refl

-- a test or false is the test
pub or_false : (b : Bool) → (b || false) ≡ b
or_false true = refl
or_false false = refl

-- a function has a call's types
abbrev has_types : Callee → Ty → FunctionTree → Bool
has_types callee ty f = same_type ty f.ret && (signature_agrees callee.signature f && arguments_agree (actual_types callee) f)

-- where names are apart, a call is right of the one function that has its name
pub called_once : (t : Tables) (callee : Callee) (ty : Ty) (fs : List Function) → Apart (function_names fs) → list_any (is_called_rightly callee ty) (map (function_in t) fs) ≡ is_called_so (function_names fs) fs callee ty
called_once t callee ty [] once = refl
called_once t callee ty (f ∷ fs) once = elim (test (same_name callee.name f.name)) [
  | inl e ↦
      let none : has_name callee.name (function_names fs) ≡ false = ap (λ n. has_name n (function_names fs)) ((same_name-Decides callee.name f.name).0 e) ∙ once.0 in
      let here : is_called_rightly callee ty (function_in t f) ≡ types_agree callee ty f = called_same t callee ty f ∙ ap (λ b. b && types_agree callee ty f) e in
      let place : position (same_name callee.name) (function_names (f ∷ fs)) ≡ Some 0 = position_in_cons (same_name callee.name) f.name (function_names fs) ∙ ap (λ b. cond b (Some 0) (option_map suc (position (same_name callee.name) (function_names fs)))) e in
      ap (λ b. b || list_any (is_called_rightly callee ty) (map (function_in t) fs)) here ∙ ap (λ b. types_agree callee ty f || b) (none_of_name t callee.name (has_types callee ty) fs none) ∙ or_false (types_agree callee ty f) ∙ ap (agrees_at callee ty (f ∷ fs)) (sym place)
  | inr e ↦
      let here : is_called_rightly callee ty (function_in t f) ≡ false = called_same t callee ty f ∙ ap (λ b. b && types_agree callee ty f) e in
      let place : position (same_name callee.name) (function_names (f ∷ fs)) ≡ option_map suc (position (same_name callee.name) (function_names fs)) = position_in_cons (same_name callee.name) f.name (function_names fs) ∙ ap (λ b. cond b (Some 0) (option_map suc (position (same_name callee.name) (function_names fs)))) e in
      ap (λ b. b || list_any (is_called_rightly callee ty) (map (function_in t) fs)) here ∙ called_once t callee ty fs once.1 ∙ sym (agrees_later callee ty f fs (position (same_name callee.name) (function_names fs))) ∙ ap (agrees_at callee ty (f ∷ fs)) (sym place)
]

-- ---- from the rule about names

-- none of these stands before it, or before these
abbrev Fresh : (before names : List Name) → Type 0
Fresh before [] = Unit {0}
Fresh before (n ∷ ns) = (has_name n before ≡ false) × Fresh (before ++ n ∷ []) ns

fresh_from : (before names : List Name) → filter (λ x. has_name x.1 x.0) (behind_those before names) ≡ [] → Fresh before names
fresh_from before [] none = tt
fresh_from before (n ∷ ns) none = elim (test (has_name n before)) [
  | inl e ↦ absurd (let t : ((before, n) ∷ filter (λ x. has_name x.1 x.0) (behind_those (before ++ n ∷ []) ns)) ≡ [] = ap (λ b. cond b ((before, n) ∷ filter (λ x. has_name x.1 x.0) (behind_those (before ++ n ∷ []) ns)) (filter (λ x. has_name x.1 x.0) (behind_those (before ++ n ∷ []) ns))) (sym e) ∙ none in cc)
  | inr e ↦ (e, fresh_from (before ++ n ∷ []) ns (ap (λ b. cond b ((before, n) ∷ filter (λ x. has_name x.1 x.0) (behind_those (before ++ n ∷ []) ns)) (filter (λ x. has_name x.1 x.0) (behind_those (before ++ n ∷ []) ns))) (sym e) ∙ none))
]

has_more : (n : Name) (xs ys : List Name) → has_name n xs ≡ true → has_name n (xs ++ ys) ≡ true
has_more n [] ys e = absurd (true≢false (sym e))
has_more n (x ∷ xs) ys e = elim (test (same_name n x)) [
  | inl h ↦ rw h refl
  | inr h ↦ rw h (has_more n xs ys (ap (λ b. b || has_name n xs) (sym h) ∙ e))
]

has_last : (n : Name) (xs : List Name) → has_name n (xs ++ n ∷ []) ≡ true
has_last n [] = rw ((same_name-Decides n n).1 refl) refl
has_last n (x ∷ xs) = elim (test (same_name n x)) [ inl h ↦ rw h refl | inr h ↦ rw h (has_last n xs) ]

not_later : (n : Name) (before names : List Name) → has_name n before ≡ true → Fresh before names → has_name n names ≡ false
not_later n before [] there fresh = refl
not_later n before (m ∷ ns) there fresh = elim (test (same_name n m)) [
  | inl h ↦ absurd (true≢false (sym there ∙ ap (λ k. has_name k before) ((same_name-Decides n m).0 h) ∙ fresh.0))
  | inr h ↦ rw h (not_later n (before ++ m ∷ []) ns (has_more n before (m ∷ []) there) fresh.1)
]

apart_from : (before names : List Name) → Fresh before names → Apart names
apart_from before [] fresh = tt
apart_from before (n ∷ ns) fresh = (not_later n (before ++ n ∷ []) ns (has_last n before) fresh.1, apart_from (before ++ n ∷ []) ns fresh.1)

-- what is mapped to nothing is nothing
pub none_mapped : {A B : Type 0} (h : A → B) (xs : List A) → map h xs ≡ [] → xs ≡ []
none_mapped h [] e = refl
none_mapped h (x ∷ xs) e = absurd cc

-- where two lists are nothing, so is the second
pub none_behind : {A : Type 0} (xs ys : List A) → xs ++ ys ≡ [] → ys ≡ []
none_behind [] ys e = e
none_behind (x ∷ xs) ys e = absurd cc

-- and the first
pub none_before : {A : Type 0} (xs ys : List A) → xs ++ ys ≡ [] → xs ≡ []
none_before [] ys e = refl
none_before (x ∷ xs) ys e = absurd cc

-- names of which none is repeated are apart
pub not_repeated : (names : List Name) → repeated names ≡ [] → Apart names
not_repeated names none = apart_from [] names (fresh_from [] names (none_mapped (λ x. x.1) (filter (λ x. has_name x.1 x.0) (behind_those [] names)) none))

-- and so are those behind some of them
pub apart_behind : (xs ys : List Name) → Apart (xs ++ ys) → Apart ys
apart_behind [] ys once = once
apart_behind (x ∷ xs) ys once = apart_behind xs ys once.1

-- ---- the functions' symbols

-- the symbols of functions have the names of the functions
pub names_of_symbols : (fs : List FunctionTree) → map (λ (s : SymbolTree). s.name) (map symbol_of_function fs) ≡ map (λ (f : FunctionTree). f.name) fs
names_of_symbols [] = refl
names_of_symbols (f ∷ fs) = ap (λ ns. f.name ∷ ns) (names_of_symbols fs)

-- and these are the names in the module
pub names_in : (t : Tables) (fs : List Function) → map (λ (f : FunctionTree). f.name) (map (function_in t) fs) ≡ function_names fs
names_in t [] = refl
names_in t (f ∷ fs) = ap (λ ns. f.name ∷ ns) (names_in t fs)
