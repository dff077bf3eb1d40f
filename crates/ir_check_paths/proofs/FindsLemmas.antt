-- What is found in lists, part by part.
use Rattle.std.proofs.Common.{◌≡◌, ℕ, ◌+◌, ◌<◌, ◌≤◌, true, false, List, [], ◌∷◌, ◌++◌, length, map, drop, get_or, Option, Some, None, refl, sym, ◌∙◌, ap, subst}
use Rattle.std.specs.Option.{option_map}
use Rattle.std.specs.Option.{is_some}
use Rattle.std.specs.List.{filter_map, cons_option, All, AllByRecursion}
use Rattle.std.proofs.lemmas.List.Elements.{All-from_recursion}
use Rattle.ir_shape.specs.Placed.{IsOperandPlaced}
use Rattle.std.proofs.lemmas.List.{drop_more, at_drop_all}
use Rattle.ir_types.specs.declared.name.Name.{Name}
use Rattle.ir_types.specs.declared.name.ValueId.{ValueId}
use Rattle.ir_types.specs.declared.inst.Operand.{Operand}
use Rattle.ir_types.specs.declared.inst.Operand.TheVariants.{Local, Int, Null, Poison, Lanes, Global, OutOfRange}
use Rattle.ir_types.specs.declared.module.Function.{Function}
use Rattle.ir_types.specs.Names.{name_at}
use Rattle.ir_types.specs.Denotes.{Tables, operand_in, function_in}
use Rattle.ir_rules.specs.Available.{LocalUse, used_at, IsUnavailable}
use Rattle.ir_check_paths.specs.Uses.{Finds, nothing, found, behind, IsUseAt, IsAnswer}
use Rattle.ir_check_paths.specs.Finding.{IsLocalIn, IsUseOf, FindsOfArgs}

pub finds_on : {A B : Type 0} (P : A → Type 0) (Q : A → B → Type 0) (xs ys : List A) (o n : Option B) → n ≡ None → Finds P Q xs n → Finds P Q ys o → Finds P Q (xs ++ ys) o
finds_on P Q _ ys o _ e nothing h = h
finds_on P Q _ ys o _ e (found x xs y p q) h = absurd cc
finds_on P Q _ ys o _ e (behind x xs n not f) h = behind x (xs ++ ys) o not (finds_on P Q xs ys o n e f h)

pub finds_first : {A B : Type 0} (P : A → Type 0) (Q : A → B → Type 0) (xs ys : List A) (o : Option B) (y : B) → o ≡ Some y → Finds P Q xs o → Finds P Q (xs ++ ys) o
finds_first P Q _ ys _ z e nothing = absurd cc
finds_first P Q _ ys _ z e (found x xs y p q) = found x (xs ++ ys) y p q
finds_first P Q _ ys _ z e (behind x xs o not f) = behind x (xs ++ ys) o not (finds_first P Q xs ys o z e f)

pub finds_as : {A B C : Type 0} (P : A → Type 0) (Q : A → B → Type 0) (R : A → C → Type 0) (g : B → C) → ((x : A) (y : B) → Q x y → R x (g y)) → (xs : List A) (o : Option B) → Finds P Q xs o → Finds P R xs (option_map g o)
finds_as P Q R g h _ _ nothing = nothing
finds_as P Q R g h _ _ (found x xs y p q) = found x xs (g y) p (h x y q)
finds_as P Q R g h _ _ (behind x xs o not f) = behind x xs (option_map g o) not (finds_as P Q R g h xs o f)

-- ---- operands

-- an operand that is no local
abbrev pub IsOther : Operand → Type 0
IsOther (Local id) = ⊥
IsOther a = Unit {0}

args_other : (f : Function) (number before : ℕ) (a : Operand) (rest : List Operand) (o : Option ValueId) → IsOther a → FindsOfArgs f number before rest o → FindsOfArgs f number before (a ∷ rest) o
args_other f number before (Local id) rest o h r = absurd h
args_other f number before (Int n) rest o h r = λ t p at b. r t p at b
args_other f number before Null rest o h r = λ t p at b. r t p at b
args_other f number before Poison rest o h r = λ t p at b. r t p at b
args_other f number before (Lanes xs) rest o h r = λ t p at b. r t p at b
args_other f number before (Global i k) rest o h r = λ t p at b. r t p at b
args_other f number before (OutOfRange i) rest o h r = λ t p at b. r t p at b

args_local : (f : Function) (number before : ℕ) (id : ValueId) (rest : List Operand) (o : Option ValueId) → ((t : Tables) (u : LocalUse) → IsUseAt (function_in t f) (name_at f.names id.0) number before u → IsAnswer true (function_in t f) u) → FindsOfArgs f number before rest o → FindsOfArgs f number before (Local id ∷ rest) o
args_local f number before id rest o h r = λ t p at b. behind (record { name = name_at f.names id.0; block = p.block; before = p.before; place = p.place }) _ o (h t _ (record { named = refl; at_block = at; behind = b })) (r t p at b)

args_found : (f : Function) (number before : ℕ) (id : ValueId) (rest : List Operand) → id.0 < length f.names → ((t : Tables) (u : LocalUse) → IsUseAt (function_in t f) (name_at f.names id.0) number before u → IsAnswer false (function_in t f) u) → FindsOfArgs f number before (Local id ∷ rest) (Some id)
args_found f number before id rest lt h = λ t p at b. found (record { name = name_at f.names id.0; block = p.block; before = p.before; place = p.place }) _ id (h t _ (record { named = refl; at_block = at; behind = b })) (record { named = refl; placed = refl; within = lt })

pub one_other : (f : Function) (number before : ℕ) (a : Operand) → IsOther a → FindsOfArgs f number before (a ∷ []) None
one_other f number before a h = args_other f number before a [] None h (λ t p at b. nothing)

pub one_there : (f : Function) (number before : ℕ) (id : ValueId) → ((t : Tables) (u : LocalUse) → IsUseAt (function_in t f) (name_at f.names id.0) number before u → IsAnswer true (function_in t f) u) → FindsOfArgs f number before (Local id ∷ []) None
one_there f number before id h = args_local f number before id [] None h (λ t p at b. nothing)

pub one_lacking : (f : Function) (number before : ℕ) (id : ValueId) → id.0 < length f.names → ((t : Tables) (u : LocalUse) → IsUseAt (function_in t f) (name_at f.names id.0) number before u → IsAnswer false (function_in t f) u) → FindsOfArgs f number before (Local id ∷ []) (Some id)
one_lacking f number before id lt h = args_found f number before id [] lt h

-- ---- one behind another

pub kept_parts : {A B : Type 0} (h : A → Option B) (x : A) (xs : List A) → filter_map h (x ∷ xs) ≡ filter_map h (x ∷ []) ++ filter_map h xs
kept_parts h x xs = by (h x)
  where
    by : (o : Option _) → cons_option o (filter_map h xs) ≡ cons_option o [] ++ filter_map h xs
    by None = refl
    by (Some y) = refl

args_behind : (f : Function) (number before : ℕ) (a : Operand) (rest : List Operand) (n o : Option ValueId) → n ≡ None → FindsOfArgs f number before (a ∷ []) n → FindsOfArgs f number before rest o → FindsOfArgs f number before (a ∷ rest) o
args_behind f number before a rest n o e one r = λ t p at b.
    let P : List LocalUse → Type 0 = λ xs. Finds (IsUnavailable (function_in t f)) (IsUseOf f.names p.place) xs o in
    subst P (sym (kept_parts (used_at p) (operand_in t f.names a) (map (operand_in t f.names) rest))) (finds_on _ _ _ _ o n e (one t p at b) (r t p at b))

args_ahead : (f : Function) (number before : ℕ) (a : Operand) (rest : List Operand) (o : Option ValueId) (y : ValueId) → o ≡ Some y → FindsOfArgs f number before (a ∷ []) o → FindsOfArgs f number before (a ∷ rest) o
args_ahead f number before a rest o y e one = λ t p at b.
    let P : List LocalUse → Type 0 = λ xs. Finds (IsUnavailable (function_in t f)) (IsUseOf f.names p.place) xs o in
    subst P (sym (kept_parts (used_at p) (operand_in t f.names a) (map (operand_in t f.names) rest))) (finds_first _ _ _ _ o y e (one t p at b))

-- what is found of the rest is found of all
pub record ArgsRest (f : Function) (number before place : ℕ) (args : List Operand) : Type 0 where
  pub rest : (o : Option ValueId) → FindsOfArgs f number before (drop place args) o → FindsOfArgs f number before args o

pub args_start : (f : Function) (number before : ℕ) (args : List Operand) → ArgsRest f number before 0 args
args_start f number before args = record { rest = λ o h. h }

args_at : (place : ℕ) (args : List Operand) (a : Operand) → place < length args → a ≡ get_or args place a → drop place args ≡ a ∷ drop (place + 1) args
args_at place args a lt e = drop_more args place a lt ∙ ap (λ (x : Operand). x ∷ drop (place + 1) args) (sym e)

pub args_more : (f : Function) (number before place : ℕ) (args : List Operand) (a : Operand) (n : Option ValueId) → place < length args → a ≡ get_or args place a → n ≡ None → FindsOfArgs f number before (a ∷ []) n → ArgsRest f number before place args → ArgsRest f number before (place + 1) args
args_more f number before place args a n lt e none one r = record {
  rest = λ o h. r.rest o (subst (λ (xs : List Operand). FindsOfArgs f number before xs o) (sym (args_at place args a lt e)) (args_behind f number before a (drop (place + 1) args) n o none one h));
}

pub args_stop : (f : Function) (number before place : ℕ) (args : List Operand) (a : Operand) (o : Option ValueId) (y : ValueId) → place < length args → a ≡ get_or args place a → o ≡ Some y → FindsOfArgs f number before (a ∷ []) o → ArgsRest f number before place args → FindsOfArgs f number before args o
args_stop f number before place args a o y lt e some one r =
    r.rest o (subst (λ (xs : List Operand). FindsOfArgs f number before xs o) (sym (args_at place args a lt e)) (args_ahead f number before a (drop (place + 1) args) o y some one))

pub args_end : (f : Function) (number before place : ℕ) (args : List Operand) → length args ≤ place → ArgsRest f number before place args → FindsOfArgs f number before args None
args_end f number before place args le r = r.rest None (subst (λ (xs : List Operand). FindsOfArgs f number before xs None) (sym (at_drop_all (λ (xs : List Operand). xs) args place le)) (λ t p at b. nothing))

-- ---- answers

pub other_of : (a : Operand) → ((id : ValueId) → a ≡ Local id → ⊥) → IsOther a
other_of (Local id) h = h id refl
other_of (Int n) h = tt
other_of Null h = tt
other_of Poison h = tt
other_of (Lanes xs) h = tt
other_of (Global i k) h = tt
other_of (OutOfRange i) h = tt

pub some_of : {A : Type 0} (o : Option A) → is_some o ≡ true → (y : A) × (o ≡ Some y)
some_of None e = absurd cc
some_of (Some y) e = (y, refl)

pub none_of : {A : Type 0} (o : Option A) → is_some o ≡ false → o ≡ None
none_of None e = refl
none_of (Some y) e = absurd cc

pub local_in_place : (names : List Name) (a : Operand) (id : ValueId) → a ≡ Local id → IsLocalIn names a → id.0 < length names
local_in_place names a id e h = subst (λ (x : Operand). IsLocalIn names x) e h

pub args_in_place : (t : Tables) (names : List Name) (args : List Operand) → AllByRecursion (IsOperandPlaced t names) args → All (IsLocalIn names) args
args_in_place t names args h = All-from_recursion (IsLocalIn names) args (weaker args h)
  where
    one : (a : Operand) → IsOperandPlaced t names a → IsLocalIn names a
    one (Local id) p = p
    one (Int n) p = tt
    one Null p = tt
    one Poison p = tt
    one (Lanes xs) p = tt
    one (Global i k) p = tt
    one (OutOfRange i) p = tt

    weaker : (xs : List Operand) → AllByRecursion (IsOperandPlaced t names) xs → AllByRecursion (IsLocalIn names) xs
    weaker [] p = p
    weaker (x ∷ xs) p = (one x p.0, weaker xs p.1)
