-- The first number that isn't above the highest one before it is the first that isn't above all before it.
use Rattle.std.proofs.Common.{◌≡◌, ◌<◌, ℕ, Bool, true, false, not, cond, ◌&&◌, List, [], ◌∷◌, ◌++◌, map, length, Option, Some, None, refl, sym, ap, ◌∙◌, arith}
use Rattle.std.specs.Prelude.{nat_lt, filter}
use Rattle.std.specs.Option.{option_map}
use Rattle.std.specs.List.{AllByRecursion, AllZip, list_all}
use Rattle.std.proofs.lemmas.Bool.Decides.{nat_tests}
use Rattle.std.proofs.lemmas.List.Folds.{list_all-append}
use Rattle.ir_types.specs.declared.name.Name.{Name}
use Rattle.ir_types.specs.declared.name.Name.TheVariants.{Text, Number}
use Rattle.ir_types.specs.declared.name.ValueId.{ValueId}
use Rattle.ir_types.specs.declared.module.Function.{Function}
use Rattle.ir_types.specs.declared.module.Module.{Module}
use Rattle.ir_types.specs.Denotes.{Tables, name_in, function_in, tables_of, tree_of}
use Rattle.ir_shape.specs.Modules.{IsModule}
use Rattle.ir_types.specs.Tree.{FunctionTree}
use Rattle.ir_shape.specs.Placed.{IsFunctionPlaced}
use Rattle.ir_shape.proofs.Placing.{module_placed}
use Rattle.ir_rules.specs.declared.fault.Subject.TheVariants.{Local}
use Rattle.ir_rules.specs.declared.fault.Breach.{Breach}
use Rattle.ir_rules.specs.Breaches.{first, Found, behind_those, inside}
use Rattle.ir_rules.specs.Locals.{definitions_of}
use Rattle.ir_rules.specs.Locals as rules
use Rattle.ir_rules.specs.Numbering.{is_above, misnumbered, misnumbered_names}
use Rattle.ir_check_names.specs.declared.definitions.Definition.{Definition}
use Rattle.ir_check_names.specs.Choice.{first_of}
use Rattle.ir_check_names.specs.Definitions.{of_function, breach_at}
use Rattle.ir_check_names.specs.Misnumbered.{as_number, number_at, is_above_all, misnumbered_from, misnumbered_in}
use Rattle.ir_check_names.proofs.Choosing.{first_concat, first_of_mapped, same_firsts}
use Rattle.ir_check_names.proofs.Marked.{got_at}
use Rattle.ir_check_names.proofs.Defining.{Says, IsNamed, function_says, function_named, breach_says}

-- ---- being above all

-- whether a name may stand behind some definitions
abbrev above_each : List rules.Definition → Name → Bool
above_each before n = list_all (λ (d : rules.Definition). is_above n d.name) before

-- this is the highest number of some definitions
abbrev IsHighest : List rules.Definition → Option ℕ → Type 0
IsHighest before highest = (n : ℕ) → above_each before (Number n) ≡ is_above_all n highest

and_true : (b : Bool) → (b && true) ≡ b
and_true true = refl
and_true false = refl

text_above : (before : List rules.Definition) (s : List ℕ) → above_each before (Text s) ≡ true
text_above [] s = refl
text_above (d ∷ before) s = text_above before s

one_more : (before : List rules.Definition) (d : rules.Definition) (n : ℕ) → above_each (before ++ d ∷ []) (Number n) ≡ (above_each before (Number n) && is_above (Number n) d.name)
one_more before d n = list_all-append (λ (d : rules.Definition). is_above (Number n) d.name) before (d ∷ []) ∙ ap (λ b. above_each before (Number n) && b) (and_true (is_above (Number n) d.name))

behind_text : (before : List rules.Definition) (highest : Option ℕ) (d : rules.Definition) (s : List ℕ) → d.name ≡ Text s → IsHighest before highest → IsHighest (before ++ d ∷ []) highest
behind_text before highest d s e h n = one_more before d n ∙ ap (λ m. above_each before (Number n) && is_above (Number n) m) e ∙ and_true (above_each before (Number n)) ∙ h n

both_above : (highest : Option ℕ) (k n : ℕ) → is_above_all k highest ≡ true → (is_above_all n highest && nat_lt k n) ≡ nat_lt k n
both_above None k n h = refl
both_above (Some e) k n h = grind (arith, nat_tests)

behind_number : (before : List rules.Definition) (highest : Option ℕ) (d : rules.Definition) (k : ℕ) → d.name ≡ Number k → is_above_all k highest ≡ true → IsHighest before highest → IsHighest (before ++ d ∷ []) (Some k)
behind_number before highest d k e above h n =
    one_more before d n ∙ ap (λ m. above_each before (Number n) && is_above (Number n) m) e ∙ ap (λ b. b && nat_lt k n) (h n) ∙ both_above highest k n above

-- ---- in a function

-- what a rule finds
abbrev said : List rules.Definition × rules.Definition → Found
said x = (Local x.1.name, x.1.place)

abbrev wrong : List rules.Definition × rules.Definition → Bool
wrong x = not (above_each x.0 x.1.name)

abbrev found_behind : Function → List rules.Definition → List rules.Definition → Option Breach
found_behind f before ds = first (map (inside f.name) (map said (filter wrong (behind_those before ds))))

here : (f : Function) (before rest : List rules.Definition) (d : rules.Definition) (b : Bool) → above_each before d.name ≡ b → found_behind f before (d ∷ rest) ≡ cond b (found_behind f (before ++ d ∷ []) rest) (Some (inside f.name (Local d.name, d.place)))
here f before rest d true e = rw e refl
here f before rest d false e = rw e refl

-- what is found where a definition has this number or none
abbrev found_at : Function → Option ℕ → Definition → List Definition → Option ℕ → Option Breach
found_at f highest d ds None = option_map (breach_at f) (misnumbered_from f.names highest ds)
found_at f highest d ds (Some n) = option_map (breach_at f) (cond (is_above_all n highest) (misnumbered_from f.names (Some n) ds) (Some d))

by_number : (f : Function) (highest : Option ℕ) (d : Definition) (ds : List Definition) (o : Option ℕ) → number_at f.names d.name ≡ o → option_map (breach_at f) (misnumbered_from f.names highest (d ∷ ds)) ≡ found_at f highest d ds o
by_number f highest d ds None e = rw (e, option_map) refl
by_number f highest d ds (Some n) e = rw (e, option_map) refl

number_there : (names : List Name) (id : ValueId) (n : Name) → id.0 < length names → name_in names id ≡ n → number_at names id ≡ as_number n
number_there names id n lt e = rw (got_at names id.0 lt, number_at) (ap as_number e)

misnumbered_right : (f : Function) (before : List rules.Definition) (highest : Option ℕ) (ds : List Definition) (es : List rules.Definition) → IsHighest before highest → AllByRecursion (IsNamed f.names) ds → AllZip (Says f.names) ds es
    → option_map (breach_at f) (misnumbered_from f.names highest ds) ≡ found_behind f before es
misnumbered_right f before highest [] [] top named says = refl
misnumbered_right f before highest [] (e ∷ es) top named says = absurd says
misnumbered_right f before highest (d ∷ ds) [] top named says = absurd says
misnumbered_right f before highest (d ∷ ds) (e ∷ es) top named says = by e.name refl (λ high risen. misnumbered_right f (before ++ e ∷ []) high ds es risen named.1 says.1)
  where
    -- its number
    number : (n : Name) → e.name ≡ n → number_at f.names d.name ≡ as_number n
    number n s = number_there f.names d.name n named.0 (sym says.0.0 ∙ s)

    by_test : (k : ℕ) → e.name ≡ Number k → (b : Bool) → is_above_all k highest ≡ b → ((high : Option ℕ) → IsHighest (before ++ e ∷ []) high → option_map (breach_at f) (misnumbered_from f.names high ds) ≡ found_behind f (before ++ e ∷ []) es)
        → option_map (breach_at f) (cond b (misnumbered_from f.names (Some k) ds) (Some d)) ≡ cond b (found_behind f (before ++ e ∷ []) es) (Some (inside f.name (Local e.name, e.place)))
    by_test k s true a rest = rest (Some k) (behind_number before highest e k s a top)
    by_test k s false a rest = ap Some (breach_says f d e named.0 says.0)

    by : (n : Name) → e.name ≡ n → ((high : Option ℕ) → IsHighest (before ++ e ∷ []) high → option_map (breach_at f) (misnumbered_from f.names high ds) ≡ found_behind f (before ++ e ∷ []) es)
        → option_map (breach_at f) (misnumbered_from f.names highest (d ∷ ds)) ≡ found_behind f before (e ∷ es)
    by (Text s) same rest = by_number f highest d ds None (number (Text s) same) ∙ rest highest (behind_text before highest e s same top) ∙ sym (here f before es e true (ap (above_each before) same ∙ text_above before s))
    by (Number k) same rest = by_number f highest d ds (Some k) (number (Number k) same) ∙ by_test k same (is_above_all k highest) refl rest ∙ sym (here f before es e (is_above_all k highest) (ap (above_each before) same ∙ top k))

in_function : (t : Tables) (f : Function) → IsFunctionPlaced t f → misnumbered_in f ≡ first (map (inside f.name) (misnumbered (function_in t f)))
in_function t f h = misnumbered_right f [] None (of_function f) (definitions_of (function_in t f)) (λ n. refl) (function_named t f h) (function_says t f)

-- ---- in a module

-- the first wrong number in a module is the first in its tree
pub in_module : (m : Module) → IsModule m → first_of misnumbered_in m.functions ≡ first (misnumbered_names (tree_of m))
in_module m r =
    let t = tables_of m in
    same_firsts (IsFunctionPlaced t) misnumbered_in (λ f. first (map (inside f.name) (misnumbered (function_in t f)))) (in_function t) m.functions (module_placed m r).functions
    ∙ sym (first_concat (λ (f : FunctionTree). map (inside f.name) (misnumbered f)) (map (function_in t) m.functions) ∙ first_of_mapped (function_in t) (λ (f : FunctionTree). first (map (inside f.name) (misnumbered f))) m.functions)
