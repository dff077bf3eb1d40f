-- What the places of a function's names are given to is what the names there are given to.
use Rattle.std.proofs.Common.{◌≡◌, ◌≢◌, ℕ, zero, suc, ◌+◌, ◌<◌, Bool, true, false, ◌&&◌, ◌||◌, nat_eq, List, [], ◌∷◌, map, length, get_or, Option, Some, None, refl, sym, ap, ◌∙◌, inl, inr, arith}
use Rattle.std.specs.Prelude.{IfSome}
use Rattle.std.specs.List.{list_any, AllByRecursion}
use Rattle.std.proofs.lemmas.Bool.{cases_eq, cases_lt}
use Rattle.std.proofs.lemmas.Bool.Decides.{Decides-eqb}
use Rattle.std.proofs.lemmas.List.Folds.{list_any-append}
use Rattle.ir_types.specs.declared.name.Name.{Name}
use Rattle.ir_types.specs.declared.name.Name.TheVariants.{Number}
use Rattle.ir_types.specs.declared.name.ValueId.{ValueId}
use Rattle.ir_types.specs.declared.inst.Inst.{Inst}
use Rattle.ir_types.specs.declared.module.Param.{Param}
use Rattle.ir_types.specs.declared.module.Block.{Block}
use Rattle.ir_types.specs.Names.{IsTable, name_at, same_name}
use Rattle.ir_types.specs.Denotes.{Tables, name_in, inst_in, block_in, param_in, tables_of}
use Rattle.ir_shape.specs.Placed.{IsPlace, IsInstPlaced, IsBlockPlaced, IsParamPlaced, IsFunctionPlaced}
use Rattle.ir_rules.specs.Locals.{Given, block, value, Definition, of_params, of_results, of_blocks}
use Rattle.ir_check_fits.specs.Roles.{is_there, at_param, at_result, at_block, at_function}
use Rattle.ir_check_fits.specs.Sites.{Site, is_given}
use Rattle.ir_check_fits.proofs.Defined.{same_itself, other_name}

name_there : (ns : List Name) (i : ℕ) (d : Name) → i < length ns → name_at ns i ≡ get_or ns i d
name_there [] i d lt = absurd (omega arith)
name_there (n ∷ ns) zero d lt = refl
name_there (n ∷ ns) (suc i) d lt = name_there ns i d (omega arith)

eq_self : (n : ℕ) → nat_eq n n ≡ true
eq_self n = (Decides-eqb n n).1 refl

eq_other : (m n : ℕ) → m ≢ n → nat_eq m n ≡ false
eq_other m n apart = by (nat_eq m n) refl
  where
    by : (b : Bool) → nat_eq m n ≡ b → nat_eq m n ≡ false
    by true e = absurd (apart ((Decides-eqb m n).0 e))
    by false e = e

-- two names of a table are one where their places are
same_place : (ns : List Name) → IsTable ns → (i j : ℕ) → i < length ns → j < length ns → same_name (name_at ns i) (name_at ns j) ≡ nat_eq i j
same_place ns table i j below within = elim (cases_eq i j) [
  | inl e ↦ rw e (same_itself (name_at ns j) ∙ sym (eq_self j))
  | inr apart ↦ other_name (name_at ns i) (name_at ns j) (differ apart) ∙ sym (eq_other i j apart)
]
  where
    d : Name
    d = Number 0

    earlier : (k l : ℕ) → k < l → l < length ns → name_at ns k ≡ name_at ns l → ⊥
    earlier k l lt within e = table.distinct k l d lt within (sym (name_there ns k d (omega arith)) ∙ e ∙ name_there ns l d within)

    differ : i ≢ j → name_at ns i ≢ name_at ns j
    differ apart e = elim (cases_lt i j) [
      | inl lt ↦ earlier i j lt within e
      | inr le ↦ earlier j i (omega (arith, apart)) below (sym e)
    ]

module _ (t : Tables) (ns : List Name) (table : IsTable ns) (i : ℕ) (p : Given → Bool) (lt : i < length ns) where
  -- a definition is of the name at the place, and passes the test
  abbrev passes : Definition → Bool
  passes d = same_name (name_at ns i) d.name && p d.given

  here : (id : ValueId) (g : Given) → IsPlace ns id → (same_name (name_at ns i) (name_in ns id) && p g) ≡ is_there i p id g
  here id g within = ap (λ (b : Bool). b && p g) (same_place ns table i id.0 lt within)

  or_both : (a b c d : Bool) → a ≡ c → b ≡ d → (a || b) ≡ (c || d)
  or_both a b c d e f = cc

  params : (xs : List Param) → AllByRecursion (IsParamPlaced ns) xs → list_any passes (of_params (map (param_in ns) xs)) ≡ list_any (at_param i p) xs
  params [] h = refl
  params (x ∷ xs) h = or_both _ _ _ _ (here x.name (value x.ty) h.0.name) (params xs h.1)

  results : (n : ℕ) (xs : List Inst) → AllByRecursion (IsInstPlaced t ns) xs → list_any passes (of_results n (map (inst_in t ns) xs)) ≡ list_any (at_result i p) xs
  results n [] h = refl
  results n (x ∷ xs) h = by x.result refl h.0.result (results (suc n) xs h.1)
    where
      by : (o : Option ValueId) → x.result ≡ o → IfSome x.result (IsPlace ns) → list_any passes (of_results (suc n) (map (inst_in t ns) xs)) ≡ list_any (at_result i p) xs → list_any passes (of_results n (map (inst_in t ns) (x ∷ xs))) ≡ list_any (at_result i p) (x ∷ xs)
      by (Some id) e within rest = let there : IsPlace ns id = rw e at within in rw e (or_both _ _ _ _ (here id (value x.ty) there) rest)
      by None e within rest = rw e rest

  or_three : (a b c d e : Bool) → a ≡ d → b ≡ e → (a || (b || c)) ≡ (d || e || c)
  or_three true b c true e h f = refl
  or_three true b c false e h f = absurd cc
  or_three false b c true e h f = absurd cc
  or_three false b c false e h f = ap (λ (x : Bool). x || c) f

  blocks : (n : ℕ) (xs : List Block) → AllByRecursion (IsBlockPlaced t ns) xs → list_any passes (of_blocks n (map (block_in t ns) xs)) ≡ list_any (at_block i p) xs
  blocks n [] h = refl
  blocks n (x ∷ xs) h =
      let insts = map (inst_in t ns) x.insts in
      let rest = of_blocks (n + length insts) (map (block_in t ns) xs) in
      ap (λ (b : Bool). (same_name (name_at ns i) (name_in ns x.name) && p block) || b) (list_any-append passes (of_results n insts) rest)
      ∙ or_three _ _ _ _ _ (here x.name block h.0.name) (results n x.insts h.0.insts)
      ∙ ap (λ (b : Bool). is_there i p x.name block || list_any (at_result i p) x.insts || b) (blocks (n + length insts) xs h.1)

-- what the name at a place is given to is what its place is
pub place_given : (s : Site) → IsTable s.part.names → IsFunctionPlaced (tables_of s.whole) s.part → (i : ℕ) (p : Given → Bool) → i < length s.part.names → at_function i p s.part ≡ is_given s i p
place_given s table placed i p lt =
    let t = tables_of s.whole in
    let ns = s.part.names in
    sym
    (list_any-append (passes t ns table i p lt) (of_params (map (param_in ns) s.part.params)) (of_blocks 0 (map (block_in t ns) s.part.body))
    ∙ or_both t ns table i p lt _ _ _ _ (params t ns table i p lt s.part.params placed.params) (blocks t ns table i p lt 0 s.part.body placed.blocks))
