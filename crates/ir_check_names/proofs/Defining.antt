-- The locals of a function where they are defined, by their places and by their names.
use Rattle.std.proofs.Common.{◌≡◌, ◌<◌, ℕ, suc, ◌+◌, List, [], ◌∷◌, ◌++◌, map, length, Option, Some, None, refl, sym, ap, ◌∙◌}
use Rattle.std.specs.Prelude.{IfSome}
use Rattle.std.specs.Option.{option_map}
use Rattle.std.specs.List.{AllByRecursion, AllZip}
use Rattle.std.proofs.lemmas.List.{length-map}
use Rattle.text_lex.proofs.Lexed.{each_append}
use Rattle.ir_types.specs.declared.name.Name.{Name}
use Rattle.ir_types.specs.declared.name.ValueId.{ValueId}
use Rattle.ir_types.specs.declared.inst.Inst.{Inst}
use Rattle.ir_types.specs.declared.module.Block.{Block}
use Rattle.ir_types.specs.declared.module.Param.{Param}
use Rattle.ir_types.specs.declared.module.Function.{Function}
use Rattle.ir_types.specs.Denotes.{Tables, name_in, inst_in, block_in, param_in, function_in}
use Rattle.ir_shape.specs.Placed.{IsPlace, IsInstPlaced, IsBlockPlaced, IsParamPlaced, IsFunctionPlaced}
use Rattle.ir_rules.specs.declared.fault.Subject.TheVariants.{Local}
use Rattle.ir_rules.specs.Breaches.{inside}
use Rattle.ir_rules.specs.Locals.{value, definitions_of}
use Rattle.ir_rules.specs.Locals as rules
use Rattle.ir_check_names.specs.declared.definitions.Definition.{Definition}
use Rattle.ir_check_names.specs.Definitions.{of_params, of_results, of_blocks, of_function, local_subject, breach_at}
use Rattle.ir_check_names.proofs.Marked.{got_at}

-- a definition by its place says what this one says by its name
abbrev pub Says : List Name → Definition → rules.Definition → Type 0
Says names d e = (e.name ≡ name_in names d.name) × (e.place ≡ d.place)

-- it has a name
abbrev pub IsNamed : List Name → Definition → Type 0
IsNamed names d = d.name.0 < length names

zip_both : {A B : Type 0} (R : A → B → Type 0) (xs xs' : List A) (ys ys' : List B) → AllZip R xs ys → AllZip R xs' ys' → AllZip R (xs ++ xs') (ys ++ ys')
zip_both R [] xs' [] ys' h k = k
zip_both R [] xs' (y ∷ ys) ys' h k = absurd h
zip_both R (x ∷ xs) xs' [] ys' h k = absurd h
zip_both R (x ∷ xs) xs' (y ∷ ys) ys' h k = (h.0, zip_both R xs xs' ys ys' h.1 k)

-- ---- what they say

module _ (t : Tables) (names : List Name) where
  params_say : (params : List Param) → AllZip (Says names) (of_params params) (rules.of_params (map (param_in names) params))
  params_say [] = tt
  params_say (p ∷ params) = ((refl, refl), params_say params)

  results_say : (n : ℕ) (insts : List Inst) → AllZip (Says names) (of_results n insts) (rules.of_results n (map (inst_in t names) insts))
  results_say n [] = tt
  results_say n (i ∷ insts) = by i.result (results_say (suc n) insts)
    where
      by : (o : Option ValueId) → AllZip (Says names) (of_results (suc n) insts) (rules.of_results (suc n) (map (inst_in t names) insts))
          → AllZip (Says names) (elim o [ Some r ↦ record { name = r; place = n } ∷ of_results (suc n) insts | None ↦ of_results (suc n) insts ])
          (elim (option_map (name_in names) o) [ Some r ↦ record { place = n; name = r; given = value i.ty } ∷ rules.of_results (suc n) (map (inst_in t names) insts) | None ↦ rules.of_results (suc n) (map (inst_in t names) insts) ])
      by None h = h
      by (Some r) h = ((refl, refl), h)

  blocks_say : (n : ℕ) (blocks : List Block) → AllZip (Says names) (of_blocks n blocks) (rules.of_blocks n (map (block_in t names) blocks))
  blocks_say n [] = tt
  blocks_say n (b ∷ blocks) =
      let insts = map (inst_in t names) b.insts in
      let long : length insts ≡ length b.insts = length-map b.insts (inst_in t names) in
      let rest : AllZip (Says names) (of_blocks (n + length b.insts) blocks) (rules.of_blocks (n + length insts) (map (block_in t names) blocks)) = rw long (blocks_say (n + length b.insts) blocks) in
      ((refl, refl), zip_both (Says names) (of_results n b.insts) (of_blocks (n + length b.insts) blocks) (rules.of_results n insts) (rules.of_blocks (n + length insts) (map (block_in t names) blocks)) (results_say n b.insts) rest)

-- the definitions of a function are those of its tree, one by one
pub function_says : (t : Tables) (f : Function) → AllZip (Says f.names) (of_function f) (definitions_of (function_in t f))
function_says t f = zip_both (Says f.names) (of_params f.params) (of_blocks 0 f.body) (rules.of_params (map (param_in f.names) f.params)) (rules.of_blocks 0 (map (block_in t f.names) f.body)) (params_say t f.names f.params) (blocks_say t f.names 0 f.body)

-- ---- that they have names

module _ (t : Tables) (names : List Name) where
  params_named : (params : List Param) → AllByRecursion (IsParamPlaced names) params → AllByRecursion (IsNamed names) (of_params params)
  params_named [] h = tt
  params_named (p ∷ params) h = (h.0.name, params_named params h.1)

  results_named : (n : ℕ) (insts : List Inst) → AllByRecursion (IsInstPlaced t names) insts → AllByRecursion (IsNamed names) (of_results n insts)
  results_named n [] h = tt
  results_named n (i ∷ insts) h = by i.result h.0.result (results_named (suc n) insts h.1)
    where
      by : (o : Option ValueId) → IfSome o (IsPlace names) → AllByRecursion (IsNamed names) (of_results (suc n) insts) → AllByRecursion (IsNamed names) (elim o [ Some r ↦ record { name = r; place = n } ∷ of_results (suc n) insts | None ↦ of_results (suc n) insts ])
      by None p h = h
      by (Some r) p h = (p, h)

  blocks_named : (n : ℕ) (blocks : List Block) → AllByRecursion (IsBlockPlaced t names) blocks → AllByRecursion (IsNamed names) (of_blocks n blocks)
  blocks_named n [] h = tt
  blocks_named n (b ∷ blocks) h = (h.0.name, each_append (IsNamed names) (of_results n b.insts) (of_blocks (n + length b.insts) blocks) (results_named n b.insts h.0.insts) (blocks_named (n + length b.insts) blocks h.1))

-- and each has its name in the table
pub function_named : (t : Tables) (f : Function) → IsFunctionPlaced t f → AllByRecursion (IsNamed f.names) (of_function f)
function_named t f h = each_append (IsNamed f.names) (of_params f.params) (of_blocks 0 f.body) (params_named t f.names f.params h.params) (blocks_named t f.names 0 f.body h.blocks)

-- ---- breaches

-- a local in the table is named by it
pub local_named : (names : List Name) (id : ValueId) → id.0 < length names → local_subject names id ≡ Local (name_in names id)
local_named names id lt = rw (got_at names id.0 lt, local_subject) refl

-- a breach at a definition is that of the tree's
pub breach_says : (f : Function) (d : Definition) (e : rules.Definition) → IsNamed f.names d → Says f.names d e → breach_at f d ≡ inside f.name (Local e.name, e.place)
breach_says f d e lt s =
    let subject : local_subject f.names d.name ≡ Local e.name = local_named f.names d.name lt ∙ ap Local (sym s.0) in
    let place : d.place ≡ e.place = sym s.1 in
    cc
