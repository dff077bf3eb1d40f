-- The first use in a function of what isn't known, by places and by names.
use Rattle.std.proofs.Common.{◌≡◌, ◌<◌, ◌+◌, ℕ, zero, suc, Bool, true, false, cond, List, [], ◌∷◌, ◌++◌, map, length, get_or, set, Option, Some, None, refl, sym, ap, ◌∙◌, arith, append_assoc}
use Rattle.std.specs.Option.{option_map}
use Rattle.std.specs.List.{AllByRecursion, AllZip}
use Rattle.std.proofs.lemmas.List.{append-nil, length-map}
use Rattle.text_forms.specs.Nested.{concat}
use Rattle.ir_types.specs.declared.name.Name.{Name}
use Rattle.ir_types.specs.declared.name.ValueId.{ValueId}
use Rattle.ir_types.specs.declared.memory_type.TypeId.{TypeId}
use Rattle.ir_types.specs.declared.inst.Operand.{Operand}
use Rattle.ir_types.specs.declared.inst.Operand.TheVariants.{Local, Int, Null, Poison, Lanes, Global, OutOfRange}
use Rattle.ir_types.specs.declared.inst.InstKind.{InstKind}
use Rattle.ir_types.specs.declared.inst.InstKind.TheVariants as kinds
use Rattle.ir_types.specs.declared.inst.Inst.{Inst}
use Rattle.ir_types.specs.declared.module.Block.{Block}
use Rattle.ir_types.specs.declared.module.Function.{Function}
use Rattle.ir_types.specs.declared.module.Symbol.{Symbol}
use Rattle.ir_types.specs.declared.module.Module.{Module}
use Rattle.ir_types.specs.Denotes.{Tables, name_in, operand_in, kind_in, inst_in, block_in, function_in, tables_of, nodes_in}
use Rattle.ir_types.specs.Names.{IsTable, has_name, name_at}
use Rattle.ir_types.specs.Tree.{InstTree, BlockTree}
use Rattle.ir_types.specs.TypeNodes.{names_used}
use Rattle.ir_types.specs.Used.{types_in, insts_of}
use Rattle.ir_shape.specs.Placed.{IsPlace, IsOperandPlaced, IsInstPlaced, IsBlockPlaced, IsFunctionPlaced}
use Rattle.ir_rules.specs.declared.fault.Subject.{Subject}
use Rattle.ir_rules.specs.declared.fault.Subject.TheVariants as subjects
use Rattle.ir_rules.specs.Breaches.{first, Found, numbered_from, inside, all_at, in_insts}
use Rattle.ir_rules.specs.Locals.{names_of, definitions_of}
use Rattle.ir_rules.specs.Locals as rules
use Rattle.ir_rules.specs.Unknown.{Known, is_known, unknown_of, used_by_operand, used_by_operands, used_as_labels, used_by_entries, used_by, used_by_inst}
use Rattle.ir_check_names.specs.declared.definitions.Definition.{Definition}
use Rattle.ir_check_names.specs.declared.instructions.Used.{Used}
use Rattle.ir_check_names.specs.declared.instructions.Used.TheVariants as used
use Rattle.ir_check_names.specs.Choice.{or_else, first_of}
use Rattle.ir_check_names.specs.Definitions.{of_function, all_marked}
use Rattle.ir_check_names.specs.Missing.{missing_at}
use Rattle.ir_check_names.specs.Uses.{unknown_local, unknown_symbol, unknown_operand, unknown_entries, unknown_kind, unknown_parts, unknown_inst, unknown_insts, unknown_blocks}
use Rattle.ir_check_names.specs.FirstUnknown.{type_subject, symbol_subject, used_subject, breach_of, local_marks}
use Rattle.ir_check_names.proofs.Choosing.{mapped_both, mapped_twice, in_turn, first_map, first_concat, first_of_both}
use Rattle.ir_check_names.proofs.Marked.{marks_of, mark_at, none_marked, marked_more}
use Rattle.ir_check_names.proofs.Defining.{Says, IsNamed, function_says, function_named, local_named}
use Rattle.ir_check_names.proofs.Lacking.{first_unmet, unmet_both, unmet_one}

-- ---- the marks of locals

marked_right : (names before : List Name) (ds : List Definition) (es : List rules.Definition) → IsTable names → AllByRecursion (IsNamed names) ds → AllZip (Says names) ds es → all_marked (marks_of names before) ds ≡ marks_of names (before ++ names_of es)
marked_right names before [] [] table named says = ap (marks_of names) (sym (append-nil before))
marked_right names before [] (e ∷ es) table named says = absurd says
marked_right names before (d ∷ ds) [] table named says = absurd says
marked_right names before (d ∷ ds) (e ∷ es) table named says =
    let later : set (marks_of names before) d.name.0 true ≡ marks_of names (before ++ e.name ∷ []) = marked_more names before d.name.0 table named.0 ∙ ap (λ n. marks_of names (before ++ n ∷ [])) (sym says.0.0) in
    ap (λ marks. all_marked marks ds) later ∙ marked_right names (before ++ e.name ∷ []) ds es table named.1 says.1 ∙ ap (marks_of names) (append_assoc before (e.name ∷ []) (names_of es))

-- the locals of a function that are marked are those that are defined in its tree
pub locals_marked : (t : Tables) (f : Function) → IsTable f.names → IsFunctionPlaced t f → local_marks f ≡ marks_of f.names (names_of (definitions_of (function_in t f)))
locals_marked t f table placed = ap (λ marks. all_marked marks (of_function f)) (none_marked f.names) ∙ marked_right f.names [] (of_function f) (definitions_of (function_in t f)) table (function_named t f placed) (function_says t f)

-- ---- symbols at their places

symbol_named : (ss : List Symbol) (i : ℕ) → i < length (map (λ (s : Symbol). s.name) ss) → symbol_subject ss i ≡ subjects.Symbol (name_at (map (λ (s : Symbol). s.name) ss) i)
symbol_named [] i lt = absurd (omega arith)
symbol_named (s ∷ ss) zero lt = refl
symbol_named (s ∷ ss) (suc i) lt = symbol_named ss i (omega arith)

-- ---- uses

numbered_both : {A : Type 0} (n : ℕ) (xs ys : List A) → numbered_from n (xs ++ ys) ≡ numbered_from n xs ++ numbered_from (n + length xs) ys
numbered_both n [] ys = let e : n ≡ n + 0 = omega arith in ap (λ k. numbered_from k ys) e
numbered_both n (x ∷ xs) ys = let e : suc n + length xs ≡ n + suc (length xs) = omega arith in ap (λ l. (n, x) ∷ l) (numbered_both (suc n) xs ys ∙ ap (λ k. numbered_from (suc n) xs ++ numbered_from k ys) e)

module _ (m : Module) (f : Function) (k : Known) (locals symbols : List Bool) (missing : List (Option ℕ))
    (are_locals : locals ≡ marks_of f.names k.locals) (are_symbols : symbols ≡ marks_of (map (λ (s : Symbol). s.name) m.symbols) k.symbols)
    (are_missing : (id : TypeId) → option_map (type_subject m.type_names) (missing_at missing id) ≡ first_unmet k (map subjects.TypeName (names_used (nodes_in m id)))) where
  -- what is said of a use
  abbrev said : Option Used → Option Subject
  said o = option_map (used_subject m f.names) o

  abbrev t : Tables
  t = tables_of m

  -- one use, where it isn't marked
  one_right : (b mark : Bool) (u : Used) (s : Subject) → mark ≡ b → is_known k s ≡ b → used_subject m f.names u ≡ s → said (cond mark None (Some u)) ≡ first_unmet k (s ∷ [])
  one_right b mark u s e known is = ap (λ v. said (cond v None (Some u))) e ∙ by b ∙ unmet_one k s b known
    where
      by : (b : Bool) → said (cond b None (Some u)) ≡ cond b None (Some s)
      by true = refl
      by false = ap Some is

  local_right : (id : ValueId) → IsPlace f.names id → said (unknown_local locals id) ≡ first_unmet k (subjects.Local (name_in f.names id) ∷ [])
  local_right id lt = one_right (has_name (name_in f.names id) k.locals) (get_or locals id.0 false) (used.Local id) (subjects.Local (name_in f.names id)) (ap (λ marks. get_or marks id.0 false) are_locals ∙ mark_at f.names k.locals id.0 lt) refl (local_named f.names id lt)

  symbol_right : (i : ℕ) → i < length t.symbols → said (unknown_symbol symbols i) ≡ first_unmet k (subjects.Symbol (name_at t.symbols i) ∷ [])
  symbol_right i lt = one_right (has_name (name_at t.symbols i) k.symbols) (get_or symbols i false) (used.Symbol i) (subjects.Symbol (name_at t.symbols i)) (ap (λ marks. get_or marks i false) are_symbols ∙ mark_at t.symbols k.symbols i lt) refl (symbol_named m.symbols i lt)

  operand_right : (a : Operand) → IsOperandPlaced t f.names a → said (unknown_operand locals symbols a) ≡ first_unmet k (used_by_operand (operand_in t f.names a))
  operand_right (Local id) h = local_right id h
  operand_right (Int n) h = refl
  operand_right Null h = refl
  operand_right Poison h = refl
  operand_right (Lanes xs) h = refl
  operand_right (Global i bytes) h = symbol_right i h
  operand_right (OutOfRange None) h = refl
  operand_right (OutOfRange (Some i)) h = symbol_right i h

  operands_right : (args : List Operand) → AllByRecursion (IsOperandPlaced t f.names) args → said (first_of (unknown_operand locals symbols) args) ≡ first_unmet k (used_by_operands (map (operand_in t f.names) args))
  operands_right [] h = refl
  operands_right (a ∷ args) h =
      let one = operand_right a h.0 in
      let rest = operands_right args h.1 in
      let mapped = mapped_both (used_subject m f.names) (unknown_operand locals symbols a) (first_of (unknown_operand locals symbols) args) in
      let both = unmet_both k (used_by_operand (operand_in t f.names a)) (used_by_operands (map (operand_in t f.names) args)) in
      cc

  labels_right : (labels : List ValueId) → AllByRecursion (IsPlace f.names) labels → said (first_of (unknown_local locals) labels) ≡ first_unmet k (used_as_labels (map (name_in f.names) labels))
  labels_right [] h = refl
  labels_right (l ∷ labels) h =
      let one = local_right l h.0 in
      let rest = labels_right labels h.1 in
      let mapped = mapped_both (used_subject m f.names) (unknown_local locals l) (first_of (unknown_local locals) labels) in
      let both = unmet_both k (subjects.Local (name_in f.names l) ∷ []) (used_as_labels (map (name_in f.names) labels)) in
      mapped ∙ ap (λ o. or_else o (said (first_of (unknown_local locals) labels))) one ∙ ap (or_else (first_unmet k (subjects.Local (name_in f.names l) ∷ []))) rest ∙ sym both

  entries_right : (args : List Operand) (labels : List ValueId) → AllByRecursion (IsOperandPlaced t f.names) args → AllByRecursion (IsPlace f.names) labels → said (unknown_entries locals symbols args labels) ≡ first_unmet k (used_by_entries (map (operand_in t f.names) args) (map (name_in f.names) labels))
  entries_right [] [] h g = refl
  entries_right [] (l ∷ labels) h g = labels_right (l ∷ labels) g
  entries_right (a ∷ args) [] h g = operands_right (a ∷ args) h
  entries_right (a ∷ args) (l ∷ labels) h g =
      let here = unknown_operand locals symbols a in
      let label = unknown_local locals l in
      let there = unknown_entries locals symbols args labels in
      let subject = subjects.Local (name_in f.names l) in
      let uses = used_by_operand (operand_in t f.names a) in
      let behind = used_by_entries (map (operand_in t f.names) args) (map (name_in f.names) labels) in
      mapped_both (used_subject m f.names) (or_else here label) there
      ∙ ap (λ o. or_else o (said there)) (mapped_both (used_subject m f.names) here label)
      ∙ in_turn (said here) (said label) (said there)
      ∙ ap (λ o. or_else o (or_else (said label) (said there))) (operand_right a h.0)
      ∙ ap (λ o. or_else (first_unmet k uses) (or_else o (said there))) (local_right l g.0)
      ∙ ap (λ o. or_else (first_unmet k uses) (or_else (first_unmet k (subject ∷ [])) o)) (entries_right args labels h.1 g.1)
      ∙ ap (or_else (first_unmet k uses)) (sym (unmet_both k (subject ∷ []) behind))
      ∙ sym (unmet_both k uses (subject ∷ behind))

  kind_right : (kind : InstKind) → said (unknown_kind missing kind) ≡ first_unmet k (map subjects.TypeName (types_in (kind_in t kind)))
  kind_right (kinds.Offset id widths inbounds nuw nusw) = mapped_twice (used_subject m f.names) used.TypeName (missing_at missing id) ∙ are_missing id
  kind_right kind = refl

  -- all but a phi
  plain_right : (kind : InstKind) (args : List Operand) (labels : List ValueId) → AllByRecursion (IsOperandPlaced t f.names) args → AllByRecursion (IsPlace f.names) labels
      → said (or_else (unknown_kind missing kind) (or_else (first_of (unknown_operand locals symbols) args) (first_of (unknown_local locals) labels)))
      ≡ first_unmet k (map subjects.TypeName (types_in (kind_in t kind)) ++ (used_by_operands (map (operand_in t f.names) args) ++ used_as_labels (map (name_in f.names) labels)))
  plain_right kind args labels h g =
      let a = unknown_kind missing kind in
      let b = first_of (unknown_operand locals symbols) args in
      let c = first_of (unknown_local locals) labels in
      let xs = map subjects.TypeName (types_in (kind_in t kind)) in
      let ys = used_by_operands (map (operand_in t f.names) args) in
      let zs = used_as_labels (map (name_in f.names) labels) in
      mapped_both (used_subject m f.names) a (or_else b c)
      ∙ ap (or_else (said a)) (mapped_both (used_subject m f.names) b c)
      ∙ ap (λ o. or_else o (or_else (said b) (said c))) (kind_right kind)
      ∙ ap (λ o. or_else (first_unmet k xs) (or_else o (said c))) (operands_right args h)
      ∙ ap (λ o. or_else (first_unmet k xs) (or_else (first_unmet k ys) o)) (labels_right labels g)
      ∙ ap (or_else (first_unmet k xs)) (sym (unmet_both k ys zs))
      ∙ sym (unmet_both k xs (ys ++ zs))

  parts_right : (kind : InstKind) (args : List Operand) (labels : List ValueId) → AllByRecursion (IsOperandPlaced t f.names) args → AllByRecursion (IsPlace f.names) labels
      → said (unknown_parts locals symbols missing kind args labels) ≡ first_unmet k (used_by (kind_in t kind) (map (operand_in t f.names) args) (map (name_in f.names) labels))
  parts_right kinds.Phi args labels h g = entries_right args labels h g
  parts_right kind args labels h g = plain_right kind args labels h g

  -- ---- with the numbers of instructions

  -- what isn't known in an instruction
  abbrev unmet_in : InstTree → List Subject
  unmet_in i = unknown_of k (used_by_inst i)

  -- the first of it, with the instruction's number
  abbrev first_at : ℕ × InstTree → Option Found
  first_at i = first (all_at i.0 (unmet_in i.1))

  abbrev said_at : Option (Used × ℕ) → Option Found
  said_at o = option_map (λ u. (used_subject m f.names u.0, u.1)) o

  inst_right : (n : ℕ) (i : Inst) → IsInstPlaced t f.names i → said_at (option_map (λ u. (u, n)) (unknown_inst locals symbols missing i)) ≡ first_at (n, inst_in t f.names i)
  inst_right n i h =
      mapped_twice (λ u. (used_subject m f.names u.0, u.1)) (λ u. (u, n)) (unknown_inst locals symbols missing i)
      ∙ sym (mapped_twice (λ s. (s, n)) (used_subject m f.names) (unknown_inst locals symbols missing i))
      ∙ ap (option_map (λ s. (s, n))) (parts_right i.kind i.args i.labels h.args h.labels)
      ∙ sym (first_map (λ s. (s, n)) (unmet_in (inst_in t f.names i)))

  insts_right : (n : ℕ) (insts : List Inst) → AllByRecursion (IsInstPlaced t f.names) insts → said_at (unknown_insts locals symbols missing n insts) ≡ first_of first_at (numbered_from n (map (inst_in t f.names) insts))
  insts_right n [] h = refl
  insts_right n (i ∷ insts) h =
      let one = option_map (λ u. (u, n)) (unknown_inst locals symbols missing i) in
      let rest = unknown_insts locals symbols missing (suc n) insts in
      mapped_both (λ u. (used_subject m f.names u.0, u.1)) one rest ∙ ap (λ o. or_else o (said_at rest)) (inst_right n i h.0) ∙ ap (or_else (first_at (n, inst_in t f.names i))) (insts_right (suc n) insts h.1)

  blocks_right : (n : ℕ) (blocks : List Block) → AllByRecursion (IsBlockPlaced t f.names) blocks → said_at (unknown_blocks locals symbols missing n blocks) ≡ first_of first_at (numbered_from n (concat (map (λ (b : BlockTree). b.insts) (map (block_in t f.names) blocks))))
  blocks_right n [] h = refl
  blocks_right n (b ∷ blocks) h =
      let one = unknown_insts locals symbols missing n b.insts in
      let next = n + length b.insts in
      let rest = unknown_blocks locals symbols missing next blocks in
      let insts = map (inst_in t f.names) b.insts in
      let behind = concat (map (λ (b : BlockTree). b.insts) (map (block_in t f.names) blocks)) in
      let long : next ≡ n + length insts = ap (λ l. n + l) (sym (length-map b.insts (inst_in t f.names))) in
      mapped_both (λ u. (used_subject m f.names u.0, u.1)) one rest
      ∙ ap (λ o. or_else o (said_at rest)) (insts_right n b.insts h.0.insts)
      ∙ ap (or_else (first_of first_at (numbered_from n insts))) (blocks_right next blocks h.1 ∙ ap (λ l. first_of first_at (numbered_from l behind)) long)
      ∙ sym (ap (first_of first_at) (numbered_both n insts behind) ∙ first_of_both first_at (numbered_from n insts) (numbered_from (n + length insts) behind))

  pub function_right : IsFunctionPlaced t f → option_map (breach_of m f) (unknown_blocks locals symbols missing 0 f.body) ≡ first (map (inside f.name) (in_insts (λ i. unknown_of k (used_by_inst i)) (function_in t f)))
  function_right h =
      let found = unknown_blocks locals symbols missing 0 f.body in
      let insts = numbered_from 0 (insts_of (function_in t f)) in
      sym (mapped_twice (inside f.name) (λ u. (used_subject m f.names u.0, u.1)) found)
      ∙ ap (option_map (inside f.name)) (blocks_right 0 f.body h.blocks ∙ sym (first_concat (λ (i : ℕ × InstTree). all_at i.0 (unmet_in i.1)) insts))
      ∙ sym (first_map (inside f.name) (concat (map (λ (i : ℕ × InstTree). all_at i.0 (unmet_in i.1)) insts)))
