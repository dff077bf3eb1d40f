-- Labels put behind the lists of those that they lead to are the predecessors.
use Rattle.std.proofs.Common.{◌≡◌, ◌≢◌, ℕ, zero, suc, ◌+◌, ◌<◌, ◌≤◌, Bool, true, false, cond, nat_eq, inl, inr, List, [], ◌∷◌, ◌++◌, length, map, filter, get_or, set, drop, replicate, subst, refl, sym, ap, ◌∙◌, true≢false, arith}
use Rattle.std.specs.List.{AllByRecursion}
use Rattle.std.specs.Global.{Vec}
use Rattle.std.proofs.lemmas.Bool.Decides.{Decides-eqb}
use Rattle.std.proofs.lemmas.List.{append-nil, append_assoc, get_or-set_same, get_or-set_other, length-set, map-set, replicate-append-replicate}
use Rattle.text_forms.specs.Nested.{concat}
use Rattle.text_forms.proofs.Begins.{test}
use Rattle.ir_types.specs.declared.name.Name.{Name}
use Rattle.ir_types.specs.declared.name.ValueId.{ValueId}
use Rattle.ir_types.specs.declared.inst.Inst.{Inst}
use Rattle.ir_types.specs.declared.module.Block.{Block}
use Rattle.ir_types.specs.declared.module.Function.{Function}
use Rattle.ir_types.specs.Names.{IsTable, name_at, same_name}
use Rattle.ir_types.specs.Tree.{BlockTree}
use Rattle.ir_types.specs.Denotes.{Tables, name_in, inst_in, block_in, function_in}
use Rattle.ir_graph.specs.Edges.{targets_of, successors, predecessors}
use Rattle.ir_graph.specs.EdgeLists.{goes_to}
use Rattle.ir_check_edges.specs.Incoming.{rows_of, row_at, put, put_all, labels_by, put_blocks, AreIncoming}
use Rattle.ir_graph.proofs.Tables.{same_place}
use Rattle.ir_graph.proofs.Targets.{targets_are}

-- a label, once for each of some labels that is the one at a place
abbrev pub sources : ValueId → ℕ → List ValueId → List ValueId
sources from i ls = map (λ _. from) (filter (λ (l : ValueId). nat_eq i l.0) ls)

abbrev Within : ℕ → List ValueId → Type 0
Within n ls = AllByRecursion (λ (l : ValueId). l.0 < n) ls

row_put : (from : ValueId) (rows : List (List ValueId)) (to : ValueId) (i : ℕ) → to.0 < length rows → row_at (put from rows to) i ≡ row_at rows i ++ sources from i (to ∷ [])
row_put from rows to i lt = elim (test (nat_eq i to.0)) [
  | inl e ↦ let same : i ≡ to.0 = (Decides-eqb i to.0).0 e in
      ap (row_at (put from rows to)) same ∙ get_or-set_same rows to.0 (row_at rows to.0 ++ from ∷ []) [] lt ∙ ap (λ k. row_at rows k ++ from ∷ []) (sym same) ∙ ap (λ b. row_at rows i ++ map (λ _. from) (cond b (to ∷ []) [])) (sym e)
  | inr e ↦ let other : i ≢ to.0 = λ same. true≢false (sym ((Decides-eqb i to.0).1 same) ∙ e) in
      get_or-set_other rows to.0 i (row_at rows to.0 ++ from ∷ []) [] other ∙ sym (append-nil (row_at rows i)) ∙ ap (λ b. row_at rows i ++ map (λ _. from) (cond b (to ∷ []) [])) (sym e)
]

sources_cons : (from : ValueId) (i : ℕ) (l : ValueId) (ls : List ValueId) → sources from i (l ∷ []) ++ sources from i ls ≡ sources from i (l ∷ ls)
sources_cons from i l ls = by (nat_eq i l.0) where
  by : (b : Bool) → map (λ _. from) (cond b (l ∷ []) []) ++ sources from i ls ≡ map (λ _. from) (cond b (l ∷ filter (λ (l : ValueId). nat_eq i l.0) ls) (filter (λ (l : ValueId). nat_eq i l.0) ls))
  by true = refl
  by false = refl

pub size_put_all : (from : ValueId) (ls : List ValueId) (rows : List (List ValueId)) → length (put_all from rows ls) ≡ length rows
size_put_all from [] rows = refl
size_put_all from (l ∷ ls) rows = size_put_all from ls (put from rows l) ∙ length-set rows l.0 (row_at rows l.0 ++ from ∷ [])

pub put_all_both : (from : ValueId) (xs ys : List ValueId) (rows : List (List ValueId)) → put_all from rows (xs ++ ys) ≡ put_all from (put_all from rows xs) ys
put_all_both from [] ys rows = refl
put_all_both from (x ∷ xs) ys rows = put_all_both from xs ys (put from rows x)

row_put_all : (from : ValueId) (ls : List ValueId) (rows : List (List ValueId)) (i : ℕ) → Within (length rows) ls → row_at (put_all from rows ls) i ≡ row_at rows i ++ sources from i ls
row_put_all from [] rows i within = sym (append-nil (row_at rows i))
row_put_all from (l ∷ ls) rows i within =
    row_put_all from ls (put from rows l) i (subst (λ n. Within n ls) (sym (length-set rows l.0 (row_at rows l.0 ++ from ∷ []))) within.1)
    ∙ ap (λ r. r ++ sources from i ls) (row_put from rows l i within.0)
    ∙ append_assoc (row_at rows i) (sources from i (l ∷ [])) (sources from i ls)
    ∙ ap (λ r. row_at rows i ++ r) (sources_cons from i l ls)

-- what blocks give to the list at a place
abbrev pub sources_in : ℕ → List Block → List ValueId
sources_in i bs = concat (map (λ (b : Block). sources b.name i (labels_by b.insts)) bs)

abbrev pub AreWithin : ℕ → List Block → Type 0
AreWithin n bs = AllByRecursion (λ (b : Block). Within n (labels_by b.insts)) bs

row_put_blocks : (bs : List Block) (rows : List (List ValueId)) (i : ℕ) → AreWithin (length rows) bs → row_at (put_blocks rows bs) i ≡ row_at rows i ++ sources_in i bs
row_put_blocks [] rows i within = sym (append-nil (row_at rows i))
row_put_blocks (b ∷ bs) rows i within =
    row_put_blocks bs (put_all b.name rows (labels_by b.insts)) i (subst (λ n. AreWithin n bs) (sym (size_put_all b.name (labels_by b.insts) rows)) within.1)
    ∙ ap (λ r. r ++ sources_in i bs) (row_put_all b.name (labels_by b.insts) rows i within.0)
    ∙ append_assoc (row_at rows i) (sources b.name i (labels_by b.insts)) (sources_in i bs)

row_empty : (n i : ℕ) → row_at (replicate n []) i ≡ []
row_empty zero i = refl
row_empty (suc n) zero = refl
row_empty (suc n) (suc i) = row_empty n i

-- ---- in names

mapped_both : {A B : Type 0} (h : A → B) (xs ys : List A) → map h (xs ++ ys) ≡ map h xs ++ map h ys
mapped_both h [] ys = refl
mapped_both h (x ∷ xs) ys = ap (λ zs. h x ∷ zs) (mapped_both h xs ys)

named_sources : (ns : List Name) → IsTable ns → (from : ValueId) (i : ℕ) → i < length ns → (ls : List ValueId) → Within (length ns) ls → map (name_in ns) (sources from i ls) ≡ map (λ _. name_in ns from) (filter (same_name (name_at ns i)) (map (name_in ns) ls))
named_sources ns table from i here [] within = refl
named_sources ns table from i here (l ∷ ls) within = by (nat_eq i l.0) (same_name (name_at ns i) (name_in ns l)) (same_place ns table i l.0 here within.0) (named_sources ns table from i here ls within.1) where
  by : (a b : Bool) → a ≡ b → map (name_in ns) (sources from i ls) ≡ map (λ _. name_in ns from) (filter (same_name (name_at ns i)) (map (name_in ns) ls))
      → map (name_in ns) (map (λ _. from) (cond a (l ∷ filter (λ (l : ValueId). nat_eq i l.0) ls) (filter (λ (l : ValueId). nat_eq i l.0) ls)))
      ≡ map (λ _. name_in ns from) (cond b (name_in ns l ∷ filter (same_name (name_at ns i)) (map (name_in ns) ls)) (filter (same_name (name_at ns i)) (map (name_in ns) ls)))
  by true true e rest = ap (λ xs. name_in ns from ∷ xs) rest
  by true false e rest = absurd (true≢false e)
  by false true e rest = absurd (true≢false (sym e))
  by false false e rest = rest

successors_are : (t : Tables) (ns : List Name) (is : List Inst) → concat (map targets_of (map (inst_in t ns) is)) ≡ map (name_in ns) (labels_by is)
successors_are t ns [] = refl
successors_are t ns (i ∷ is) = ap (λ xs. xs ++ concat (map targets_of (map (inst_in t ns) is))) (targets_are t ns i.kind i.labels) ∙ ap (λ xs. map (name_in ns) (goes_to i) ++ xs) (successors_are t ns is) ∙ sym (mapped_both (name_in ns) (goes_to i) (labels_by is))

named_blocks : (t : Tables) (ns : List Name) → IsTable ns → (i : ℕ) → i < length ns → (bs : List Block) → AreWithin (length ns) bs → map (name_in ns) (sources_in i bs) ≡ concat (map (λ (b : BlockTree). map (λ _. b.name) (filter (same_name (name_at ns i)) (successors b))) (map (block_in t ns) bs))
named_blocks t ns table i here [] within = refl
named_blocks t ns table i here (b ∷ bs) within =
    mapped_both (name_in ns) (sources b.name i (labels_by b.insts)) (sources_in i bs)
    ∙ ap (λ xs. xs ++ map (name_in ns) (sources_in i bs)) (named_sources ns table b.name i here (labels_by b.insts) within.0 ∙ ap (λ xs. map (λ _. name_in ns b.name) (filter (same_name (name_at ns i)) xs)) (sym (successors_are t ns b.insts)))
    ∙ ap (λ xs. map (λ _. name_in ns b.name) (filter (same_name (name_at ns i)) (successors (block_in t ns b))) ++ xs) (named_blocks t ns table i here bs within.1)

abbrev empty_rows : ℕ → List (List ValueId)
empty_rows n = replicate n []

length_empty : (n : ℕ) → length (empty_rows n) ≡ n
length_empty zero = refl
length_empty (suc n) = ap suc (length_empty n)

-- one more empty list
pub empty_more : (n : ℕ) → empty_rows n ++ [] ∷ [] ≡ empty_rows (n + 1)
empty_more n = replicate-append-replicate n 1 []

rows_both : (xs ys : List (Vec ValueId)) → rows_of (xs ++ ys) ≡ rows_of xs ++ rows_of ys
rows_both [] ys = refl
rows_both (x ∷ xs) ys = ap (λ zs. x.items ∷ zs) (rows_both xs ys)

pub empty_next : (rows : List (Vec ValueId)) (row : Vec ValueId) (n : ℕ) → rows_of rows ≡ replicate n [] → row.items ≡ [] → rows_of (rows ++ row ∷ []) ≡ replicate (n + 1) []
empty_next rows row n e none = rows_both rows (row ∷ []) ∙ ap (λ r. rows_of rows ++ r ∷ []) none ∙ ap (λ r. r ++ [] ∷ []) e ∙ empty_more n

-- a label is put behind the list at a place
pub put_is : (from to : ValueId) (rows : List (Vec ValueId)) (row old : Vec ValueId) → to.0 < length rows → old ≡ get_or rows to.0 old → row.items ≡ old.items ++ from ∷ [] → rows_of (set rows to.0 row) ≡ put from (rows_of rows) to
put_is from to rows row old lt is e =
    map-set (λ (r : Vec ValueId). r.items) rows to.0 row
    ∙ ap (set (rows_of rows) to.0) (e ∙ ap (λ r. r ++ from ∷ []) (ap (λ (r : Vec ValueId). r.items) is ∙ at rows to.0 lt))
  where
    at : (xs : List (Vec ValueId)) (k : ℕ) → k < length xs → (get_or xs k old).items ≡ row_at (rows_of xs) k
    at [] k lt = absurd (omega (arith, lt))
    at (x ∷ xs) zero lt = refl
    at (x ∷ xs) (suc k) lt = at xs k (omega (arith, lt))

-- what the lists hold in the end
pub incoming : (f : Function) (rows : List (List ValueId)) → IsTable f.names → AreWithin (length f.names) f.body → rows ≡ put_blocks (replicate (length f.names) []) f.body → (t : Tables) (i : ℕ) → i < length f.names → map (name_in f.names) (row_at rows i) ≡ predecessors (function_in t f) (name_at f.names i)
incoming f rows table within e t i here =
    ap (λ r. map (name_in f.names) (row_at r i)) e
    ∙ ap (map (name_in f.names)) (row_put_blocks f.body (replicate (length f.names) []) i (subst (λ n. AreWithin n f.body) (sym (length_empty (length f.names))) within) ∙ ap (λ r. r ++ sources_in i f.body) (row_empty (length f.names) i))
    ∙ named_blocks t f.names table i here f.body within

-- ---- as the loops need them

pub drop_next : {A : Type 0} (xs : List A) (k : ℕ) (d : A) → k < length xs → drop k xs ≡ get_or xs k d ∷ drop (k + 1) xs
drop_next [] k d lt = absurd (omega (arith, lt))
drop_next (x ∷ xs) zero d lt = refl
drop_next (x ∷ xs) (suc k) d lt = let next : suc k + 1 ≡ suc (k + 1) = omega arith in drop_next xs k d (omega (arith, lt)) ∙ ap (λ j. get_or xs k d ∷ drop j (x ∷ xs)) (sym next)

pub put_next : (from : ValueId) (rows : List (Vec ValueId)) (row old : Vec ValueId) (labels : List ValueId) (k : ℕ) (d : ValueId) (whole : List (List ValueId)) → put_all from (rows_of rows) (drop k labels) ≡ whole → k < length labels → (get_or labels k d).0 < length rows → old ≡ get_or rows (get_or labels k d).0 old → row.items ≡ old.items ++ from ∷ []
    → put_all from (rows_of (set rows (get_or labels k d).0 row)) (drop (k + 1) labels) ≡ whole
put_next from rows row old labels k d whole h lt within is e =
    ap (λ r. put_all from r (drop (k + 1) labels)) (put_is from (get_or labels k d) rows row old within is e)
    ∙ sym (ap (put_all from (rows_of rows)) (drop_next labels k d lt)) ∙ h

pub within_next : {A : Type 0} (P : A → Type 0) (xs : List A) (k : ℕ) (d : A) → (AllByRecursion P (drop k xs) → AllByRecursion P xs) → k < length xs → P (get_or xs k d) → AllByRecursion P (drop (k + 1) xs) → AllByRecursion P xs
within_next P xs k d h lt one rest = h (subst (AllByRecursion P) (sym (drop_next xs k d lt)) (one, rest))

within_both : (n : ℕ) (xs ys : List ValueId) → Within n xs → Within n ys → Within n (xs ++ ys)
within_both n [] ys all others = others
within_both n (x ∷ xs) ys all others = (all.0, within_both n xs ys all.1 others)

pub insts_next : (from : ValueId) (rows new : List (List ValueId)) (insts : List Inst) (k : ℕ) (i : Inst) (ls : List ValueId) (whole : List (List ValueId)) → put_all from rows (labels_by (drop k insts)) ≡ whole → k < length insts → i ≡ get_or insts k i → ls ≡ goes_to i → new ≡ put_all from rows ls → put_all from new (labels_by (drop (k + 1) insts)) ≡ whole
insts_next from rows new insts k i ls whole h lt is goes e =
    ap (λ r. put_all from r (labels_by (drop (k + 1) insts))) (e ∙ ap (put_all from rows) (goes ∙ ap goes_to is))
    ∙ sym (put_all_both from (goes_to (get_or insts k i)) (labels_by (drop (k + 1) insts)) rows)
    ∙ sym (ap (λ xs. put_all from rows (labels_by xs)) (drop_next insts k i lt)) ∙ h

pub insts_within : (m n : ℕ) (insts : List Inst) (k : ℕ) (i : Inst) (ls : List ValueId) → (Within n (labels_by (drop k insts)) → Within n (labels_by insts)) → k < length insts → i ≡ get_or insts k i → ls ≡ goes_to i → m ≡ n → Within m ls → Within n (labels_by (drop (k + 1) insts)) → Within n (labels_by insts)
insts_within m n insts k i ls h lt is goes size one rest =
    h (subst (λ xs. Within n (labels_by xs)) (sym (drop_next insts k i lt)) (within_both n (goes_to (get_or insts k i)) (labels_by (drop (k + 1) insts)) (subst (Within n) (goes ∙ ap goes_to is) (subst (λ j. Within j ls) size one)) rest))

-- the block at a place of a slice
block_at : (slice bs : List Block) (k : ℕ) (b : Block) → slice ≡ bs → b ≡ get_or slice k b → b ≡ get_or bs k b
block_at slice bs k b same is = is ∙ ap (λ xs. get_or xs k b) same

pub blocks_next : (rows new : List (List ValueId)) (slice bs : List Block) (k : ℕ) (b : Block) (insts : List Inst) (whole : List (List ValueId)) → put_blocks rows (drop k bs) ≡ whole → slice ≡ bs → k < length slice → b ≡ get_or slice k b → insts ≡ b.insts → new ≡ put_all b.name rows (labels_by insts) → put_blocks new (drop (k + 1) bs) ≡ whole
blocks_next rows new slice bs k b insts whole h same lt is own e =
    let at = block_at slice bs k b same is in
    let within : k < length bs = subst (λ xs. k < length xs) same lt in
    ap (λ r. put_blocks r (drop (k + 1) bs)) (e ∙ ap (λ xs. put_all b.name rows (labels_by xs)) own ∙ ap (λ (x : Block). put_all x.name rows (labels_by x.insts)) at)
    ∙ sym (ap (put_blocks rows) (drop_next bs k b within)) ∙ h

pub blocks_within : (m n : ℕ) (slice bs : List Block) (k : ℕ) (b : Block) (insts : List Inst) → (AreWithin n (drop k bs) → AreWithin n bs) → slice ≡ bs → k < length slice → b ≡ get_or slice k b → insts ≡ b.insts → m ≡ n → Within m (labels_by insts) → AreWithin n (drop (k + 1) bs) → AreWithin n bs
blocks_within m n slice bs k b insts h same lt is own size one rest =
    let at = block_at slice bs k b same is in
    let within : k < length bs = subst (λ xs. k < length xs) same lt in
    let first : Within n (labels_by b.insts) = subst (λ xs. Within n (labels_by xs)) own (subst (λ j. Within j (labels_by insts)) size one) in
    within_next (λ (x : Block). Within n (labels_by x.insts)) bs k b h within (subst (λ (x : Block). Within n (labels_by x.insts)) at first) rest

-- after the last block
pub blocks_end : (f : Function) (rows : List (Vec ValueId)) (slice : List Block) (k : ℕ) → IsTable f.names → slice ≡ f.body → length slice ≤ k → put_blocks (rows_of rows) (drop k f.body) ≡ put_blocks (replicate (length f.names) []) f.body → length rows ≡ length f.names → (AreWithin (length f.names) (drop k f.body) → AreWithin (length f.names) f.body) → AreIncoming f rows
blocks_end f rows slice k table same done rest size within =
    let gone : drop k f.body ≡ [] = drop_all k f.body (subst (λ xs. length xs ≤ k) same done) in
    λ t i here. incoming f (rows_of rows) table (within (subst (AreWithin (length f.names)) (sym gone) tt)) (ap (put_blocks (rows_of rows)) (sym gone) ∙ rest) t i (subst (λ n. i < n) size here)
  where
    drop_all : {A : Type 0} (k : ℕ) (xs : List A) → length xs ≤ k → drop k xs ≡ []
    drop_all zero [] le = refl
    drop_all (suc k) [] le = refl
    drop_all zero (x ∷ xs) le = absurd (omega (arith, le))
    drop_all (suc k) (x ∷ xs) le = drop_all k xs (omega (arith, le))
