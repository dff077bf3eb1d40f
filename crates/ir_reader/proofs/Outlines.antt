-- Functions are read at the places of their outlines.
use Rattle.std.proofs.Common.{◌≡◌, ℕ, zero, suc, ◌<◌, Bool, true, false, List, [], ◌∷◌, ◌++◌, length, map, take, drop, get_or, Option, Some, None, Err, refl, sym, ap, ◌∙◌, subst, arith}
use Rattle.std.specs.Prelude.{is_some}
use Rattle.std.specs.List.{AllByRecursion}
use Rattle.std.proofs.lemmas.List.{map_push}
use Rattle.text_forms.specs.declared.cursor.SyntaxFault.{SyntaxFault}
use Rattle.text_forms.specs.declared.cursor.SyntaxFault.TheVariants.{NoReading, Memory}
use Rattle.text_forms.specs.declared.TokenKind.TheVariants.{LeftParen, RightParen}
use Rattle.text_forms.specs.Form.{Lexeme, Form, pair, mapped}
use Rattle.text_forms.specs.Kept.{attachments}
use Rattle.text_forms.specs.Gives.{Gives, left}
use Rattle.text_forms.specs.Nested.{concat, joined}
use Rattle.text_forms.specs.Reading.{◌>>=◌, read}
use Rattle.text_forms.specs.Walk.{walk, completed}
use Rattle.text_forms.proofs.Parts.{there, bind_some, some_is}
use Rattle.ir_types.specs.declared.name.Name.{Name}
use Rattle.ir_types.specs.declared.module.Function.{Function}
use Rattle.ir_types.specs.Names.{IsTable}
use Rattle.ir_types.specs.declared.inst.Ty.{Ty}
use Rattle.ir_types.specs.Tree.{KeptTexts, WrittenParam, WrittenFunction, BlockTree, FunctionTree}
use Rattle.ir_types.specs.Offsets.{Definitions}
use Rattle.text_forms.specs.Combined.{between}
use Rattle.ir_types.specs.TypeForms.{return_type, global_name}
use Rattle.ir_types.specs.Words.{kept}
use Rattle.ir_types.specs.FunctionForms.{dotted_parameters, declared_tree, declared_function, defined_function}
use Rattle.ir_types.specs.Skimmed.{Outline, Skimmed, outlined, skimmed_definition, skimmed_declaration, dotted_read, params_read, body_read, with_dotted, with_inner, filled}
use Rattle.ir_types.specs.Numbered.{numbered_param, numbered_block, with_parts, numbered_function}
use Rattle.ir_types.specs.Denotes.{function_in}
use Rattle.ir_types.specs.Used.{insts_of}
use Rattle.ir_types.proofs.Skimming.{function_later, declaration_later}
use Rattle.ir_reader_types.specs.Tables.{TableLists, tables_in, definitions_of, Grows}
use Rattle.ir_reader_types.specs.Uses.{InstsUse}
use Rattle.ir_reader_types.proofs.Growth.{grows_refl, grows_trans}
use Rattle.ir_reader_types.proofs.Uses.{uses_none}
use Rattle.ir_reader_items.specs.declared.source.FunctionSource.{FunctionSource}
use Rattle.ir_reader_items.specs.Sources.{outline_there, outline_or_none, outline_read}
use Rattle.ir_reader.specs.Gathered.{skimmed_of}
use Rattle.ir_reader.specs.Reading.{function_read, functions_read}
use Rattle.ir_reader.proofs.Making.{all_push}
use Rattle.ir_reader.proofs.Usage.{function_uses}

-- ---- one function

-- what is read, with the tokens behind it
abbrev pub leaving : {A : Type 0} → List Lexeme → A → Option (A × List Lexeme)
leaving us a = Some (a, us)

pub left_some : {A : Type 0} (o : Option A) (us vs : List Lexeme) (a : A) → (o >>= leaving us) ≡ Some (a, vs) → o ≡ Some a
left_some {A} None us vs a e = absurd cc
left_some {A} (Some b) us vs a e =
    let one : A × List Lexeme = (b, us) in
    let other : A × List Lexeme = (a, vs) in
    ap (λ (x : A × List Lexeme). Some x.0) (some_is one other e)

left_none : {A : Type 0} (o : Option A) (us : List Lexeme) → (o >>= leaving us) ≡ None → o ≡ None
left_none None us e = refl
left_none (Some b) us e = absurd cc

-- what a function is read as where its outline stands, and the tokens behind it
record IsReadAs (defs : Definitions) (s : Skimmed) (found : Option (FunctionTree × List Lexeme)) : Type 0 where
  rest : List Lexeme
  is : found ≡ (function_read defs s >>= leaving rest)

filled_later : (defs : Definitions) (r : Option (Outline × List Lexeme)) → is_some r ≡ true → IsReadAs defs (outlined (outline_or_none r)) (completed numbered_function (completed (filled defs) r))
filled_later defs None e = absurd cc
filled_later defs (Some x) e = record { rest = x.1; is = by (filled defs x.0) }
  where
    by : (o : Option WrittenFunction) → completed numbered_function (o >>= λ w. Some (w, x.1)) ≡ ((o >>= numbered_function) >>= leaving x.1)
    by None = refl
    by (Some w) = refl

defined_there : (defs : Definitions) (defined : Bool) (ts : List Lexeme) → defined ≡ true → is_some (outline_there defined ts) ≡ true → IsReadAs defs (outlined (outline_read defined ts)) (completed numbered_function (read (defined_function defs) ts))
unfolding outline_read
defined_there defs true ts e s = let f = filled_later defs (read skimmed_definition ts) s in record { rest = f.rest; is = ap (completed numbered_function) (function_later defs ts) ∙ f.is }
defined_there defs false ts e s = absurd cc

declared_there : (defs : Definitions) (defined : Bool) (ts : List Lexeme) → defined ≡ false → is_some (outline_there defined ts) ≡ true → IsReadAs defs (outlined (outline_read defined ts)) (completed numbered_function (read declared_function ts))
unfolding outline_read
declared_there defs true ts e s = absurd cc
declared_there defs false ts e s = let f = filled_later defs (read skimmed_declaration ts) s in record { rest = f.rest; is = ap (completed numbered_function) (declaration_later defs ts) ∙ f.is }

-- a refusal
refused : {X Y Z W : Type 0} (view : X → Y) (other : Z → W) (fault : SyntaxFault) (r : Option Y) (q : Option W) → (r ≡ None → q ≡ None) → Gives view (Err fault) r → Gives other (Err fault) q
refused view other (NoReading place) r q h g = h g
refused view other Memory r q h g = tt

module _ (defs : Definitions) (s : FunctionSource) where
  pub defined_read : (f : FunctionTree) (us : List Lexeme) → s.defined ≡ true → completed numbered_function (read (defined_function defs) (left s.tokens)) ≡ Some (f, us) → function_read defs (skimmed_of s) ≡ Some f
  defined_read f us e h = let r = defined_there defs s.defined (left s.tokens) e s.stands in left_some (function_read defs (skimmed_of s)) r.rest us f (sym r.is ∙ h)

  pub declared_read : (f : FunctionTree) (us : List Lexeme) → s.defined ≡ false → completed numbered_function (read declared_function (left s.tokens)) ≡ Some (f, us) → function_read defs (skimmed_of s) ≡ Some f
  declared_read f us e h = let r = declared_there defs s.defined (left s.tokens) e s.stands in left_some (function_read defs (skimmed_of s)) r.rest us f (sym r.is ∙ h)

  pub defined_refused : {X Z : Type 0} (view : X → FunctionTree × List Lexeme) (other : Z → FunctionTree) (fault : SyntaxFault) → s.defined ≡ true → Gives view (Err fault) (completed numbered_function (read (defined_function defs) (left s.tokens)))
      → Gives other (Err fault) (function_read defs (skimmed_of s))
  defined_refused view other fault e g =
      let r = defined_there defs s.defined (left s.tokens) e s.stands in
      refused view other fault _ (function_read defs (skimmed_of s)) (λ h. left_none (function_read defs (skimmed_of s)) r.rest (sym r.is ∙ h)) g

  pub declared_refused : {X Z : Type 0} (view : X → FunctionTree × List Lexeme) (other : Z → FunctionTree) (fault : SyntaxFault) → s.defined ≡ false → Gives view (Err fault) (completed numbered_function (read declared_function (left s.tokens)))
      → Gives other (Err fault) (function_read defs (skimmed_of s))
  declared_refused view other fault e g =
      let r = declared_there defs s.defined (left s.tokens) e s.stands in
      refused view other fault _ (function_read defs (skimmed_of s)) (λ h. left_none (function_read defs (skimmed_of s)) r.rest (sym r.is ∙ h)) g

-- ---- declared functions

-- a function that is written without blocks has none
no_blocks : (w : WrittenFunction) (f : FunctionTree) → w.body ≡ [] → numbered_function w ≡ Some f → f.body ≡ []
no_blocks w f b e =
    let x = bind_some (walk numbered_param 0 w.params) (λ x. walk numbered_block x.1 w.body >>= λ y. Some (with_parts w x.0 y.0)) f e in
    let y = bind_some (walk numbered_block x.0.1 w.body) (λ y. Some (with_parts w x.0.0 y.0)) f x.2 in
    let none : there ([], x.0.1) ≡ there y.0 = sym (ap (walk numbered_block x.0.1) b) ∙ y.1 in
    ap (λ (g : FunctionTree). g.body) (sym (some_is (with_parts w x.0.0 y.0.0) f y.2)) ∙ ap (λ (z : List BlockTree × ℕ). z.0) (sym (some_is ([], x.0.1) y.0 none))

made_without : (parts : Form (KeptTexts × (Ty × (Name × ((List WrittenParam × Bool) × KeptTexts))))) (ts us : List Lexeme) (w : WrittenFunction) → read (mapped declared_tree parts) ts ≡ Some (w, us) → w.body ≡ []
made_without parts ts us w e =
    let x = bind_some (read parts ts) (λ x. Some (declared_tree x.0, x.1)) (w, us) e in
    let one : WrittenFunction × List Lexeme = (declared_tree x.0.0, x.0.1) in
    let other : WrittenFunction × List Lexeme = (w, us) in
    ap (λ (z : WrittenFunction × List Lexeme). z.0.body) (sym (some_is one other x.2))

written_without : (ts us : List Lexeme) (w : WrittenFunction) → read declared_function ts ≡ Some (w, us) → w.body ≡ []
unfolding declared_function
written_without ts us w e = made_without (pair (joined attachments kept) (pair return_type (pair global_name (pair (between LeftParen RightParen dotted_parameters) kept)))) ts us w e

declared_without : (ts us : List Lexeme) (f : FunctionTree) → completed numbered_function (read declared_function ts) ≡ Some (f, us) → f.body ≡ []
declared_without ts us f e =
    let x = bind_some (read declared_function ts) (λ x. numbered_function x.0 >>= λ b. Some (b, x.1)) (f, us) e in
    let y = bind_some (numbered_function x.0.0) (λ b. Some (b, x.0.1)) (f, us) x.2 in
    let one : FunctionTree × List Lexeme = (y.0, x.0.1) in
    let other : FunctionTree × List Lexeme = (f, us) in
    no_blocks x.0.0 f (written_without ts x.0.1 x.0.0 x.1) (y.1 ∙ ap (λ (z : FunctionTree × List Lexeme). Some z.0) (some_is one other y.2))

-- what is only declared uses nothing
pub declared_uses : (t : TableLists) (ts us : List Lexeme) (f : FunctionTree) → completed numbered_function (read declared_function ts) ≡ Some (f, us) → InstsUse t (insts_of f) t
declared_uses t ts us f e = subst (λ (l : List BlockTree). InstsUse t (concat (map (λ (b : BlockTree). b.insts) l)) t) (sym (declared_without ts us f e)) (uses_none t)

-- ---- functions in their order

module _ (defs : Definitions) where
  behind_read : (f : FunctionTree) (p q : Option (List FunctionTree)) → ((p >>= λ fs. q >>= λ gs. Some (fs ++ gs)) >>= λ fs. Some (f ∷ fs)) ≡ ((p >>= λ fs. Some (f ∷ fs)) >>= λ fs. q >>= λ gs. Some (fs ++ gs))
  behind_read f None q = refl
  behind_read f (Some fs) None = refl
  behind_read f (Some fs) (Some gs) = refl

  none_before : (q : Option (List FunctionTree)) → q ≡ (q >>= λ gs. Some ([] ++ gs))
  none_before None = refl
  none_before (Some gs) = refl

  read_append : (xs ys : List Skimmed) → functions_read defs (xs ++ ys) ≡ (functions_read defs xs >>= λ fs. functions_read defs ys >>= λ gs. Some (fs ++ gs))
  read_append [] ys = none_before (functions_read defs ys)
  read_append (x ∷ xs) ys = by (function_read defs x) (read_append xs ys)
    where
      by : (o : Option FunctionTree) → functions_read defs (xs ++ ys) ≡ (functions_read defs xs >>= λ fs. functions_read defs ys >>= λ gs. Some (fs ++ gs)) → (o >>= λ f. functions_read defs (xs ++ ys) >>= λ fs. Some (f ∷ fs)) ≡ ((o >>= λ f. functions_read defs xs >>= λ fs. Some (f ∷ fs)) >>= λ fs. functions_read defs ys >>= λ gs. Some (fs ++ gs))
      by None e = refl
      by (Some f) e = ap (λ (r : Option (List FunctionTree)). r >>= λ fs. Some (f ∷ fs)) e ∙ behind_read f (functions_read defs xs) (functions_read defs ys)

  read_push : (xs : List Skimmed) (x : Skimmed) (fs : List FunctionTree) (f : FunctionTree) → functions_read defs xs ≡ Some fs → function_read defs x ≡ Some f → functions_read defs (xs ++ x ∷ []) ≡ Some (fs ++ f ∷ [])
  read_push xs x fs f e d = read_append xs (x ∷ []) ∙ rw (e, d) refl

  read_fails : (xs : List Skimmed) (x : Skimmed) (more : List Skimmed) (fs : List FunctionTree) → functions_read defs xs ≡ Some fs → function_read defs x ≡ None → functions_read defs (xs ++ x ∷ more) ≡ None
  read_fails xs x more fs e d = read_append xs (x ∷ more) ∙ rw (e, d) refl

-- ---- what the loop over functions keeps

-- of tables some functions were read, and the tables have grown
pub record ReadSoFar (old : TableLists) (done : List FunctionSource) (now : TableLists) (fs : List Function) : Type 0 where
  pub grows : Grows old now
  pub reads : functions_read (definitions_of old) (map skimmed_of done) ≡ Some (map (function_in (tables_in now)) fs)
  pub stays : (later : TableLists) → Grows now later → map (function_in (tables_in later)) fs ≡ map (function_in (tables_in now)) fs
  pub tables : AllByRecursion (λ (f : Function). IsTable f.names) fs
  pub uses : InstsUse old (concat (map insts_of (map (function_in (tables_in now)) fs))) now

pub none_read : (t : TableLists) → ReadSoFar t [] t []
none_read t = record { grows = grows_refl t; reads = refl; stays = λ later g. refl; tables = tt; uses = uses_none t }

pub one_read : (old now new : TableLists) (done : List FunctionSource) (fs : List Function) (s : FunctionSource) (f : Function) → ReadSoFar old done now fs → Grows now new → function_read (definitions_of now) (skimmed_of s) ≡ Some (function_in (tables_in new) f)
    → ((later : TableLists) → Grows new later → function_in (tables_in later) f ≡ function_in (tables_in new) f) → IsTable f.names → InstsUse now (insts_of (function_in (tables_in new) f)) new → ReadSoFar old (done ++ s ∷ []) new (fs ++ f ∷ [])
one_read old now new done fs s f h grows reads stays table uses = record {
  grows = grows_trans old now new h.grows grows;
  reads =
      let all = function_in (tables_in new) in
      let first : functions_read (definitions_of old) (map skimmed_of done) ≡ Some (map all fs) = h.reads ∙ ap (λ (l : List FunctionTree). Some l) (sym (h.stays new grows)) in
      let next : function_read (definitions_of old) (skimmed_of s) ≡ Some (all f) = ap (λ (d : Definitions). function_read d (skimmed_of s)) (sym h.grows.definitions) ∙ reads in
      ap (functions_read (definitions_of old)) (map_push skimmed_of done s) ∙ read_push (definitions_of old) (map skimmed_of done) (skimmed_of s) (map all fs) (all f) first next ∙ ap (λ (l : List FunctionTree). Some l) (sym (map_push all fs f));
  stays = λ later g.
      let seen = function_in (tables_in later) in
      let all = function_in (tables_in new) in
      map_push seen fs f ∙ ap (λ (l : List FunctionTree). l ++ seen f ∷ []) (h.stays later (grows_trans now new later grows g) ∙ sym (h.stays new grows)) ∙ ap (λ (t : FunctionTree). map all fs ++ t ∷ []) (stays later g) ∙ sym (map_push all fs f);
  tables = all_push (λ (f : Function). IsTable f.names) fs f h.tables table;
  uses =
      let all = function_in (tables_in new) in
      let before : InstsUse old (concat (map insts_of (map all fs))) now = subst (λ (l : List FunctionTree). InstsUse old (concat (map insts_of l)) now) (sym (h.stays new grows)) h.uses in
      subst (λ (l : List FunctionTree). InstsUse old (concat (map insts_of l)) new) (sym (map_push all fs f)) (function_uses old now new (map all fs) (all f) before uses);
}

parted : (sources : List FunctionSource) (i : ℕ) (d : FunctionSource) → i < length sources → map skimmed_of sources ≡ map skimmed_of (take i sources) ++ skimmed_of (get_or sources i d) ∷ map skimmed_of (drop (suc i) sources)
parted [] i d lt = absurd (omega arith)
parted (s ∷ sources) zero d lt = refl
parted (s ∷ sources) (suc i) d lt = ap (λ (l : List Skimmed). skimmed_of s ∷ l) (parted sources i d (omega arith))

-- a refusal of one is one of all
pub one_refused : {X Z : Type 0} (view : X → FunctionTree) (other : Z → List FunctionTree) (old now : TableLists) (sources : List FunctionSource) (i : ℕ) (fs : List Function) (d : FunctionSource) (fault : SyntaxFault) → ReadSoFar old (take i sources) now fs → i < length sources
    → Gives view (Err fault) (function_read (definitions_of now) (skimmed_of (get_or sources i d))) → Gives other (Err fault) (functions_read (definitions_of old) (map skimmed_of sources))
one_refused view other old now sources i fs d fault h lt g =
    let s = skimmed_of (get_or sources i d) in
    let defs = definitions_of old in
    refused view other fault (function_read (definitions_of now) s) (functions_read defs (map skimmed_of sources))
    (λ e. ap (functions_read defs) (parted sources i d lt) ∙ read_fails defs (map skimmed_of (take i sources)) s (map skimmed_of (drop (suc i) sources)) _ h.reads (ap (λ (l : Definitions). function_read l s) (sym h.grows.definitions) ∙ e)) g

-- ---- names

named_numbered : (w : WrittenFunction) (f : FunctionTree) → numbered_function w ≡ Some f → f.name ≡ w.name
named_numbered w f e =
    let x = bind_some (walk numbered_param 0 w.params) (λ x. walk numbered_block x.1 w.body >>= λ y. Some (with_parts w x.0 y.0)) f e in
    let y = bind_some (walk numbered_block x.0.1 w.body) (λ y. Some (with_parts w x.0.0 y.0)) f x.2 in
    sym (ap (λ (g : FunctionTree). g.name) (some_is (with_parts w x.0.0 y.0.0) f y.2))

named_filled : (defs : Definitions) (o : Outline) (b : Option (List Lexeme)) (w : WrittenFunction) → o.body ≡ b → filled defs o ≡ Some w → w.name ≡ o.name
named_filled defs o None w e h =
    let ps = bind_some (dotted_read o.params) (λ ps. Some (with_dotted o ps)) w (rw e at h) in
    sym (ap (λ (v : WrittenFunction). v.name) (some_is (with_dotted o ps.0) w ps.2))
named_filled defs o (Some tokens) w e h =
    let ps = bind_some (params_read o.params) (λ ps. body_read defs tokens >>= λ blocks. Some (with_inner o ps blocks)) w (rw e at h) in
    let blocks = bind_some (body_read defs tokens) (λ blocks. Some (with_inner o ps.0 blocks)) w ps.2 in
    sym (ap (λ (v : WrittenFunction). v.name) (some_is (with_inner o ps.0 blocks.0) w blocks.2))

named_read : (defs : Definitions) (s : FunctionSource) (f : FunctionTree) → function_read defs (skimmed_of s) ≡ Some f → f.name ≡ s.name
named_read defs s f e =
    let o = outline_read s.defined (left s.tokens) in
    let w = bind_some (filled defs o) numbered_function f e in
    named_numbered w.0 f w.2 ∙ named_filled defs o o.body w.0 refl w.1 ∙ sym s.named

-- functions have the names that are found for them first
pub names_read : (defs : Definitions) (sources : List FunctionSource) (fs : List FunctionTree) → functions_read defs (map skimmed_of sources) ≡ Some fs → map (λ (f : FunctionTree). f.name) fs ≡ map (λ (s : FunctionSource). s.name) sources
names_read defs [] fs e = ap (map (λ (f : FunctionTree). f.name)) (some_is fs [] (sym e))
names_read defs (s ∷ sources) fs e =
    let f = bind_some (function_read defs (skimmed_of s)) (λ f. functions_read defs (map skimmed_of sources) >>= λ fs. Some (f ∷ fs)) fs e in
    let more = bind_some (functions_read defs (map skimmed_of sources)) (λ fs. Some (f.0 ∷ fs)) fs f.2 in
    let others = names_read defs sources more.0 more.1 in
    ap (map (λ (f : FunctionTree). f.name)) (some_is fs (f.0 ∷ more.0) (sym more.2)) ∙ ap (λ (n : Name). n ∷ map (λ (f : FunctionTree). f.name) more.0) (named_read defs s f.0 f.1) ∙ ap (λ (l : List Name). s.name ∷ l) others
