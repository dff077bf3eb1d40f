-- The text of an instruction and of a type's definition, and of items that are printed one at a time.
use Rattle.std.proofs.Common.{◌≡◌, ◌+◌, ◌<◌, ◌≤◌, ℕ, zero, suc, false, cond, eqb, List, [], ◌∷◌, ◌++◌, length, get_or, drop, refl, sym, ap, ◌∙◌, subst, arith, append_assoc, add-one, drop-cons}
use Rattle.std.specs.Prelude.{codes, map, flat_map, filter_map, Option, Some, None, Result, Ok, Err, OnOk}
use Rattle.std.specs.List.{AllByRecursion, cons_option}
use Rattle.std.specs.Result.{is_ok}
use Rattle.std.proofs.lemmas.List.{append-nil, drop_all}
use Rattle.text_lex.specs.Layout.{Piece, text_of}
use Rattle.text_lex.specs.KeptText.{kept_behind}
use Rattle.text_lex.proofs.Layouts.{text_of-append}
use Rattle.ir_types.specs.declared.name.Name.{Name}
use Rattle.ir_types.specs.declared.call.Callee.{Callee}
use Rattle.ir_types.specs.declared.inst.Ty.{Ty}
use Rattle.ir_types.specs.declared.module.Block.{Block}
use Rattle.ir_types.specs.declared.module.Function.{Function}
use Rattle.ir_types.specs.Denotes.{Tables, param_in, block_in, function_in}
use Rattle.ir_types.specs.Tree.{OperandTree, InstTree, FunctionTree}
use Rattle.ir_printer_types.specs.Pieces.{word, local_token, global_token, line_feed, separated, with_commas, type_pieces}
use Rattle.ir_printer.specs.Print.{for_one, signature_pieces, arguments_of, call_pieces, opening_pieces, operands_pieces, ending_pieces, result_pieces, inst_pieces, block_pieces, kept_then_blank, blank_then_kept, params_pieces, function_word, head_pieces, body_pieces, function_pieces, parting, functions_behind, definition_pieces}

-- a word is appended where there is room
pub word_appended : {T E : Type 0} (out w : List ℕ) {out1 : List ℕ} (r : Result T E) → out1 ≡ cond (is_ok r) (out ++ w) out → OnOk r (out1 ≡ out ++ text_of (word w ∷ []))
word_appended out w (Ok u) e = rw (append-nil w) e
word_appended out w (Err x) e = tt

-- and more behind it
pub more_appended : {T E : Type 0} (out w more out2 : List ℕ) {out1 : List ℕ} (r : Result T E) → out1 ≡ out ++ w → OnOk r (out2 ≡ out1 ++ more) → OnOk r (out2 ≡ out ++ (w ++ more))
more_appended out w more out2 (Ok u) e f = f ∙ rw e (append_assoc out w more)
more_appended out w more out2 (Err x) e f = tt

-- the text of an instruction
pub inst_text : (i : InstTree) → text_of (inst_pieces i)
    ≡ text_of (result_pieces i.result) ++ (text_of (opening_pieces i.kind) ++ (text_of (operands_pieces i.kind i.ty i.args i.labels) ++ (text_of (ending_pieces i.kind i.ty i.labels) ++ (text_of (kept_behind [] i.kept) ++ 10 ∷ []))))
unfolding inst_pieces
inst_text i = simp (text_of-append, append_assoc)

-- and of what is called with its arguments
pub call_text : (c : Callee) (t : Ty) (args : List OperandTree) → text_of (call_pieces c t args)
    ≡ 32 ∷ (text_of (kept_then_blank c.before) ++ (text_of (type_pieces t) ++ (text_of (signature_pieces c.signature) ++ (32 ∷ ((global_token c.name).text ++ (40 ∷ (text_of (with_commas (arguments_of c.actuals args)) ++ 41 ∷ [])))))))
unfolding call_pieces
call_text c t args = simp text_of-append

-- and of a type's definition
pub definition_text : (n : Name) (ps : List Piece) → text_of (definition_pieces n ps) ≡ ((local_token n).text ++ codes " = type ") ++ (text_of ps ++ 10 ∷ [])
definition_text n ps = simp (text_of-append, append_assoc)

-- as many blocks begin with the same word
same_word : {A B : Type 0} (f : A → B) (xs : List A) → function_word (map f xs) ≡ function_word xs
same_word f [] = refl
same_word f (x ∷ xs) = refl

-- and of what stands before a function's blocks
pub head_text : (t : Tables) (f : Function) → text_of (head_pieces (function_in t f))
    ≡ function_word f.body ++ (32 ∷ (text_of (kept_then_blank f.before) ++ (text_of (type_pieces f.ret) ++ (32 ∷ ((global_token f.name).text ++ (40 ∷ (text_of (params_pieces (map (param_in f.names) f.params) f.varargs) ++ (41 ∷ text_of (blank_then_kept f.after)))))))))
unfolding head_pieces
head_text t f = rw (← same_word (block_in t f.names) f.body) (simp (text_of-append, append_assoc))

-- and of its blocks in braces
pub body_text : (t : Tables) (ns : List Name) (bs : List Block) → eqb (length bs) 0 ≡ false → text_of (body_pieces (map (block_in t ns) bs)) ≡ codes " {\n" ++ (text_of (separated (line_feed ∷ []) (map block_pieces (map (block_in t ns) bs))) ++ codes "}\n")
body_text t ns [] e = absurd cc
body_text t ns (b ∷ bs) e = simp (text_of-append, append_assoc)

-- a head, and the blocks behind it
pub function_appended : {T E : Type 0} (f : FunctionTree) (out out2 : List ℕ) {out1 : List ℕ} (r : Result T E) → out1 ≡ out ++ text_of (head_pieces f) → OnOk r (out2 ≡ out1 ++ text_of (body_pieces f.body)) → OnOk r (out2 ≡ out ++ text_of (function_pieces f))
unfolding function_pieces
function_appended f out out2 r e g = rw (text_of-append (head_pieces f) (body_pieces f.body)) (more_appended out (text_of (head_pieces f)) (text_of (body_pieces f.body)) out2 r e g)

-- behind what parts them from a text stand the functions
pub functions_text : {A : Type 0} (f : A → List Piece) (text out1 out2 : List ℕ) (xs : List A) → 0 < length xs → out1 ≡ text ++ text_of (parting text) → out2 ≡ out1 ++ text_of (separated (line_feed ∷ []) (map f xs))
    → out2 ≡ text ++ text_of (functions_behind text (map f xs))
functions_text f text out1 out2 [] lt e1 e2 = absurd (omega arith)
functions_text f text out1 out2 (x ∷ xs) lt e1 e2 = rw (e2, e1, text_of-append (parting text)) (append_assoc text (text_of (parting text)) _)

-- ---- items one at a time

-- what holds of each holds of the one at a place
pub at_place : {A : Type 0} (P : A → Type 0) (xs : List A) (i : ℕ) (x : A) → i < length xs → x ≡ get_or xs i x → AllByRecursion P xs → P x
at_place P [] i x lt e h = absurd (omega arith)
at_place P (y ∷ xs) zero x lt e h = subst P (sym e) h.0
at_place P (y ∷ xs) (suc i) x lt e h = at_place P xs i x (omega arith) e h.1

-- the next one is printed
pub one_printed : {A : Type 0} (f : A → List Piece) (xs : List A) (i : ℕ) (x : A) (out out1 whole : List ℕ) → i < length xs → x ≡ get_or xs i x → out1 ≡ out ++ text_of (f x) → out ++ text_of (flat_map f (drop i xs)) ≡ whole → out1 ++ text_of (flat_map f (drop (i + 1) xs)) ≡ whole
one_printed f xs i x out out1 whole lt e e1 so_far =
    let from : drop i xs ≡ x ∷ drop (i + 1) xs = drop-cons xs i x lt ∙ rw (add-one i) (ap (λ (y : _). y ∷ drop (suc i) xs) (sym e)) in
    let step : text_of (flat_map f (drop i xs)) ≡ text_of (f x) ++ text_of (flat_map f (drop (i + 1) xs)) =
    ap (λ (ys : List _). text_of (flat_map f ys)) from ∙ text_of-append (f x) _ in
    rw e1 (append_assoc out (text_of (f x)) _ ∙ sym (ap (λ (t : List ℕ). out ++ t) step) ∙ so_far)

-- none is left
pub all_printed : {A : Type 0} (f : A → List Piece) (xs : List A) (i : ℕ) (out whole : List ℕ) → length xs ≤ i → out ++ text_of (flat_map f (drop i xs)) ≡ whole → out ≡ whole
all_printed f xs i out whole le so_far = sym (append-nil out) ∙ sym (ap (λ (ys : List _). out ++ text_of (flat_map f ys)) (drop_all i xs le)) ∙ so_far

-- ---- of what there may be

-- what is printed of one that there may be stands before that of the others
pub for_cons : {A C : Type 0} (r : A → List C) (o : Option A) (xs : List A) → flat_map r (cons_option o xs) ≡ for_one r o ++ flat_map r xs
for_cons r None xs = refl
for_cons r (Some a) xs = refl

-- what is printed of those that are kept is that of each that there may be
pub for_each : {A B C : Type 0} (r : B → List C) (f : A → Option B) (xs : List A) → flat_map r (filter_map f xs) ≡ flat_map (λ x. for_one r (f x)) xs
for_each r f [] = refl
for_each r f (x ∷ xs) = for_cons r (f x) (filter_map f xs) ∙ ap (λ (is : List _). for_one r (f x) ++ is) (for_each r f xs)
