-- The tokens that a function is printed as spell the function.
use Rattle.std.proofs.Common.{◌≡◌, ℕ, Bool, false, List, [], ◌∷◌, ◌++◌, Some, refl, ap, ◌∙◌, subst, append_assoc, arith, inl, inr}
use Rattle.std.specs.Prelude.{map, codes}
use Rattle.std.specs.List.{AllByRecursion}
use Rattle.std.proofs.lemmas.List.{append-nil}
use Rattle.text_forms.specs.declared.TokenKind.TheVariants as kinds
use Rattle.text_forms.specs.Form.{Lexeme, Form}
use Rattle.text_forms.proofs.Begins.{test}
use Rattle.text_lex.specs.KeptText.{token_of}
use Rattle.text_lex.specs.Layout.{Piece, lexeme, tokens_of}
use Rattle.text_lex.proofs.Layouts.{tokens_of-append}
use Rattle.ir_types.specs.declared.opcode.ItemWord.TheVariants as items
use Rattle.ir_types.specs.TypeNodes.{TypeNode}
use Rattle.ir_types.specs.Tree.{BlockTree, ParamTree, FunctionTree, function_item}
use Rattle.ir_types.specs.Offsets.{Definitions}
use Rattle.text_forms.specs.Combined.{list}
use Rattle.ir_types.specs.Words.{item_words}
use Rattle.ir_types.specs.FunctionForms.{parameter, dotted_parameters, declared_function, defined_function}
use Rattle.ir_types.specs.ItemForms.{item}
use Rattle.ir_shape.specs.Shape.{IsKept, before_form, after_form, IsBlock, IsParam, IsFunction}
use Rattle.ir_printer_types.specs.Pieces as pieces_of
use Rattle.ir_printer_types.specs.Pieces.{token, global_token, local_token, type_pieces, with_commas}
use Rattle.ir_printer_types.proofs.Says.{Says, pair_says, left_says, mapped_says, by_word_says, between_says, some_says, list_says}
use Rattle.ir_printer_types.proofs.Spelled.{global_says, return_type_says}
use Rattle.ir_printer_types.proofs.Writes.{both, spaced, mapped_writes, there_writes, EachWrites, each_says}
use Rattle.ir_printer.specs.Print.{kept_then_blank, blank_then_kept, block_pieces, param_pieces, params_pieces, function_word, head_pieces, body_pieces, function_pieces}
use Rattle.ir_printer.proofs.Numbering.{written_param, written_block, written_function}
use Rattle.ir_printer.proofs.Words.{local_writes, type_writes}
use Rattle.ir_printer.proofs.Dotted.{dotted_write}
use Rattle.ir_printer.proofs.KeptWritten.{kept_says, then_blank_tokens, blank_then_tokens, spaced_kept}
use Rattle.ir_printer.proofs.Blocks.{block_writes}

-- ---- parameters

pub param_writes : EachWrites parameter written_param param_pieces IsParam
unfolding parameter param_pieces
param_writes = record { one = λ p h. mapped_writes (p.ty, (p.kept, Some p.name)) _ refl (both (type_writes p.ty h.ty) (both (spaced_kept h.kept_texts) (spaced (there_writes (local_writes p.name h.name))))) }

params_say : (params : List ParamTree) (further : Bool) → AllByRecursion IsParam params → Says dotted_parameters (map written_param params, further) (tokens_of (params_pieces params further))
unfolding dotted_parameters
params_say params further h = (dotted_write param_writes params further h).says

-- ---- functions

abbrev in_parens : List Lexeme → List Lexeme
in_parens ts = token kinds.LeftParen (codes "(") ∷ (ts ++ token kinds.RightParen (codes ")") ∷ [])

abbrev in_braces : List Lexeme → List Lexeme
in_braces ts = token kinds.LeftBrace (codes "{") ∷ (ts ++ token kinds.RightBrace (codes "}") ∷ [])

-- a function's parts and their tokens
parts_tokens : (w : List ℕ) (before ret params after body : List Piece) (n : Lexeme) → tokens_of ((pieces_of.word w ∷ pieces_of.blank ∷ (before ++ (ret ++ (pieces_of.blank ∷ lexeme n ∷ pieces_of.left_paren ∷ (params ++ (pieces_of.right_paren ∷ after)))))) ++ body)
    ≡ token kinds.Word w ∷ (tokens_of before ++ (tokens_of ret ++ (n ∷ (in_parens (tokens_of params) ++ (tokens_of after ++ tokens_of body)))))
parts_tokens w before ret params after body n = simp (tokens_of-append, append_assoc)

module _ (defs : Definitions) (f : FunctionTree) (h : IsFunction f) where
  abbrev blocks_tokens : List BlockTree → List Lexeme
  blocks_tokens bs = tokens_of (pieces_of.separated (pieces_of.line_feed ∷ []) (map block_pieces bs))

  abbrev up_to_params : List Lexeme → List Lexeme
  up_to_params ts = map token_of f.before ++ (tokens_of (type_pieces f.ret) ++ (global_token f.name ∷ (in_parens (tokens_of (params_pieces f.params f.varargs)) ++ ts)))

  function_tokens : tokens_of (function_pieces f) ≡ token kinds.Word (function_word f.body) ∷ up_to_params (map token_of f.after ++ tokens_of (body_pieces f.body))
  unfolding function_pieces head_pieces
  function_tokens =
      let ps = in_parens (tokens_of (params_pieces f.params f.varargs)) in
      let body = tokens_of (body_pieces f.body) in
      parts_tokens (function_word f.body) (kept_then_blank f.before) (type_pieces f.ret) (params_pieces f.params f.varargs) (blank_then_kept f.after) (body_pieces f.body) (global_token f.name)
      ∙ ap (λ (ts : List Lexeme). token kinds.Word (function_word f.body) ∷ (ts ++ (tokens_of (type_pieces f.ret) ++ (global_token f.name ∷ (ps ++ (tokens_of (blank_then_kept f.after) ++ body)))))) (then_blank_tokens f.before)
      ∙ ap (λ (ts : List Lexeme). token kinds.Word (function_word f.body) ∷ up_to_params (ts ++ body)) (blank_then_tokens f.after)

  body_tokens : (b : BlockTree) (bs : List BlockTree) → tokens_of (body_pieces (b ∷ bs)) ≡ in_braces (blocks_tokens (b ∷ bs))
  body_tokens b bs = ap (λ (ts : List Lexeme). token kinds.LeftBrace (codes "{") ∷ ts) (tokens_of-append (pieces_of.separated (pieces_of.line_feed ∷ []) (map block_pieces (b ∷ bs))) _)

  declared_says : f.body ≡ [] → Says declared_function (written_function f) (up_to_params (map token_of f.after))
  unfolding declared_function
  declared_says e =
      let before = subst (λ (bs : List BlockTree). IsKept (before_form bs) f.before) e h.before in
      let after = subst (λ (bs : List BlockTree). IsKept (after_form bs) f.after) e h.after in
      mapped_says (f.before, (f.ret, (f.name, ((map written_param f.params, f.varargs), f.after)))) _ (rw e refl)
      (pair_says (map token_of f.before) _ (kept_says before) (pair_says (tokens_of (type_pieces f.ret)) _ (return_type_says f.ret h.ret) (pair_says (global_token f.name ∷ []) _ (global_says f.name h.name)
      (pair_says (in_parens (tokens_of (params_pieces f.params f.varargs))) _ (between_says (tokens_of (params_pieces f.params f.varargs)) kinds.LeftParen kinds.RightParen _ _ (params_say f.params f.varargs h.params)) (kept_says after)))))

  -- only a declared function takes further arguments
  no_further : (b : BlockTree) (bs : List BlockTree) → f.body ≡ b ∷ bs → f.varargs ≡ false
  no_further b bs e = elim (test f.varargs) [ inr n ↦ n | inl y ↦ absurd (let none = h.fixed y in cc) ]

  defined_says : (b : BlockTree) (bs : List BlockTree) → f.body ≡ b ∷ bs → Says (defined_function defs) (written_function f) (up_to_params (map token_of f.after ++ in_braces (blocks_tokens (b ∷ bs))))
  unfolding defined_function
  defined_says b bs e =
      let before = subst (λ (cs : List BlockTree). IsKept (before_form cs) f.before) e h.before in
      let after = subst (λ (cs : List BlockTree). IsKept (after_form cs) f.after) e h.after in
      let blocks = subst (λ (cs : List BlockTree). AllByRecursion IsBlock cs) e h.blocks in
      let fixed = no_further b bs e in
      let no_dots : tokens_of (params_pieces f.params f.varargs) ≡ tokens_of (with_commas (map param_pieces f.params)) = rw fixed (tokens_of-append (with_commas (map param_pieces f.params)) [] ∙ append-nil _) in
      let inner : Says (list parameter) (map written_param f.params) (tokens_of (params_pieces f.params f.varargs)) = rw no_dots (list_says (each_says param_writes) f.params h.params) in
      mapped_says (f.before, (f.ret, (f.name, (map written_param f.params, (f.after, map written_block (b ∷ bs)))))) _ (rw (e, fixed) refl)
      (pair_says (map token_of f.before) _ (kept_says before) (pair_says (tokens_of (type_pieces f.ret)) _ (return_type_says f.ret h.ret) (pair_says (global_token f.name ∷ []) _ (global_says f.name h.name)
      (pair_says (in_parens (tokens_of (params_pieces f.params f.varargs))) _ (between_says (tokens_of (params_pieces f.params f.varargs)) kinds.LeftParen kinds.RightParen _ _ inner)
      (pair_says (map token_of f.after) _ (kept_says after) (between_says (blocks_tokens (b ∷ bs)) kinds.LeftBrace kinds.RightBrace _ _ (some_says (10 ∷ []) (each_says (block_writes defs)) (b ∷ bs) (omega arith) blocks)))))))

  declared_tokens : f.body ≡ [] → tokens_of (function_pieces f) ≡ token kinds.Word (codes "declare") ∷ up_to_params (map token_of f.after)
  declared_tokens e =
      function_tokens ∙ ap (λ (bs : List BlockTree). token kinds.Word (function_word bs) ∷ up_to_params (map token_of f.after ++ tokens_of (body_pieces bs))) e
      ∙ ap (λ (ts : List Lexeme). token kinds.Word (codes "declare") ∷ up_to_params ts) (append-nil (map token_of f.after))

  defined_tokens : (b : BlockTree) (bs : List BlockTree) → f.body ≡ b ∷ bs → tokens_of (function_pieces f) ≡ token kinds.Word (codes "define") ∷ up_to_params (map token_of f.after ++ in_braces (blocks_tokens (b ∷ bs)))
  defined_tokens b bs e =
      function_tokens ∙ ap (λ (cs : List BlockTree). token kinds.Word (function_word cs) ∷ up_to_params (map token_of f.after ++ tokens_of (body_pieces cs))) e
      ∙ ap (λ (ts : List Lexeme). token kinds.Word (codes "define") ∷ up_to_params (map token_of f.after ++ ts)) (body_tokens b bs)

  by_body : (m : Form (List TypeNode)) (bs : List BlockTree) → f.body ≡ bs → Says (item defs m) (function_item (written_function f)) (tokens_of (function_pieces f))
  unfolding item item_words
  by_body m [] e = rw (declared_tokens e) (left_says (by_word_says (codes "declare") items.Declare refl (mapped_says (written_function f) _ refl (declared_says e))))
  by_body m (b ∷ bs) e = rw (defined_tokens b bs e) (left_says (by_word_says (codes "define") items.Define refl (mapped_says (written_function f) _ refl (defined_says b bs e))))

  -- What is printed of a function spells it as an item, whatever the form of memory types is.
  pub function_says : (m : Form (List TypeNode)) → Says (item defs m) (function_item (written_function f)) (tokens_of (function_pieces f))
  function_says m = by_body m f.body refl
