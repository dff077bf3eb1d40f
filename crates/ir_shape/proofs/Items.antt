-- What is known of a module's items that tokens spell.
use Rattle.std.proofs.Common.{◌≡◌, ◌<◌, ℕ, true, false, List, [], ◌∷◌, ◌++◌, length, map, None, refl, sym, ap, ◌∙◌, subst, arith, inl, inr}
use Rattle.std.specs.Prelude.{codes}
use Rattle.std.specs.List.{AllByRecursion}
use Rattle.std.proofs.lemmas.Option.{cond_some}
use Rattle.text_forms.specs.declared.TokenKind.TheVariants.{Quoted, Local, Global, Comdat, Word, Number, Metadata, AttributeGroup, Bang, Equal, LeftParen, RightParen, LeftBrace, RightBrace}
use Rattle.text_forms.specs.declared.TokenKind.{TokenKind}
use Rattle.text_forms.specs.Form.{Lexeme, Form, Spells, texts, ahead, either, mapped, made, many}
use Rattle.text_forms.specs.Kept.{kept_token, attachments}
use Rattle.text_forms.specs.Lexical.{table}
use Rattle.text_forms.specs.Nested.{concat, joined}
use Rattle.text_forms.proofs.Sound.{bind_some}
use Rattle.text_forms.proofs.Exact.{some_is}
use Rattle.text_lex.specs.KeptText.{token_of, IsToken, AreLexed}
use Rattle.text_lex.proofs.Lexed.{lexed_split}
use Rattle.ir_types.specs.declared.opcode.ItemWord.{ItemWord}
use Rattle.ir_types.specs.declared.opcode.ItemWord.TheVariants.{SourceFilename, Target, Declare, Define, Attributes}
use Rattle.ir_types.specs.declared.opcode.Extra.{Extra}
use Rattle.ir_types.specs.Offsets.{Definitions}
use Rattle.ir_types.specs.Written.{name_behind}
use Rattle.ir_types.specs.Tree.{KeptTexts, WrittenBlock, WrittenFunction, Item, head_line, comdat_line, type_item, variable_item, function_item, attribute_line, metadata_line}
use Rattle.ir_types.specs.TypeForms.{memory_type}
use Rattle.ir_types.specs.Words.{kept}
use Rattle.ir_types.specs.FunctionForms.{parameter, dotted_parameters, declared_function, defined_function}
use Rattle.ir_types.specs.ItemForms.{equal_string, target_line, attribute_group, comdat, metadata, type_definition, initialiser_stops, extra_behind, extra, kept_once, behind_type, variable_word, variable_definition, item_behind, item, module_form}
use Rattle.ir_shape.specs.Shape.{IsName, IsReturnType, IsKept, head_form, attributes_form, IsDefinition, IsVariable}
use Rattle.ir_shape.proofs.Names.{behind_is}
use Rattle.kept_runs.specs.Verbatim.{Verbatim}
use Rattle.kept_runs.proofs.Verbatim.{verbatim_one, verbatim_token, verbatim_such, verbatim_joined, verbatim_either, verbatim_perhaps, verbatim_up_to, verbatim_braces, verbatim_attachment, verbatim_attachments}
use Rattle.ir_shape.proofs.Sure.{Sure, word_sure, pair_sure, either_sure, mapped_sure, made_sure, ahead_sure, optional_sure, by_word_sure, many_sure, behind_sure, after_mark_sure, between_sure, some_sure, list_sure, kept_sure}
use Rattle.ir_shape.proofs.Runs.{kept_is, run_sure, Dotted, dotted_sure}
use Rattle.ir_shape.proofs.Memory.{type_is_sure}
use Rattle.ir_shape.proofs.Values.{local_sure, global_sure, type_sure, return_type_sure}
use Rattle.ir_shape.proofs.Written.{block_sure, there_name, IsWrittenBlock, IsWrittenParam}

-- ---- functions

param_sure : Sure parameter IsWrittenParam
unfolding parameter
param_sure = mapped_sure (pair_sure type_sure (pair_sure run_sure (optional_sure local_sure))) (λ x h. record { ty = h.0; kept_texts = h.1.0; name = there_name x.1.1 h.1.1 })

params_sure : Sure dotted_parameters (Dotted IsWrittenParam)
unfolding dotted_parameters
params_sure = dotted_sure param_sure

-- what a written function keeps before its result's type, and behind its parameters
abbrev pub before_written : List WrittenBlock → Form KeptTexts
before_written [] = joined attachments kept
before_written (b ∷ bs) = kept

abbrev pub after_written : List WrittenBlock → Form KeptTexts
after_written [] = kept
after_written (b ∷ bs) = joined kept attachments

pub record IsWrittenFunction (f : WrittenFunction) : Type 0 where
  pub name : IsName f.name
  pub before : IsKept (before_written f.body) f.before
  pub ret : IsReturnType f.ret
  pub params : AllByRecursion IsWrittenParam f.params
  pub fixed : f.varargs ≡ true → f.body ≡ []
  pub after : IsKept (after_written f.body) f.after
  pub blocks : AllByRecursion IsWrittenBlock f.body

declared_sure : Sure declared_function IsWrittenFunction
unfolding declared_function
declared_sure = mapped_sure (pair_sure (kept_sure (verbatim_joined _ _ verbatim_attachments kept_is)) (pair_sure return_type_sure (pair_sure global_sure (pair_sure (between_sure LeftParen RightParen params_sure) run_sure)))) (λ x h. record {
  name = h.1.1.0;
  before = h.0;
  ret = h.1.0;
  params = h.1.1.1.0;
  fixed = λ e. refl;
  after = h.1.1.1.1;
  blocks = tt;
})

before_defined : (body : List WrittenBlock) (xs : KeptTexts) → 0 < length body → IsKept kept xs → IsKept (before_written body) xs
before_defined [] xs lt h = absurd (omega arith)
before_defined (b ∷ bs) xs lt h = h

after_defined : (body : List WrittenBlock) (xs : KeptTexts) → 0 < length body → IsKept (joined kept attachments) xs → IsKept (after_written body) xs
after_defined [] xs lt h = absurd (omega arith)
after_defined (b ∷ bs) xs lt h = h

not_true : false ≡ true → ⊥
not_true e = cc

defined_sure : (defs : Definitions) → Sure (defined_function defs) IsWrittenFunction
unfolding defined_function
defined_sure defs = mapped_sure (pair_sure run_sure (pair_sure return_type_sure (pair_sure global_sure (pair_sure (between_sure LeftParen RightParen (list_sure param_sure)) (pair_sure (kept_sure (verbatim_joined _ _ kept_is verbatim_attachments)) (between_sure LeftBrace RightBrace (some_sure (block_sure defs)))))))) (λ x h. record {
  name = h.1.1.0;
  before = before_defined x.1.1.1.1.1 x.0 h.1.1.1.1.1.0 h.0;
  ret = h.1.0;
  params = h.1.1.1.0;
  fixed = λ e. absurd (not_true e);
  after = after_defined x.1.1.1.1.1 x.1.1.1.1.0 h.1.1.1.1.1.0 h.1.1.1.1.0;
  blocks = h.1.1.1.1.1.1;
})

-- ---- named types and variables

abbrev pub IsWrittenItem : Item WrittenFunction → Type 0
IsWrittenItem (head_line xs) = IsKept head_form xs
IsWrittenItem (comdat_line xs) = IsKept comdat xs
IsWrittenItem (type_item n t) = IsName n × IsDefinition t
IsWrittenItem (variable_item v) = IsVariable v
IsWrittenItem (function_item f) = IsWrittenFunction f
IsWrittenItem (attribute_line xs) = IsKept attributes_form xs
IsWrittenItem (metadata_line xs) = IsKept metadata xs

definition_sure : (d : ℕ) → Sure (type_definition (memory_type d)) IsWrittenItem
unfolding type_definition
definition_sure d = made_sure {Q = IsWrittenItem} (ahead_sure Local (after_mark_sure Equal (behind_sure (codes "type") (either_sure (mapped_sure {Q = IsDefinition} (type_is_sure d) (λ ns h. h)) (word_sure _ None tt))))) (λ x i h e.
    let b = bind_some (name_behind x.0) _ i e in
    subst IsWrittenItem (some_is _ i b.2) (behind_is x.0 b.0 b.1, h))

-- ---- what is kept behind a variable's type

-- the value of the form is beside its tokens' texts
record Beside (f : Form (Extra × KeptTexts)) : Type 0 where
  same : (a : Extra × KeptTexts) (ts : List Lexeme) → AreLexed ts → Spells f a ts → a.1 ≡ texts ts

beside : {f : Form KeptTexts} (e : Extra) → Verbatim f → Beside (mapped (λ xs. (e, xs)) f)
beside e v = record { same = λ a ts l h. ap (λ (x : Extra × KeptTexts). x.1) (sym h.1) ∙ v.says h.0 ts l h.2 }

either_beside : {f g : Form (Extra × KeptTexts)} → Beside f → Beside g → Beside (either f g)
either_beside p q = record { same = λ a ts l h. elim h [ inl x ↦ p.same a ts l x | inr x ↦ q.same a ts l x ] }

extra_behind_is : Beside extra_behind
unfolding extra_behind
extra_behind_is =
    either_beside (beside _ (verbatim_joined _ _ (verbatim_token Word _) (verbatim_one Quoted)))
    (either_beside (beside _ (verbatim_joined _ _ (verbatim_token Word _) (verbatim_perhaps _ (verbatim_joined _ _ (verbatim_one LeftParen) (verbatim_joined _ _ (verbatim_one Comdat) (verbatim_one RightParen))))))
    (either_beside (beside _ (verbatim_joined _ _ (verbatim_token Word _) (verbatim_such Number _))) (beside _ verbatim_attachment)))

later_lexed : (t : Lexeme) (ts us : List Lexeme) → ts ≡ t ∷ us → AreLexed ts → AreLexed us
later_lexed t ts us e l = (subst AreLexed e l).1

extra_is : Beside extra
extra_is = record {
  same = λ a ts l h.
      let tail = extra_behind_is.same h.0.1 h.2.0 (later_lexed _ ts h.2.0 h.2.1 l) h.2.2 in
      ap (λ (x : Extra × KeptTexts). x.1) (sym h.1) ∙ ap (λ (xs : KeptTexts). h.0.0 ∷ xs) tail ∙ sym (ap texts h.2.1);
}

texts_append : (ts us : List Lexeme) → texts (ts ++ us) ≡ texts ts ++ texts us
texts_append [] us = refl
texts_append (t ∷ ts) us = ap (λ (xs : KeptTexts). t.text ∷ xs) (texts_append ts us)

all_beside : (xs : List (Extra × KeptTexts)) (ts : List Lexeme) → AreLexed ts → Spells (many extra) xs ts → concat (map (λ x. x.1) xs) ≡ texts ts
all_beside [] ts l h = sym (ap texts h)
all_beside (x ∷ xs) ts l h =
    let both = lexed_split h.0 h.1 (subst AreLexed h.2 l) in
    let first = extra_is.same x h.0 both.0 h.3 in
    let others = all_beside xs h.1 both.1 h.4 in
    ap (λ (us : KeptTexts). us ++ concat (map (λ y. y.1) xs)) first ∙ ap (λ (us : KeptTexts). texts h.0 ++ us) others ∙ sym (ap texts h.2 ∙ texts_append h.0 h.1)

extras_verbatim : Verbatim (made kept_once (many extra))
extras_verbatim = record {
  says = λ a ts l h. sym (cond_some _ (concat (map (λ x. x.1) h.0)) a h.1).1 ∙ all_beside h.0 ts l h.2;
}

once_verbatim : Verbatim behind_type
unfolding behind_type
once_verbatim = verbatim_joined _ _ (verbatim_up_to initialiser_stops) extras_verbatim

variable_sure : (d : ℕ) → Sure (variable_definition (memory_type d)) IsWrittenItem
unfolding variable_definition variable_word
variable_sure d = made_sure {Q = IsWrittenItem} (ahead_sure Global (after_mark_sure Equal (pair_sure run_sure (pair_sure (either_sure {P = λ b. Unit {0}} (word_sure _ true tt) (word_sure _ false tt)) (pair_sure (type_is_sure d) (kept_sure once_verbatim)))))) (λ x i h e.
    let b = bind_some (name_behind x.0) _ i e in
    subst IsWrittenItem (some_is _ i b.2) (record { name = behind_is x.0 b.0 b.1; before = h.0; ty = h.1.1.0; after = h.1.1.1 }))

-- ---- lines

equal_string_is : Verbatim equal_string
equal_string_is = verbatim_joined _ _ (verbatim_one Equal) (verbatim_one Quoted)

target_is : Verbatim target_line
unfolding target_line
target_is = verbatim_joined _ _ (verbatim_either _ _ (verbatim_token Word _) (verbatim_token Word _)) equal_string_is

group_is : Verbatim attribute_group
unfolding attribute_group
group_is = verbatim_joined _ _ (verbatim_one AttributeGroup) (verbatim_joined _ _ (verbatim_one Equal) verbatim_braces)

ahead_verbatim : {f : Form KeptTexts} (k : TokenKind) → Verbatim f → Verbatim (mapped (λ x. x.0 ∷ x.1) (ahead k f))
ahead_verbatim k v = record {
  says = λ a ts l h. sym h.1 ∙ ap (λ (xs : KeptTexts). h.0.0 ∷ xs) (v.says h.0.1 h.2.0 (later_lexed _ ts h.2.0 h.2.1 l) h.2.2) ∙ sym (ap texts h.2.1);
}

comdat_is : Verbatim comdat
unfolding comdat
comdat_is = ahead_verbatim Comdat (verbatim_joined _ _ (verbatim_one Equal) (verbatim_joined _ _ (verbatim_token Word _) (verbatim_one Word)))

metadata_is : Verbatim metadata
unfolding metadata
metadata_is = ahead_verbatim Metadata (verbatim_joined _ _ (verbatim_one Equal) (verbatim_joined _ _ (verbatim_perhaps _ (verbatim_token Word _)) (verbatim_joined _ _ (verbatim_one Bang) verbatim_braces)))

abbrev token : List ℕ → Lexeme
token w = record { kind = Word; text = w }

-- a word behind which something is kept is kept with it
with_word : (w : List ℕ) (f : Form KeptTexts) (xs : KeptTexts) → token_of w ≡ token w → IsToken w → IsKept f xs → IsKept (joined (kept_token Word w) f) (w ∷ xs)
with_word w f xs e t h = record {
  spelled = ((w ∷ [], xs), refl, (token w ∷ [], map token_of xs, ap (λ (l : Lexeme). l ∷ map token_of xs) e, (tt, refl, refl), h.spelled));
  tokens = (t, h.tokens);
}

left_kept : (f g : Form KeptTexts) (xs : KeptTexts) → IsKept f xs → IsKept (either f g) xs
left_kept f g xs h = record { spelled = inl h.spelled; tokens = h.tokens }

right_kept : (f g : Form KeptTexts) (xs : KeptTexts) → IsKept g xs → IsKept (either f g) xs
right_kept f g xs h = record { spelled = inr h.spelled; tokens = h.tokens }

source_kept : (xs : KeptTexts) → IsKept equal_string xs → IsKept head_form (codes "source_filename" ∷ xs)
unfolding token_of table
source_kept xs h = left_kept _ _ _ (with_word (codes "source_filename") equal_string xs refl (Word, refl) h)

target_kept : (xs : KeptTexts) → IsKept target_line xs → IsKept head_form (codes "target" ∷ xs)
unfolding token_of table
target_kept xs h = right_kept _ _ _ (with_word (codes "target") target_line xs refl (Word, refl) h)

attributes_kept : (xs : KeptTexts) → IsKept attribute_group xs → IsKept attributes_form (codes "attributes" ∷ xs)
unfolding token_of table
attributes_kept xs h = with_word (codes "attributes") attribute_group xs refl (Word, refl) h

-- ---- items and modules

by_item : (defs : Definitions) (w : ItemWord) → Sure (item_behind defs w) IsWrittenItem
by_item defs SourceFilename = mapped_sure {Q = IsWrittenItem} (kept_sure equal_string_is) source_kept
by_item defs Target = mapped_sure {Q = IsWrittenItem} (kept_sure target_is) target_kept
by_item defs Declare = mapped_sure {Q = IsWrittenItem} declared_sure (λ f h. h)
by_item defs Define = mapped_sure {Q = IsWrittenItem} (defined_sure defs) (λ f h. h)
by_item defs Attributes = mapped_sure {Q = IsWrittenItem} (kept_sure group_is) attributes_kept

item_sure : (defs : Definitions) (d : ℕ) → Sure (item defs (memory_type d)) IsWrittenItem
unfolding item
item_sure defs d =
    either_sure (by_word_sure (by_item defs))
    (either_sure (mapped_sure {Q = IsWrittenItem} (kept_sure comdat_is) (λ xs h. h))
    (either_sure (mapped_sure {Q = IsWrittenItem} (kept_sure metadata_is) (λ xs h. h))
    (either_sure (definition_sure d) (variable_sure d))))

-- What the tokens of a text spell is so.
pub spelled_is : (defs : Definitions) (d : ℕ) (items : List (Item WrittenFunction)) (ts : List Lexeme) → AreLexed ts → Spells (module_form defs d) items ts → AllByRecursion IsWrittenItem items
unfolding module_form
spelled_is defs d items ts l h = (many_sure (item_sure defs d)).known items ts l h
