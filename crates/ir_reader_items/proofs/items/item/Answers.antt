use Rattle.std.proofs.Common.{sym, ◌∙◌}
use Rattle.text_forms.specs.Gives.{left}
use Rattle.ir_reader_types.proofs.Same.{gives_same}
use Rattle.ir_types.specs.TypeForms.{memory_type}
use Rattle.ir_reader_items.specs.Parts.{item_of}
use Rattle.ir_reader_items.proofs.Branches.{word_item, comdat_item, metadata_item, type_item, variable_item}
use Rattle.ir_reader_items.proofs.items.item.Goals as goal

pub returns-then-begins_with_word : goal.returns-then-begins_with_word
returns-then-begins_with_word c = λ d le.
    let ts = left c.args.tokens in
    gives_same (λ x. (item_of x.0, left x.1)) c.with_word.result _ _ (sym (word_item (memory_type d) ts (sym c.begins_with_word.ensures ∙ c.if-begins_with_word.true))) c.with_word.ensures

pub returns-then-begins_named : goal.returns-then-begins_named
returns-then-begins_named c = λ d le.
    let ts = left c.args.tokens in
    gives_same (λ x. (item_of x.0, left x.1)) c.comdat_item.result _ _ (sym (comdat_item (memory_type d) ts (sym c.begins_with_word.ensures ∙ c.if-begins_with_word.false) (sym c.begins_named.ensures ∙ c.if-begins_named.true))) c.comdat_item.ensures

pub returns-then-begins_named-2 : goal.returns-then-begins_named-2
returns-then-begins_named-2 c = λ d le.
    let ts = left c.args.tokens in
    gives_same (λ x. (item_of x.0, left x.1)) c.metadata_item.result _ _ (sym (metadata_item (memory_type d) ts (sym c.begins_with_word.ensures ∙ c.if-begins_with_word.false) (sym c.begins_named.ensures ∙ c.if-begins_named.false) (sym c.begins_named-2.ensures ∙ c.if-begins_named-2.true))) c.metadata_item.ensures

pub returns-then-begins_named-3 : goal.returns-then-begins_named-3
returns-then-begins_named-3 c = λ d le.
    let ts = left c.args.tokens in
    gives_same (λ x. (item_of x.0, left x.1)) c.definition.result _ _ (sym (type_item (memory_type d) ts (sym c.begins_with_word.ensures ∙ c.if-begins_with_word.false) (sym c.begins_named.ensures ∙ c.if-begins_named.false) (sym c.begins_named-2.ensures ∙ c.if-begins_named-2.false) (sym c.begins_named-3.ensures ∙ c.if-begins_named-3.true))) (c.definition.ensures d le)

pub returns : goal.returns
returns c = λ d le.
    let ts = left c.args.tokens in
    gives_same (λ x. (item_of x.0, left x.1)) c.variable.result _ _ (sym (variable_item (memory_type d) ts (sym c.begins_with_word.ensures ∙ c.if-begins_with_word.false) (sym c.begins_named.ensures ∙ c.if-begins_named.false) (sym c.begins_named-2.ensures ∙ c.if-begins_named-2.false) (sym c.begins_named-3.ensures ∙ c.if-begins_named-3.false))) (c.variable.ensures d le)
