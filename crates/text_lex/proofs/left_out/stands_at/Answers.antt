use Rattle.std.proofs.Common.{rules, sym, ◌∙◌}
use denote.Enum.Bare.{same_true, same_false}
use Rattle.text_forms.specs.contracts.TokenKind.{the_type}
use Rattle.text_lex.proofs.Omitted.{stands_here, stands_other, stands_past}
use Rattle.text_lex.proofs.left_out.stands_at.Goals as goal

pub returns-then-eq : goal.returns-then-eq
returns-then-eq c =
    let same = same_true the_type (search rules) c.in-Some.token.now.kind c.args.kind (sym c.eq.ensures ∙ c.if-eq.true) in
    let at = c.in-Some.ensures.lookup in
    c.eq-then-eq.ensures ∙ stands_here c.args.text.now c.args.tokens.now c.args.place c.in-Some.token.now c.args.kind c.word_of.result.now c.args.word.now at.3.0 at.1 same c.word_of.ensures

pub returns-else-eq : goal.returns-else-eq
returns-else-eq c =
    let other = same_false the_type c.in-Some.token.now.kind c.args.kind (sym c.eq.ensures ∙ c.if-eq.false) in
    let at = c.in-Some.ensures.lookup in
    c.if-eq.false ∙ stands_other c.args.text.now c.args.tokens.now c.args.place c.in-Some.token.now c.args.kind c.args.word.now at.3.0 at.1 other

pub returns-in-None : goal.returns-in-None
returns-in-None c = stands_past c.args.text.now c.args.tokens.now c.args.place c.args.kind c.args.word.now c.in-None.ensures.lookup.3
