use Rattle.std.proofs.Common.{refl, sym, ◌∙◌}
use Rattle.std.proofs.lemmas.Option.{slice_get-get_or}
use Rattle.text_lex.proofs.Omitted.{placed_within}
use Rattle.text_lex.proofs.left_out.refuse_left_out.Goals as goal

pub first_left_out-requires : goal.first_left_out-requires
first_left_out-requires c = record { within = placed_within c.args.text.now c.requires.placed }

pub word_of-requires : goal.word_of-requires
word_of-requires c = record { within = placed_within c.args.text.now c.requires.placed c.in-Some.place _ (rw c.in-Some.is at c.in_ok-place.ensures.inside) }

pub returns-clause-fault : goal.returns-clause-fault
returns-clause-fault c = (
  c.requires.within,
  record {
    tokens = c.args.tokens.now;
    lexed = c.requires.lexed;
    placed = c.requires.placed;
    place = c.in-Some.place;
    first = rw c.in-Some.is at c.in_ok-place.ensures.first;
    token = _;
    found = slice_get-get_or c.args.tokens.now c.in-Some.place _ (rw c.in-Some.is at c.in_ok-place.ensures.inside);
    starts = refl;
    spelled = sym c.word_of.ensures ∙ sym c.in_ok-word.ensures;
  },
)
