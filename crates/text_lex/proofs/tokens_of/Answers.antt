use Rattle.std.proofs.Common.{arith}
use Rattle.std.proofs.lemmas.List.{length-drop}
use Rattle.text_forms.specs.Lexical.{here, here_placed}
use Rattle.text_lex.proofs.Placing.{skip_placed, token_on_placed}
use Rattle.text_lex.proofs.Reading.{skip_on, token_on, rest_is, stops_at}
use Rattle.text_lex.proofs.Colons.{tells_on}
use Rattle.text_lex.proofs.tokens_of.Goals as goal

pub loop-place-init : goal.loop-place-init
loop-place-init c = record {
  within = omega arith;
  placed = rw c.new-tokens.ensures.items here_placed;
  lexed = rw c.new-tokens.ensures.items here;
  colons = λ q from to. absurd (omega arith);
}

pub loop-place-preserved-then-skipped-gt0 : goal.loop-place-preserved-then-skipped-gt0
loop-place-preserved-then-skipped-gt0 c = record {
  within = omega (arith, length-drop c.loop-place.place c.args.text.now);
  placed = skip_placed c.args.text.now _ c.loop-place.place c.blank-skipped.result c.loop-place.invariant.placed (rw (rest_is c.loop-place.place c.args.text.now) at c.blank-skipped.ensures.blank) c.if-skipped-gt0.true;
  lexed = skip_on c.args.text.now _ c.loop-place.place c.blank-skipped.result c.loop-place.invariant.lexed (rw (rest_is c.loop-place.place c.args.text.now) at c.blank-skipped.ensures.blank) c.if-skipped-gt0.true;
  colons = tells_on c.args.text.now c.loop-place.place _ c.loop-place.run c.loop-place.invariant.colons (omega arith);
}

pub returns-in_default-clause-fault : goal.returns-in_default-clause-fault
returns-in_default-clause-fault c = (
  omega arith,
  stops_at c.args.text.now _ c.loop-place.place c.blank-skipped.result c.loop-place.invariant.lexed (omega arith) (rw (rest_is c.loop-place.place c.args.text.now) at c.blank-skipped.ensures.blank) (omega arith) (rw (rest_is c.loop-place.place c.args.text.now) at c.in_default.ensures),
)

pub loop-place-preserved : goal.loop-place-preserved
loop-place-preserved c = record {
  within = let a = c.in-Some.ensures in omega (arith, a.within, length-drop c.loop-place.place c.args.text.now);
  placed = rw c.in_ok-push.ensures.items (token_on_placed c.args.text.now c.loop-place.tokens.items c.loop-place.place c.in-Some.length c.in-Some.kind c.loop-place.invariant.within c.loop-place.invariant.placed (rw (rest_is c.loop-place.place c.args.text.now) at c.in-Some.ensures));
  lexed = rw c.in_ok-push.ensures.items (token_on c.args.text.now c.loop-place.tokens.items c.loop-place.place c.in-Some.length c.in-Some.kind c.loop-place.invariant.lexed (rw (rest_is c.loop-place.place c.args.text.now) at c.in-Some.ensures));
  colons = tells_on c.args.text.now c.loop-place.place _ c.run_at-run.result c.run_at-run.ensures.colon (omega arith);
}
