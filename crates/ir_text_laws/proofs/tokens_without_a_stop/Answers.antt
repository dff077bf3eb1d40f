use Rattle.text_lex.proofs.Unique.{stops_lexes}
use Rattle.ir_text_laws.proofs.tokens_without_a_stop.Goals as goal

pub returns : goal.returns
returns c = λ text tokens place x h. stops_lexes text place tokens h x
