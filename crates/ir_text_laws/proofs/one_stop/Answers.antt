use Rattle.text_lex.proofs.Unique.{stops_unique}
use Rattle.ir_text_laws.proofs.one_stop.Goals as goal

pub returns : goal.returns
returns c = stops_unique
