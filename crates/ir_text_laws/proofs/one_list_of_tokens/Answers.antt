use Rattle.text_lex.proofs.Unique.{lexes_unique}
use Rattle.ir_text_laws.proofs.one_list_of_tokens.Goals as goal

pub returns : goal.returns
returns c = lexes_unique
