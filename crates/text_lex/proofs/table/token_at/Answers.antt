use Rattle.text_lex.proofs.Fronts.{found}
use Rattle.text_lex.proofs.table.token_at.Goals as goal

pub returns : goal.returns
returns c = found c.args.text.now c.best_of_table.result c.best_of_table.ensures
