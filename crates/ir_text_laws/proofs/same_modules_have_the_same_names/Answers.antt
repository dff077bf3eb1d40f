use Rattle.ir_text_laws.proofs.Behind.{one_list_of_types, one_list_of_symbols}
use Rattle.ir_text_laws.proofs.same_modules_have_the_same_names.Goals as goal

pub returns-clause-types : goal.returns-clause-types
returns-clause-types c = one_list_of_types

pub returns-clause-symbols : goal.returns-clause-symbols
returns-clause-symbols c = one_list_of_symbols
