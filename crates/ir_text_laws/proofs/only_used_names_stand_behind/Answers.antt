use Rattle.ir_text_laws.proofs.Behind.{missing_types, missing_symbols}
use Rattle.ir_text_laws.proofs.only_used_names_stand_behind.Goals as goal

pub returns-clause-types : goal.returns-clause-types
returns-clause-types c = missing_types

pub returns-clause-symbols : goal.returns-clause-symbols
returns-clause-symbols c = missing_symbols
