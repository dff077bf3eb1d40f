use Rattle.ir_text_laws.proofs.Readings.{stopped, unspelled, unnumbered}
use Rattle.ir_text_laws.proofs.no_reading.Goals as goal

pub returns-clause-stopped : goal.returns-clause-stopped
returns-clause-stopped c = λ text place h t. stopped text place t h

pub returns-clause-unspelled : goal.returns-clause-unspelled
returns-clause-unspelled c = λ text tokens x none t. unspelled text tokens t x none

pub returns-clause-unnumbered : goal.returns-clause-unnumbered
returns-clause-unnumbered c = λ text tokens written x s e t. unnumbered text tokens written t x s e
