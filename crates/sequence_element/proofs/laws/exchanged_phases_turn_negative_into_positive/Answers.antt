use Rattle.sequence_element.proofs.Turns.{zero-exchanged, negative-exchanged}
use Rattle.sequence_element.proofs.laws.exchanged_phases_turn_negative_into_positive.Goals as goal

pub returns-clause-zero : goal.returns-clause-zero
returns-clause-zero c = zero-exchanged

pub returns-clause-negative : goal.returns-clause-negative
returns-clause-negative c = negative-exchanged
