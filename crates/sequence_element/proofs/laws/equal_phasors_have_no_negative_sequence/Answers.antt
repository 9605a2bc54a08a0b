use Rattle.sequence_element.proofs.Turns.{zero-equal, negative-equal}
use Rattle.sequence_element.proofs.laws.equal_phasors_have_no_negative_sequence.Goals as goal

pub returns-clause-zero : goal.returns-clause-zero
returns-clause-zero c = zero-equal

pub returns-clause-negative : goal.returns-clause-negative
returns-clause-negative c = negative-equal
