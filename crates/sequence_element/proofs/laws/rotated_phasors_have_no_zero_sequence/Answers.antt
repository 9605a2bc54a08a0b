use Rattle.sequence_element.proofs.Turns.{zero-rotated, zero-rounded, negative-rotated, positive-rotated}
use Rattle.sequence_element.proofs.laws.rotated_phasors_have_no_zero_sequence.Goals as goal

pub returns-clause-none : goal.returns-clause-none
returns-clause-none c = zero-rotated

pub returns-clause-rounded : goal.returns-clause-rounded
returns-clause-rounded c = zero-rounded

pub returns-clause-negative : goal.returns-clause-negative
returns-clause-negative c = negative-rotated

pub returns-clause-positive : goal.returns-clause-positive
returns-clause-positive c = positive-rotated
