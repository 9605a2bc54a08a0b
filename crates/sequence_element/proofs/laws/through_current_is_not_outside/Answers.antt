use Rattle.sequence_element.proofs.Through.{zero-through, negative-through}
use Rattle.sequence_element.proofs.laws.through_current_is_not_outside.Goals as goal

pub returns-clause-zero : goal.returns-clause-zero
returns-clause-zero c = zero-through

pub returns-clause-negative : goal.returns-clause-negative
returns-clause-negative c = negative-through
