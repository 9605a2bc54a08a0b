use Rattle.message_check.proofs.Remainders.{IsRemainder-exists}
use Rattle.message_check.proofs.laws.a_remainder_exists.Goals as goal

pub returns : goal.returns
returns c = IsRemainder-exists
