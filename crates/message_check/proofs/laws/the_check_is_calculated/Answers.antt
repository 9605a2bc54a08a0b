use Rattle.message_check.proofs.Checks.{IsCheck-iff}
use Rattle.message_check.proofs.laws.the_check_is_calculated.Goals as goal

pub returns : goal.returns
returns c = IsCheck-iff
