use Rattle.message_check.proofs.Checks.{IsCheck-lt}
use Rattle.message_check.proofs.laws.a_check_has_32_bits.Goals as goal

pub returns : goal.returns
returns c = IsCheck-lt
