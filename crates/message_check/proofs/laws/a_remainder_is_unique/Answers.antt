use Rattle.std.proofs.Common.{arith}
use Rattle.message_check.specs.Check.{divisor}
use Rattle.message_check.proofs.Halving.{IsRemainder-unique}
use Rattle.message_check.proofs.laws.a_remainder_is_unique.Goals as goal

pub returns : goal.returns
returns c = λ dividend r s. IsRemainder-unique 32 divisor dividend r s (omega arith) (omega arith)
