use Rattle.std.proofs.Common.{take}
use Rattle.message_check.specs.Check.{divisor, dividend}
use Rattle.message_check.specs.Polynomials.{IsRemainder}
use Rattle.message_check.proofs.slow.check.Given as goal

abbrev pub invariant-loop-byte : goal.invariant-loop-byte
invariant-loop-byte l = IsRemainder 32 divisor (dividend (take l.byte-index l.bytes)) l.remainder
