use Rattle.std.proofs.Common.{◌*◌, ◌^◌, bit_xor}
use Rattle.message_check.specs.Check.{divisor}
use Rattle.message_check.specs.Polynomials.{IsRemainder}
use Rattle.message_check.proofs.slow.after_byte.Given as goal

abbrev pub invariant-loop-turn : goal.invariant-loop-turn
invariant-loop-turn l = IsRemainder 32 divisor (bit_xor l.fn.remainder (l.fn.byte * 2 ^ 24) * 2 ^ l._turn) l.remainder
