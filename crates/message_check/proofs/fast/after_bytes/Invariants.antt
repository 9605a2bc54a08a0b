use Rattle.std.proofs.Common.{ℕ, List, ◌++◌, take}
use Rattle.message_check.specs.Check.{divisor, dividend}
use Rattle.message_check.specs.Polynomials.{IsRemainder}
use Rattle.message_check.proofs.fast.after_bytes.Given as goal

-- the remainder with the bytes so far
abbrev pub invariant-loop-byte : goal.invariant-loop-byte
invariant-loop-byte l = (front : List ℕ) → IsRemainder 32 divisor (dividend front) l.fn.remainder
    → IsRemainder 32 divisor (dividend (front ++ take l.byte-index l.bytes)) l.remainder
