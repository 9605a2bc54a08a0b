use Rattle.std.proofs.Common.{◌*◌}
use Rattle.c3794_frame.specs.Numbers.{bits_of}
use Rattle.c3794_frame.proofs.Words.{AreWhole}
use Rattle.c3794_frame.proofs.complements.broken_pair.Given as goal

-- the pairs so far are whole
abbrev pub invariant-loop-k : goal.invariant-loop-k
invariant-loop-k l = AreWhole (32 * l.k) (bits_of l.bits)
