use Rattle.std.proofs.Common.{◌/◌, arith, refl, replicate}
use Rattle.ld_base.proofs.ChunkBits.{zero_byte, zero_bit}
use Rattle.ld_base.proofs.chunk.ChunkDefault.default.Goals as goal

pub invariant_of-result : goal.invariant_of-result
invariant_of-result c = record {
  few = omega arith;
  long = refl;
  each = λ k. rw (zero_byte k) (omega arith);
  zeros = λ i _ _. zero_bit (replicate 32 0) i (zero_byte (i / 8));
}
