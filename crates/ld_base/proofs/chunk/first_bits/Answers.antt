use Rattle.std.proofs.Common.{◌≡◌, ◌≤◌, ◌<◌, ℕ, ◌*◌, ◌-◌, ◌%◌, ◌^◌, bit_and, arith}
use Rattle.std.specs.Int.{bit_at}
use Rattle.std.proofs.lemmas.Nat.Bits.{ones_shl, bit_at_and, bit_at_mask_inside, bit_at_mask_below, bit_at-lt}
use Rattle.ld_base.proofs.chunk.first_bits.Goals as goal

-- a bit under a mask that has it
under_one : (byte mask i : ℕ) → bit_at mask i ≡ 1 → bit_at (bit_and byte mask) i ≡ bit_at byte i
under_one byte mask i one = omega (arith, bit_at_and byte mask i, bit_at-lt byte i, one)

-- a bit under a mask that lacks it
under_zero : (byte mask i : ℕ) → bit_at mask i ≡ 0 → bit_at (bit_and byte mask) i ≡ 0
under_zero byte mask i zero = omega (arith, bit_at_and byte mask i, zero)

-- the mask has the first bits
has : (low i : ℕ) → low ≤ 8 → low ≤ i → i < 8 → bit_at (255 * 2 ^ low % 256) i ≡ 1
has low i within from below = rw (ones_shl 8 low within) (bit_at_mask_inside low 8 i from below)

-- the mask lacks the others
lacks : (low i : ℕ) → low ≤ 8 → i < low → bit_at (255 * 2 ^ low % 256) i ≡ 0
lacks low i within below = rw (ones_shl 8 low within) (bit_at_mask_below low 8 i below)

pub returns-else-count-eq0-clause-kept : goal.returns-else-count-eq0-clause-kept
returns-else-count-eq0-clause-kept c = λ k within. under_one _ _ _ (has (8 - c.args.count) (7 - k) (omega arith) (omega (arith, c.requires)) (omega arith))

pub returns-else-count-eq0-clause-padded : goal.returns-else-count-eq0-clause-padded
returns-else-count-eq0-clause-padded c = λ k from below. under_zero _ _ _ (lacks (8 - c.args.count) (7 - k) (omega arith) (omega (arith, c.requires)))
