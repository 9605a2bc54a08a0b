-- Numbers and bytes as bits, the highest first.
use Rattle.std.specs.Prelude.{ℕ, zero, suc, ◌+◌, ◌*◌, ◌^◌, ◌<◌, List, [], ◌∷◌, length, slice_index}
use Rattle.std.specs.Int.{bit_at}
use Rattle.ld_base.specs.Bits.{line_bits}

-- the number that some bits make
abbrev pub number : List ℕ → ℕ
number [] = 0
number (b ∷ bits) = b * 2 ^ length bits + number bits

-- the lowest bits of a number, so many of them
abbrev pub number_bits : ℕ → ℕ → List ℕ
number_bits zero n = []
number_bits (suc k) n = bit_at n k ∷ number_bits k n

-- all the bits of some bytes
unfoldable pub bits_of : List ℕ → List ℕ
bits_of bytes = line_bits (8 * length bytes) bytes

-- each is 0 or 1
pub record AreBits (bits : List ℕ) : Type 0 where
  pub each : (i : ℕ) → slice_index bits i < 2
