-- Four bits and the line byte that they make, each bit followed by its complement.
use Rattle.std.specs.Prelude.{◌≡◌, ℕ, ◌+◌, ◌-◌, ◌*◌, ◌%◌, ◌^◌, ◌<◌, List, length, slice_index}
use Rattle.std.specs.Int.{bit_at}
use Rattle.ld_base.specs.Bits.{byte_bit}
use Rattle.c3794_frame.specs.Reading.{data_byte}

-- a line byte with these four data bits
pub record IsLineByte (byte nibble : ℕ) : Type 0 where
  pub small : nibble < 16
  pub data_bits : (j : ℕ) → j < 4 → byte_bit byte (2 * j) ≡ bit_at nibble (3 - j)
  pub complements : (j : ℕ) → j < 4 → byte_bit byte (2 * j) + byte_bit byte (2 * j + 1) ≡ 1

-- each data bit of a byte is followed by its complement
pub record HasPairs (byte : ℕ) : Type 0 where
  pub each : (j : ℕ) → j < 4 → byte_bit byte (2 * j) + byte_bit byte (2 * j + 1) ≡ 1

-- a number whose bits are the first bits of those pairs of a word of 64 bits whose two bits are equal
pub record AreEqualPairs (word equal : ℕ) : Type 0 where
  pub small : equal < 2 ^ 64
  pub first : (j : ℕ) → j < 32 → bit_at equal (63 - 2 * j) ≡ 1 - (bit_at word (63 - 2 * j) + bit_at word (62 - 2 * j)) % 2
  pub second : (j : ℕ) → j < 32 → bit_at equal (62 - 2 * j) ≡ 0

-- the bytes of payload of so many channels
pub record ArePayload (channels : ℕ) (bits payload : List ℕ) : Type 0 where
  pub long : length payload ≡ 12
  pub each : (k : ℕ) → k < channels → slice_index payload k ≡ data_byte bits (24 + 8 * k)
