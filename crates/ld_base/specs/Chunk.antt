-- What a chunk keeps: up to 256 bits in 32 bytes, with zeros past the count.
use Rattle.std.specs.Prelude.{◌≡◌, ℕ, ◌<◌, ◌≤◌, List, length, slice_index}
use Rattle.ld_base.specs.Bits.{line_bit}

-- the bytes of a chunk of that many bits
pub record IsPacked (count : ℕ) (bytes : List ℕ) : Type 0 where
  pub few : count ≤ 256
  pub long : length bytes ≡ 32
  pub each : (k : ℕ) → slice_index bytes k < 256
  pub zeros : (i : ℕ) → count ≤ i → i < 256 → line_bit bytes i ≡ 0
