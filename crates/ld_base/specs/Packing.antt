-- The bits of packed bytes give the bytes back. (A struct's values are told apart by this, so it stands with the definitions.)
use Rattle.std.proofs.Common.{◌≡◌, ℕ, ◌+◌, ◌*◌, ◌/◌, ◌%◌, ◌<◌, List, length, slice_index, slice_index_or, refl, arith, sym}
use Rattle.std.proofs.lemmas.List.{get_or_past}
use Rattle.std.proofs.lemmas.List.FromFn.{fill_by_all, length-map-range_with_len, get_or-map-range_with_len}
use Rattle.ld_base.specs.Bits.{byte_bit, line_bit, line_bits, byte_from, line_bytes}
use Rattle.ld_base.specs.Chunk.{IsPacked}
use Rattle.ld_base.specs.declared.chunk.Chunk.TheInside.{Inside}

-- so many bits of a line are so many
pub length-line_bits : (count : ℕ) (bytes : List ℕ) → length (line_bits count bytes) ≡ count
length-line_bits count bytes = length-map-range_with_len (line_bit bytes) 0 count

-- a bit of a line is found at its place
pub line_bits_at : (count : ℕ) (bytes : List ℕ) (at : ℕ) → at < count → slice_index (line_bits count bytes) at ≡ line_bit bytes at
line_bits_at count bytes at h = get_or-map-range_with_len (line_bit bytes) 0 count at at 0 h (omega arith)

-- a byte is made of its bits
byte_of_bits : (byte : ℕ) → byte < 256
    → 128 * byte_bit byte 0 + 64 * byte_bit byte 1 + 32 * byte_bit byte 2 + 16 * byte_bit byte 3
    + 8 * byte_bit byte 4 + 4 * byte_bit byte 5 + 2 * byte_bit byte 6 + byte_bit byte 7 ≡ byte
byte_of_bits byte h = omega arith

module _ (count : ℕ) (bytes : List ℕ) (packed : IsPacked count bytes) where
  -- a bit of packed bytes, or a zero past the last one
  bit_at_place : (i k j : ℕ) → i ≡ 8 * k + j → k < 32 → j < 8 → slice_index_or (line_bits count bytes) i 0 ≡ byte_bit (slice_index bytes k) j
  bit_at_place i k j e hk hj =
      let byte : i / 8 ≡ k = omega arith in
      let bit : i % 8 ≡ j = omega arith in
      let place : slice_index_or (line_bits count bytes) i 0 ≡ line_bit bytes i =
      grind (arith, line_bits_at count bytes i, get_or_past (line_bits count bytes) i 0, length-line_bits count bytes, packed.zeros i) in
      rw (byte, bit) at place

  -- a byte of the bits is the packed byte
  byte_at_place : (k : ℕ) → k < 32 → slice_index bytes k ≡ byte_from (line_bits count bytes) (8 * k)
  byte_at_place k h =
      let byte = byte_of_bits (slice_index bytes k) (packed.each k) in
      sym (rw (
        bit_at_place (8 * k) k 0 (omega arith) h (omega arith),
        bit_at_place (8 * k + 1) k 1 refl h (omega arith),
        bit_at_place (8 * k + 2) k 2 refl h (omega arith),
        bit_at_place (8 * k + 3) k 3 refl h (omega arith),
        bit_at_place (8 * k + 4) k 4 refl h (omega arith),
        bit_at_place (8 * k + 5) k 5 refl h (omega arith),
        bit_at_place (8 * k + 6) k 6 refl h (omega arith),
        bit_at_place (8 * k + 7) k 7 refl h (omega arith),
      ) byte)

  pub same_bytes : line_bytes 32 (line_bits count bytes) ≡ bytes
  unfolding line_bytes
  same_bytes = sym (fill_by_all (λ k. byte_from (line_bits count bytes) (8 * k)) bytes 32 0 packed.long byte_at_place)

-- the bits of a chunk give its count and its bytes back
pub repacked : (c : Inside) → IsPacked c.count c.bytes
    → record { count = length (line_bits c.count c.bytes); bytes = line_bytes 32 (line_bits c.count c.bytes) } ≡ c
repacked c packed = rw (length-line_bits c.count c.bytes, same_bytes c.count c.bytes packed) refl
