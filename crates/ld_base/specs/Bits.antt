-- The bits of bytes, in the order of a line.
use Rattle.std.specs.Prelude.{ℕ, ◌+◌, ◌-◌, ◌*◌, ◌/◌, ◌%◌, Bool, true, false, List, map, slice_index, slice_index_or}
use Rattle.std.specs.Int.{bit_at}
use Rattle.std.specs.List.{range_with_len}

-- a truth value as a bit
abbrev pub bit_of : Bool → ℕ
bit_of true = 1
bit_of false = 0

-- a bit of a byte, the highest first
abbrev pub byte_bit : ℕ → ℕ → ℕ
byte_bit byte k = bit_at byte (7 - k)

-- a bit of a line, the highest bit of the first byte first
abbrev pub line_bit : List ℕ → ℕ → ℕ
line_bit bytes i = byte_bit (slice_index bytes (i / 8)) (i % 8)

-- the first bits of some bytes
abbrev pub line_bits : ℕ → List ℕ → List ℕ
line_bits count bytes = map (line_bit bytes) (range_with_len 0 count)

-- the byte that eight bits from a place on make, zeros standing past the last bit
abbrev pub byte_from : List ℕ → ℕ → ℕ
byte_from bits i =
    128 * slice_index_or bits i 0 + 64 * slice_index_or bits (i + 1) 0 + 32 * slice_index_or bits (i + 2) 0 + 16 * slice_index_or bits (i + 3) 0
    + 8 * slice_index_or bits (i + 4) 0 + 4 * slice_index_or bits (i + 5) 0 + 2 * slice_index_or bits (i + 6) 0 + slice_index_or bits (i + 7) 0

-- that many bytes of some bits, zeros standing past the last bit
unfoldable pub line_bytes : ℕ → List ℕ → List ℕ
line_bytes count bits = map (λ k. byte_from bits (8 * k)) (range_with_len 0 count)
