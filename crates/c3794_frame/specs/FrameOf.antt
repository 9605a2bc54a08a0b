-- FrameOf: the layout of a frame, by the position of its bits. (IEEE C37.94 frame; the profile is this project's own.)
use Rattle.std.specs.Prelude.{◌≡◌, ℕ, ◌+◌, ◌-◌, ◌*◌, ◌<◌, Bool, if◌then◌else◌, List, [], ◌∷◌, ◌++◌, length, replicate, slice_index, take}
use Rattle.std.specs.List.{flat_map}
use Rattle.ld_base.specs.Bits.{bit_of, line_bit}
use Rattle.ld_base.specs.Words.{HeaderWords}
use Rattle.c3794_frame.specs.Numbers.{AreBits, bits_of, number, number_bits}

-- what a frame carries: which header word, the count of channels, the yellow bit, and twelve bytes of payload
pub record Layout : Type 0 where
  pub odd : Bool
  pub channels : ℕ
  pub yellow : Bool
  pub payload : List ℕ

-- a header word's number: word B where it is odd, else word A
abbrev pub word : HeaderWords → Bool → ℕ
word words odd = (if odd then words.b else words.a) * 256 + 15

-- the number of the first sixteen bits
abbrev pub header_of : List ℕ → ℕ
header_of bits = number (take 16 bits)

-- a data bit: each stands at an even place behind the header
abbrev pub data_bit : List ℕ → ℕ → ℕ
data_bit bits k = slice_index bits (16 + 2 * k)

-- the count of channels that stands in a frame: the first four data bits
abbrev pub count_of : List ℕ → ℕ
count_of bits = number (data_bit bits 0 ∷ data_bit bits 1 ∷ data_bit bits 2 ∷ data_bit bits 3 ∷ [])

-- 256 bits are a frame of this layout. The values of the 19 spare bits and of unused payload bits are free.
pub record FrameOf (words : HeaderWords) (bits : List ℕ) (f : Layout) : Type 0 where
  pub long : length bits ≡ 256
  pub are_bits : AreBits bits
  pub header : header_of bits ≡ word words f.odd
  pub complements : (k : ℕ) → k < 120 → data_bit bits k + slice_index bits (17 + 2 * k) ≡ 1
  pub count : count_of bits ≡ f.channels
  pub yellow : data_bit bits 4 ≡ bit_of f.yellow
  pub payload : (m : ℕ) → m < 8 * f.channels → data_bit bits (24 + m) ≡ line_bit f.payload m

-- a bit and its complement
abbrev pub with_complement : ℕ → List ℕ
with_complement b = b ∷ (1 - b) ∷ []

-- the 120 data bits of a frame as it is sent: the spare ones are zeros, and the unused payload bits are those of 0xFF
abbrev pub data_bits : Layout → List ℕ
data_bits f = number_bits 4 f.channels ++ bit_of f.yellow ∷ (replicate 19 0 ++ bits_of f.payload)

-- the 256 bits of a frame as it is sent
unfoldable pub frame_bits : HeaderWords → Layout → List ℕ
frame_bits words f = number_bits 16 (word words f.odd) ++ flat_map with_complement (data_bits f)
