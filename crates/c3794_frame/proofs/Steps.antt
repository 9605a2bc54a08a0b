-- The payload of a line, as far as a loop has come.
use Rattle.std.proofs.Common.{◌≡◌, ◌≢◌, ℕ, ◌+◌, ◌*◌, ◌%◌, ◌<◌, List, length, set, bit_or, arith, ◌∙◌, below_more, get_or-set_same, get_or-set_other, length-set}
use Rattle.std.proofs.lemmas.Nat.{or_shifted}
use Rattle.c3794_frame.specs.Nibble.{ArePayload}
use Rattle.c3794_frame.specs.Reading.{data_byte}

-- a byte from two nibbles
pub byte_of : (high low : ℕ) → high < 16 → low < 16 → bit_or (high * 16 % 256) low ≡ high * 16 + low
byte_of high low h l = let e : high * 16 % 256 ≡ high * 16 = omega arith in rw e (or_shifted high 4 low l)

-- one byte more
pub payload_more : (n byte : ℕ) (bits payload : List ℕ) → n < 12 → byte ≡ data_byte bits (24 + 8 * n) → ArePayload n bits payload
    → ArePayload (n + 1) bits (set payload n byte)
payload_more n byte bits payload within is h =
    let inside : n < length payload = rw h.long within in
    record {
      long = length-set _ _ _ ∙ h.long;
      each = below_more _ _
          (λ k below. let ne : k ≢ n = omega arith in rw get_or-set_other (h.each k below))
          (rw get_or-set_same is);
    }
