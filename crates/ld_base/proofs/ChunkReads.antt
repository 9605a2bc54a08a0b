-- Reads of the bits of a chunk.
use Rattle.std.proofs.Common.{◌≡◌, ℕ, zero, suc, ◌-◌, ◌/◌, ◌%◌, ◌^◌, ◌<◌, nat_eq, List, slice_index, slice_index_or, bit_and, arith, sym, ap, ◌∙◌, refl}
use Rattle.std.proofs.lemmas.Nat.Bits.{shr_and_one, bit_at-lt}
use Rattle.ld_base.specs.Bits.{bit_of, byte_bit, line_bits}
use Rattle.ld_base.specs.Packing.{line_bits_at}

-- the shift and the mask read a bit of a line
shifted_bit : (count : ℕ) (bytes : List ℕ) (at from : ℕ) → at < count → from ≡ at / 8 → bit_and (slice_index_or bytes from 0 / 2 ^ (7 - at % 8)) 1 ≡ slice_index (line_bits count bytes) at
shifted_bit count bytes at from h e = shr_and_one (slice_index_or bytes from 0) (7 - at % 8) ∙ ap (λ (k : ℕ). byte_bit (slice_index bytes k) (at % 8)) e ∙ sym (line_bits_at count bytes at h)

-- the test of a bit is the bit
test_of_bit : (bit : ℕ) → bit < 2 → bit_of (nat_eq bit 1) ≡ bit
test_of_bit zero h = refl
test_of_bit (suc zero) h = refl
test_of_bit (suc (suc n)) h = absurd (omega arith)

-- so the test of the bit that is read is that bit
pub tested_bit : (count : ℕ) (bytes : List ℕ) (at from : ℕ) → at < count → from ≡ at / 8
    → bit_of (nat_eq (bit_and (slice_index_or bytes from 0 / 2 ^ (7 - at % 8)) 1) 1) ≡ slice_index (line_bits count bytes) at
tested_bit count bytes at from h e =
    let small = bit_at-lt (slice_index_or bytes (at / 8) 0) (7 - at % 8) in
    rw (shifted_bit count bytes at from h e) (test_of_bit _ (rw (line_bits_at count bytes at h) small))
