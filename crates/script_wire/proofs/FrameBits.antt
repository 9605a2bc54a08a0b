-- The bits of a frame: one inverted, and those from a place on.
use Rattle.std.proofs.Common.{◌≡◌, ◌≢◌, ℕ, zero, suc, ◌+◌, ◌*◌, ◌-◌, ◌/◌, ◌%◌, ◌^◌, ◌<◌, ◌≤◌, min, List, length, take, drop, slice_index, slice_set, bit_and, bit_xor, arith, sym, ap, ◌∙◌, refl, length-drop}
use Rattle.std.specs.Int.{bit_at}
use Rattle.std.proofs.lemmas.Bool.Decides.{nat_tests}
use Rattle.std.proofs.lemmas.List.{get_or-set_other, get_or-set_same, get_or-take, get_or-drop, length-set, length-take-le, set_past}
use Rattle.std.proofs.lemmas.List.FromFn.{fill_by_all}
use Rattle.std.proofs.lemmas.Nat.{shr-shr}
use Rattle.std.proofs.lemmas.Nat.Bits.{bit_at_and, bit_at_xor, bit_at-pow_same, bit_at-pow_other, bit_at_ones, bit_at-lt, bit_at_cat_low, bit_at_cat_high}
use Rattle.ld_base.specs.Bits.{byte_bit, line_bit, line_bits}
use Rattle.ld_base.specs.Packing.{length-line_bits, line_bits_at}
use Rattle.script_wire.specs.Wires.{IsJoined}

-- a bit of a number that is shifted down and cut to a byte
shifted_bit : (n m j : ℕ) → j < 8 → bit_at (bit_and (n / 2 ^ m) 255) j ≡ bit_at n (m + j)
shifted_bit n m j h =
    let all : bit_at 255 j ≡ 1 = bit_at_ones 8 j h in
    let small = bit_at-lt (n / 2 ^ m) j in
    let one : min (bit_at (n / 2 ^ m) j) 1 ≡ bit_at (n / 2 ^ m) j = omega arith in
    bit_at_and (n / 2 ^ m) 255 j ∙ ap (λ (b : ℕ). min (bit_at (n / 2 ^ m) j) b) all ∙ one ∙ ap (λ (q : ℕ). q % 2) (shr-shr n m j)

-- two bytes as one number, from a bit on
pub joined_bits : (first second from pair : ℕ) → from < 8 → second < 256 → pair ≡ first * 256 + second → IsJoined first second from (bit_and (pair / 2 ^ (8 - from)) 255)
joined_bits first second from pair h small e k hk =
    let j : 7 - k < 8 = omega arith in
    let bit = shifted_bit pair (8 - from) (7 - k) j in
    let of_pair = ap (λ (n : ℕ). bit_at n (8 - from + (7 - k))) e in
    grind (arith, nat_tests, bit ∙ of_pair, high, low)
  where
    high : k + from < 8 → bit_at (first * 256 + second) (8 - from + (7 - k)) ≡ byte_bit first (k + from)
    high s =
        let eight : 8 ≤ 8 - from + (7 - k) = omega arith in
        let place : 8 - from + (7 - k) - 8 ≡ 7 - (k + from) = omega arith in
        bit_at_cat_high first 8 second (8 - from + (7 - k)) small eight ∙ ap (λ (i : ℕ). bit_at first i) place

    low : 8 ≤ k + from → bit_at (first * 256 + second) (8 - from + (7 - k)) ≡ byte_bit second (k + from - 8)
    low s =
        let eight : 8 - from + (7 - k) < 8 = omega arith in
        let place : 8 - from + (7 - k) ≡ 7 - (k + from - 8) = omega arith in
        bit_at_cat_low first 8 second (8 - from + (7 - k)) eight ∙ ap (λ (i : ℕ). bit_at second i) place

-- so many of the bits from a place on, where each is that of the frame
pub bits_from : (frame bytes : List ℕ) (from count : ℕ) → from + count ≤ 256
    → ((i : ℕ) → i + from < 256 → line_bit bytes i ≡ line_bit frame (i + from))
    → line_bits count bytes ≡ take count (drop from (line_bits 256 frame))
bits_from frame bytes from count h same = sym (fill_by_all (line_bit bytes) (take count (drop from (line_bits 256 frame))) count 0 long each)
  where
    long : length (take count (drop from (line_bits 256 frame))) ≡ count
    long = length-take-le count (drop from (line_bits 256 frame)) (omega (arith, length-drop from (line_bits 256 frame), length-line_bits 256 frame))

    each : (k : ℕ) → k < count → slice_index (take count (drop from (line_bits 256 frame))) k ≡ line_bit bytes k
    each k hk =
        let place : from + k ≡ k + from = omega arith in
        let inside : k + from < 256 = omega arith in
        get_or-take count (drop from (line_bits 256 frame)) k 0 hk ∙ get_or-drop from (line_bits 256 frame) k 0
        ∙ line_bits_at 256 frame (from + k) (omega arith) ∙ ap (λ (i : ℕ). line_bit frame i) place ∙ sym (same k inside)

-- the mask of a bit of a byte
mask : (k : ℕ) → k < 8 → 128 / 2 ^ k ≡ 2 ^ (7 - k)
mask zero h = refl
mask (suc zero) h = refl
mask (suc (suc zero)) h = refl
mask (suc (suc (suc zero))) h = refl
mask (suc (suc (suc (suc zero)))) h = refl
mask (suc (suc (suc (suc (suc zero))))) h = refl
mask (suc (suc (suc (suc (suc (suc zero)))))) h = refl
mask (suc (suc (suc (suc (suc (suc (suc zero))))))) h = refl
mask (suc (suc (suc (suc (suc (suc (suc (suc k)))))))) h = absurd (omega arith)

-- a byte with one of its bits inverted: that bit
flipped_same : (byte k : ℕ) → k < 8 → byte_bit (bit_xor byte (128 / 2 ^ k)) k ≡ 1 - byte_bit byte k
flipped_same byte k h =
    let one = ap (λ (m : ℕ). bit_at m (7 - k)) (mask k h) ∙ bit_at-pow_same (7 - k) in
    let small = bit_at-lt byte (7 - k) in
    let bits = bit_at_xor byte (128 / 2 ^ k) (7 - k) in
    omega (arith, bits, one)

-- and any other
flipped_other : (byte k j : ℕ) → k < 8 → j < 8 → j ≢ k → byte_bit (bit_xor byte (128 / 2 ^ k)) j ≡ byte_bit byte j
flipped_other byte k j h hj apart =
    let differ : 7 - j ≢ 7 - k = omega arith in
    let none = ap (λ (m : ℕ). bit_at m (7 - j)) (mask k h) ∙ bit_at-pow_other (7 - k) (7 - j) differ in
    let small = bit_at-lt byte (7 - j) in
    let bits = bit_at_xor byte (128 / 2 ^ k) (7 - j) in
    omega (arith, bits, none)

-- a line with one of its bits inverted
module _ (frame : List ℕ) (at : ℕ) (h : at < 256) (long : length frame ≡ 32) where
  abbrev turned : ℕ
  turned = bit_xor (slice_index frame (at / 8)) (128 / 2 ^ (at % 8))

  abbrev line : List ℕ
  line = slice_set frame (at / 8) turned

  here : line_bit line at ≡ 1 - line_bit frame at
  here = ap (λ (byte : ℕ). byte_bit byte (at % 8)) (get_or-set_same frame (at / 8) turned 0 (omega arith)) ∙ flipped_same (slice_index frame (at / 8)) (at % 8) (omega arith)

  same_byte : (i : ℕ) → i ≢ at → i / 8 ≡ at / 8 → line_bit line i ≡ line_bit frame i
  same_byte i apart e =
      let differ : i % 8 ≢ at % 8 = omega arith in
      ap (λ (k : ℕ). byte_bit (slice_index line k) (i % 8)) e
      ∙ ap (λ (byte : ℕ). byte_bit byte (i % 8)) (get_or-set_same frame (at / 8) turned 0 (omega arith))
      ∙ flipped_other (slice_index frame (at / 8)) (at % 8) (i % 8) (omega arith) (omega arith) differ
      ∙ ap (λ (k : ℕ). byte_bit (slice_index frame k) (i % 8)) (sym e)

  other_byte : (i : ℕ) → i / 8 ≢ at / 8 → line_bit line i ≡ line_bit frame i
  other_byte i apart = ap (λ (byte : ℕ). byte_bit byte (i % 8)) (get_or-set_other frame (at / 8) (i / 8) turned 0 apart)

  there : (i : ℕ) → i ≢ at → line_bit line i ≡ line_bit frame i
  there i apart = grind (arith, same_byte i apart, other_byte i)

  abbrev bits : List ℕ
  bits = line_bits 256 frame

  each : (i : ℕ) → i < 256 → slice_index (slice_set bits at (1 - slice_index bits at)) i ≡ line_bit line i
  each i hi = grind (arith, at_it, off_it)
    where
      value : slice_index bits at ≡ line_bit frame at
      value = line_bits_at 256 frame at h

      inside : at < length bits
      inside = omega (arith, length-line_bits 256 frame)

      at_it : i ≡ at → slice_index (slice_set bits at (1 - slice_index bits at)) i ≡ line_bit line i
      at_it e =
          ap (λ (k : ℕ). slice_index (slice_set bits at (1 - slice_index bits at)) k) e
          ∙ get_or-set_same bits at (1 - slice_index bits at) 0 inside
          ∙ ap (λ (b : ℕ). 1 - b) value ∙ sym here ∙ ap (λ (k : ℕ). line_bit line k) (sym e)

      off_it : i ≢ at → slice_index (slice_set bits at (1 - slice_index bits at)) i ≡ line_bit line i
      off_it apart = get_or-set_other bits at i (1 - slice_index bits at) 0 apart ∙ line_bits_at 256 frame i hi ∙ sym (there i apart)

  pub flipped_line : line_bits 256 line ≡ slice_set bits at (1 - slice_index bits at)
  flipped_line = sym (fill_by_all (line_bit line) (slice_set bits at (1 - slice_index bits at)) 256 0 (length-set bits at (1 - slice_index bits at) ∙ length-line_bits 256 frame) each)

-- past its end nothing is inverted
pub flipped_past : (frame : List ℕ) (at bit : ℕ) → 256 ≤ at → line_bits 256 frame ≡ slice_set (line_bits 256 frame) at bit
flipped_past frame at bit h = sym (set_past (line_bits 256 frame) at bit (omega (arith, length-line_bits 256 frame)))
