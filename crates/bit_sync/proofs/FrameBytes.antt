-- The bytes of 256 bits.
use Rattle.std.proofs.Common.{◌≡◌, ℕ, zero, suc, ◌+◌, ◌-◌, ◌*◌, ◌/◌, ◌%◌, ◌^◌, ◌<◌, List, ◌++◌, length, get_or, refl, arith, ap, sym, ◌∙◌, inl, inr, length-append}
use Rattle.std.specs.Int.{bit_at, byte_at, bytes_high_first, to_be_bytes, w128}
use Rattle.std.proofs.Math.Nat.{pow-suc}
use Rattle.std.proofs.lemmas.Bool.{cases_lt}
use Rattle.std.proofs.lemmas.List.{ext_get_or, get_or-append_right, get_or_append_left}
use Rattle.std.proofs.lemmas.Nat.{pow-add, shr-shr}
use Rattle.std.proofs.lemmas.Nat.Bits.{bit_at_cat_low}
use Rattle.ld_base.specs.Bits.{byte_bit}
use Rattle.c3794_frame.specs.Numbers.{bits_of, number, number_bits}
use Rattle.c3794_frame.proofs.Numbers.{bits_of_at, get_or-number_bits, length-bits_of, length-number_bits, number-append, number-number_bits}

-- the bytes of a number are so many
length-bytes_high_first : (k n : ℕ) → length (bytes_high_first k n) ≡ k
length-bytes_high_first zero n = refl
length-bytes_high_first (suc k) n = ap suc (length-bytes_high_first k n)

-- each of them
get_or-bytes_high_first : (k n i : ℕ) → i < k → get_or (bytes_high_first k n) i 0 ≡ byte_at (k - 1 - i) n
get_or-bytes_high_first zero n i below = absurd (omega arith)
get_or-bytes_high_first (suc k) n zero below = ap (λ j. byte_at j n) (omega arith)
get_or-bytes_high_first (suc k) n (suc i) below = get_or-bytes_high_first k n i (omega arith) ∙ ap (λ j. byte_at j n) (omega arith)

-- powers of a byte
pow_256 : (j : ℕ) → 256 ^ j ≡ 2 ^ (8 * j)
pow_256 zero = refl
pow_256 (suc j) =
    let e : 8 * suc j ≡ 8 * j + 8 = omega arith in
    pow-suc 256 j ∙ ap (λ p. p * 256) (pow_256 j) ∙ sym (ap (λ k. 2 ^ k) e ∙ pow-add 2 (8 * j) 8)

-- a byte of a number as its quotient
byte_at_is : (n j : ℕ) → byte_at j n ≡ n / 2 ^ (8 * j) % 256
byte_at_is n zero = ap (λ q. q % 256) (omega arith)
byte_at_is n (suc j) = ap (λ p. n / p % 256) (pow_256 (suc j))

-- a bit of the lowest byte
low_bit : (x t : ℕ) → t < 8 → bit_at (x % 256) t ≡ bit_at x t
low_bit x t below =
    let e : x / 256 * 256 + x % 256 ≡ x = omega arith in
    sym (bit_at_cat_low (x / 256) 8 (x % 256) t below) ∙ ap (λ n. bit_at n t) e

-- a bit of a byte of a number is a bit of the number
bit_of_byte : (n j t : ℕ) → t < 8 → bit_at (byte_at j n) t ≡ bit_at n (8 * j + t)
bit_of_byte n j t below = ap (λ b. bit_at b t) (byte_at_is n j) ∙ low_bit (n / 2 ^ (8 * j)) t below ∙ ap (λ q. q % 2) (shr-shr n (8 * j) t)

-- the bits of the bytes of a number are its bits
bits_of_bytes : (k n : ℕ) → bits_of (bytes_high_first k n) ≡ number_bits (8 * k) n
bits_of_bytes k n =
    let long = length-bytes_high_first k n in
    let size : length (bits_of (bytes_high_first k n)) ≡ 8 * k = length-bits_of (bytes_high_first k n) ∙ ap (λ m. 8 * m) long in
    ext_get_or 0 (bits_of (bytes_high_first k n)) (number_bits (8 * k) n) (size ∙ sym (length-number_bits (8 * k) n)) (λ i below.
    let within : i < 8 * k = omega arith in
    let place : 8 * (k - 1 - i / 8) + (7 - i % 8) ≡ 8 * k - 1 - i = omega arith in
    bits_of_at (bytes_high_first k n) i (omega arith)
    ∙ ap (λ b. byte_bit b (i % 8)) (get_or-bytes_high_first k n (i / 8) (omega arith))
    ∙ bit_of_byte n (k - 1 - i / 8) (7 - i % 8) (omega arith) ∙ ap (bit_at n) place
    ∙ sym (get_or-number_bits (8 * k) n i within))

-- the bits of joined bytes
bits_of-append : (xs ys : List ℕ) → bits_of (xs ++ ys) ≡ bits_of xs ++ bits_of ys
bits_of-append xs ys =
    let long = length-append xs ys in
    let size_x = length-bits_of xs in
    let size_y = length-bits_of ys in
    let size = length-bits_of (xs ++ ys) in
    ext_get_or 0 (bits_of (xs ++ ys)) (bits_of xs ++ bits_of ys) (omega (arith, length-append (bits_of xs) (bits_of ys))) (λ i below. elim (cases_lt i (8 * length xs)) [
      | inl near ↦
          bits_of_at (xs ++ ys) i (omega arith) ∙ ap (λ b. byte_bit b (i % 8)) (get_or_append_left xs ys 0 (i / 8) (omega arith))
          ∙ sym (get_or_append_left (bits_of xs) (bits_of ys) 0 i (omega arith) ∙ bits_of_at xs i near)
      | inr far ↦
          let quotient : i / 8 - length xs ≡ (i - 8 * length xs) / 8 = omega arith in
          let rest : i % 8 ≡ (i - 8 * length xs) % 8 = omega arith in
          let right = get_or-append_right xs ys (length xs) (i / 8) 0 refl (omega arith) ∙ ap (λ q. get_or ys q 0) quotient in
          bits_of_at (xs ++ ys) i (omega arith) ∙ ap (λ b. byte_bit b (i % 8)) right
          ∙ ap (byte_bit (get_or ys ((i - 8 * length xs) / 8) 0)) rest
          ∙ sym (get_or-append_right (bits_of xs) (bits_of ys) (8 * length xs) i 0 size_x far ∙ bits_of_at ys (i - 8 * length xs) (omega arith))
    ])

-- the bits of the bytes of a word make it
word_bytes : (n : ℕ) → n < 2 ^ 128 → number (bits_of (to_be_bytes w128 n)) ≡ n
word_bytes n small =
    let within : n % 2 ^ 128 ≡ n = omega arith in
    ap number (bits_of_bytes 16 n) ∙ number-number_bits 128 n ∙ within

-- the number of 32 bytes by their halves
pub two_words : (high low : ℕ) (xs ys bytes : List ℕ) → high < 2 ^ 128 → low < 2 ^ 128 → xs ≡ to_be_bytes w128 high
    → ys ≡ to_be_bytes w128 low → bytes ≡ xs ++ ys
    → (number (bits_of bytes) ≡ high * 2 ^ 128 + low) × (length bytes ≡ 32)
two_words high low xs ys bytes high_fits low_fits first second both =
    let size : length (bits_of (to_be_bytes w128 low)) ≡ 128 = length-bits_of (to_be_bytes w128 low) in
    let bits : bits_of bytes ≡ bits_of (to_be_bytes w128 high) ++ bits_of (to_be_bytes w128 low) =
    ap bits_of both ∙ bits_of-append xs ys ∙ ap (λ t. bits_of t ++ bits_of ys) first ∙ ap (λ t. bits_of (to_be_bytes w128 high) ++ bits_of t) second in
    let long : length bytes ≡ 32 = ap length both ∙ length-append xs ys ∙ ap (λ t. length t + length ys) first ∙ ap (λ t. 16 + length t) second in (
      ap number bits ∙ number-append (bits_of (to_be_bytes w128 high)) (bits_of (to_be_bytes w128 low))
          ∙ ap (λ k. number (bits_of (to_be_bytes w128 high)) * 2 ^ k + number (bits_of (to_be_bytes w128 low))) size
          ∙ ap (λ n. n * 2 ^ 128 + number (bits_of (to_be_bytes w128 low))) (word_bytes high high_fits)
          ∙ ap (λ n. high * 2 ^ 128 + n) (word_bytes low low_fits),
      long,
    )
