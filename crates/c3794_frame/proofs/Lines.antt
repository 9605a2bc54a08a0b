-- The bits of a line by the bytes that they stand in.
use Rattle.std.proofs.Common.{◌≡◌, ℕ, ◌+◌, ◌-◌, ◌*◌, ◌/◌, ◌%◌, ◌^◌, ◌<◌, ◌≤◌, List, [], ◌∷◌, take, map, length, get_or, arith, ap, sym, ◌∙◌, inl, inr, lit<, refl}
use Rattle.std.specs.Int.{bit_at}
use Rattle.std.specs.List.{range_with_len}
use Rattle.std.proofs.lemmas.Bool.{cases_lt}
use Rattle.std.proofs.lemmas.List.{ext_get_or, get_or-take, length-take-le}
use Rattle.std.proofs.lemmas.List.FromFn.{length-map-range_with_len, get_or-map-range_with_len}
use Rattle.std.proofs.lemmas.Nat.Bits.{bit_at_cat_high, bit_at_cat_low}
use Rattle.ld_base.specs.Bits.{byte_bit}
use Rattle.c3794_frame.specs.FrameOf.{count_of, data_bit, header_of}
use Rattle.c3794_frame.specs.Nibble.{IsLineByte}
use Rattle.c3794_frame.specs.Numbers.{bits_of, number, number_bits}
use Rattle.c3794_frame.specs.Reading.{data_byte}
use Rattle.c3794_frame.proofs.Numbers.{bits_of_at, get_or-number_bits, length-bits_of, length-number_bits, number-number_bits}

-- a bit of 32 bytes is a bit of the byte that it stands in
pub bit_in : (bytes : List ℕ) (i a r : ℕ) → length bytes ≡ 32 → i ≡ 8 * a + r → r < 8 → a < 32
    → get_or (bits_of bytes) i 0 ≡ byte_bit (get_or bytes a 0) r
bit_in bytes i a r long e within inside =
    let quotient : i / 8 ≡ a = omega arith in
    let rest : i % 8 ≡ r = omega arith in
    bits_of_at bytes i (omega arith) ∙ ap (λ q. byte_bit (get_or bytes q 0) (i % 8)) quotient
    ∙ ap (byte_bit (get_or bytes a 0)) rest

-- a data bit by the nibble that it belongs to
pub data_bit_of : (bytes : List ℕ) (k a j nibble : ℕ) → length bytes ≡ 32 → k + 8 ≡ 4 * a + j → j < 4 → k < 120
    → IsLineByte (get_or bytes a 0) nibble
    → data_bit (bits_of bytes) k ≡ bit_at nibble (3 - j)
data_bit_of bytes k a j nibble long e within few line = bit_in bytes (16 + 2 * k) a (2 * j) long (omega arith) (omega arith) (omega arith) ∙ line.data_bits j within

-- the two bits of a pair differ
pub complement_of : (bytes : List ℕ) (k a j nibble : ℕ) → length bytes ≡ 32 → k + 8 ≡ 4 * a + j → j < 4 → k < 120
    → IsLineByte (get_or bytes a 0) nibble
    → data_bit (bits_of bytes) k + get_or (bits_of bytes) (17 + 2 * k) 0 ≡ 1
complement_of bytes k a j nibble long e within few line =
    let first = bit_in bytes (16 + 2 * k) a (2 * j) long (omega arith) (omega arith) (omega arith) in
    let second = bit_in bytes (17 + 2 * k) a (2 * j + 1) long (omega arith) (omega arith) (omega arith) in
    let pair = line.complements j within in
    omega arith

-- bits that are those of a number make it
pub number_of : (bits : List ℕ) (k n : ℕ) → length bits ≡ k → ((i : ℕ) → i < k → get_or bits i 0 ≡ bit_at n (k - 1 - i))
    → number bits ≡ n % 2 ^ k
number_of bits k n long same =
    ap number (ext_get_or 0 bits (number_bits k n) (long ∙ sym (length-number_bits k n)) (λ i below. same i (omega arith) ∙ sym (get_or-number_bits k n i (omega arith))))
    ∙ number-number_bits k n

-- a bit of the first of two bytes
pub high_bit : (high low i : ℕ) → low < 256 → i < 8 → byte_bit high i ≡ bit_at (high * 256 + low) (16 - 1 - i)
high_bit high low i small below =
    let e : 16 - 1 - i - 8 ≡ 7 - i = omega arith in
    ap (bit_at high) (sym e) ∙ sym (bit_at_cat_high high 8 low (16 - 1 - i) small (omega arith))

-- a bit of the second
pub low_bit : (high low i : ℕ) → 8 ≤ i → i < 16 → byte_bit low (i - 8) ≡ bit_at (high * 256 + low) (16 - 1 - i)
low_bit high low i from below =
    let e : 16 - 1 - i ≡ 7 - (i - 8) = omega arith in
    ap (bit_at low) (sym e) ∙ sym (bit_at_cat_low high 8 low (16 - 1 - i) (omega arith))

-- the number of the header by its two bytes
pub header_is : (bytes : List ℕ) → length bytes ≡ 32 → get_or bytes 0 0 < 256 → get_or bytes 1 0 < 256
    → header_of (bits_of bytes) ≡ get_or bytes 0 0 * 256 + get_or bytes 1 0
header_is bytes long first second =
    let whole : length (bits_of bytes) ≡ 256 = length-bits_of bytes ∙ ap (λ n. 8 * n) long in
    let n : ℕ = get_or bytes 0 0 * 256 + get_or bytes 1 0 in
    let same : (i : ℕ) → i < 16 → get_or (take 16 (bits_of bytes)) i 0 ≡ bit_at n (16 - 1 - i) =
    λ i below. get_or-take 16 (bits_of bytes) i 0 below ∙ elim (cases_lt i 8) [
      | inl near ↦ bit_in bytes i 0 i long (omega arith) near (lit< tt) ∙ high_bit _ _ i second near
      | inr far ↦ bit_in bytes i 1 (i - 8) long (omega arith) (omega arith) (lit< tt) ∙ low_bit (get_or bytes 0 0) _ i far below
    ] in
    let small : n % 2 ^ 16 ≡ n = omega arith in
    number_of (take 16 (bits_of bytes)) 16 n (length-take-le 16 (bits_of bytes) (omega arith)) same ∙ small

-- the number of four bits of a nibble
four_bits : (n a b c d : ℕ) → n < 16 → a ≡ bit_at n 3 → b ≡ bit_at n 2 → c ≡ bit_at n 1 → d ≡ bit_at n 0
    → number (a ∷ b ∷ c ∷ d ∷ []) ≡ n
four_bits n a b c d small ea eb ec ed =
    let e : n % 2 ^ 4 ≡ n = omega arith in
    rw (ea, eb, ec, ed) (number-number_bits 4 n ∙ e)

-- the count by its line byte
pub count_is : (bytes : List ℕ) (n : ℕ) → length bytes ≡ 32 → IsLineByte (get_or bytes 2 0) n → count_of (bits_of bytes) ≡ n
count_is bytes n long line =
    four_bits n _ _ _ _ line.small (data_bit_of bytes 0 2 0 n long refl (lit< tt) (lit< tt) line) (data_bit_of bytes 1 2 1 n long refl (lit< tt) (lit< tt) line)
    (data_bit_of bytes 2 2 2 n long refl (lit< tt) (lit< tt) line) (data_bit_of bytes 3 2 3 n long refl (lit< tt) (lit< tt) line)

-- a bit of a byte by its first nibble
pub first_bit : (high low i : ℕ) → low < 16 → i < 4 → bit_at high (3 - i) ≡ bit_at (high * 16 + low) (8 - 1 - i)
first_bit high low i small below =
    let e : 8 - 1 - i - 4 ≡ 3 - i = omega arith in
    ap (bit_at high) (sym e) ∙ sym (bit_at_cat_high high 4 low (8 - 1 - i) small (omega arith))

-- a bit of a byte by its second nibble
pub second_bit : (high low i : ℕ) → 4 ≤ i → i < 8 → bit_at low (3 - (i - 4)) ≡ bit_at (high * 16 + low) (8 - 1 - i)
second_bit high low i from below =
    let e : 8 - 1 - i ≡ 3 - (i - 4) = omega arith in
    ap (bit_at low) (sym e) ∙ sym (bit_at_cat_low high 4 low (8 - 1 - i) (omega arith))

-- a byte of payload by its two line bytes
pub data_byte_is : (bytes : List ℕ) (q high low : ℕ) → length bytes ≡ 32 → q < 12 → IsLineByte (get_or bytes (8 + 2 * q) 0) high
    → IsLineByte (get_or bytes (9 + 2 * q) 0) low → data_byte (bits_of bytes) (24 + 8 * q) ≡ high * 16 + low
data_byte_is bytes q high low long within first second =
    let high_small : high < 16 = first.small in
    let low_small : low < 16 = second.small in
    let eight : List ℕ = map (data_bit (bits_of bytes)) (range_with_len (24 + 8 * q) 8) in
    let same : (i : ℕ) → i < 8 → get_or eight i 0 ≡ bit_at (high * 16 + low) (8 - 1 - i) =
    λ i below. get_or-map-range_with_len (data_bit (bits_of bytes)) (24 + 8 * q) 8 i (24 + 8 * q + i) 0 below refl
    ∙ elim (cases_lt i 4) [
      | inl near ↦ data_bit_of bytes (24 + 8 * q + i) (8 + 2 * q) i high long (omega arith) near (omega arith) first ∙ first_bit high low i low_small near
      | inr far ↦ data_bit_of bytes (24 + 8 * q + i) (9 + 2 * q) (i - 4) low long (omega arith) (omega arith) (omega arith) second ∙ second_bit high low i far below
    ] in
    let small : (high * 16 + low) % 2 ^ 8 ≡ high * 16 + low = omega arith in
    number_of eight 8 (high * 16 + low) (length-map-range_with_len (data_bit (bits_of bytes)) (24 + 8 * q) 8) same ∙ small
