-- Eight bytes of a frame as a word, and the pairs of its bits.
use Rattle.std.proofs.Common.{◌≡◌, ◌≢◌, ℕ, zero, suc, ◌+◌, ◌-◌, ◌*◌, ◌/◌, ◌%◌, ◌^◌, ◌<◌, ◌≤◌, true, ◌&&◌, eqb, List, length, get_or, bit_and, bit_xor, min, Some, refl, arith, ap, sym, ◌∙◌, inl, inr}
use Rattle.std.specs.Int.{bit_at, w64}
use Rattle.std.specs.Int.Count.{count_leading_zeros}
use Rattle.std.proofs.Math.Nat.{pow-suc}
use Rattle.std.proofs.lemmas.Bool.{cases_lt, eqb-true}
use Rattle.std.proofs.lemmas.Nat.{leading_top, xor_lt}
use Rattle.std.proofs.lemmas.Nat.Bits.{bit_at-lt, bit_at-zero, bit_at_above, bit_at_and, bit_at_cat_high, bit_at_cat_low, bit_at_not, bit_at_xor}
use Rattle.ld_base.specs.Bits.{byte_bit, line_bit}
use Rattle.c3794_frame.specs.FrameOf.{data_bit}
use Rattle.c3794_frame.specs.Nibble.{AreEqualPairs}
use Rattle.c3794_frame.specs.Numbers.{bits_of}
use Rattle.c3794_frame.specs.Reading.{broken_pair}
use Rattle.c3794_frame.proofs.Numbers.{bits_of_at}
use Rattle.c3794_frame.proofs.Pairs.{first_broken_pair}
use Rattle.c3794_frame.proofs.Tables.{at_below, both, each_below}

-- so many bytes from a place on as one number
joined : List ℕ → ℕ → ℕ → ℕ
joined bytes from zero = 0
joined bytes from (suc count) = joined bytes from count * 256 + get_or bytes (from + count) 0

-- a bit of it
joined_bit : (bytes : List ℕ) (from count i : ℕ) → ((k : ℕ) → get_or bytes k 0 < 256) → i < 8 * count
    → bit_at (joined bytes from count) (8 * count - 1 - i) ≡ line_bit bytes (8 * from + i)
unfolding joined
joined_bit bytes from zero i fits below = absurd (omega arith)
joined_bit bytes from (suc count) i fits below =
    elim (cases_lt i (8 * count)) [
      | inl near ↦
          let e : 8 * suc count - 1 - i - 8 ≡ 8 * count - 1 - i = omega arith in
          bit_at_cat_high (joined bytes from count) 8 (get_or bytes (from + count) 0) (8 * suc count - 1 - i) (fits (from + count)) (omega arith)
          ∙ ap (bit_at (joined bytes from count)) e ∙ joined_bit bytes from count i fits near
      | inr far ↦
          let quotient : (8 * from + i) / 8 ≡ from + count = omega arith in
          let rest : (8 * from + i) % 8 ≡ i - 8 * count = omega arith in
          let e : 8 * suc count - 1 - i ≡ 7 - (i - 8 * count) = omega arith in
          bit_at_cat_low (joined bytes from count) 8 (get_or bytes (from + count) 0) (8 * suc count - 1 - i) (omega arith)
          ∙ ap (bit_at (get_or bytes (from + count) 0)) e
          ∙ sym (ap (λ k. byte_bit (get_or bytes k 0) ((8 * from + i) % 8)) quotient ∙ ap (byte_bit (get_or bytes (from + count) 0)) rest)
    ]

-- a bit of eight bytes
pub word_bit : (bytes : List ℕ) (from n i : ℕ) → ((k : ℕ) → get_or bytes k 0 < 256)
    → n ≡ get_or bytes from 0 * 72057594037927936 + get_or bytes (from + 1) 0 * 281474976710656 + get_or bytes (from + 2) 0 * 1099511627776 + get_or bytes (from + 3) 0 * 4294967296
    + get_or bytes (from + 4) 0 * 16777216 + get_or bytes (from + 5) 0 * 65536 + get_or bytes (from + 6) 0 * 256 + get_or bytes (from + 7) 0
    → i < 64 → bit_at n (63 - i) ≡ line_bit bytes (8 * from + i)
unfolding joined
word_bit bytes from n i fits is below =
    let first : get_or bytes (from + 0) 0 ≡ get_or bytes from 0 = ap (λ k. get_or bytes k 0) (omega arith) in
    let all : n ≡ joined bytes from 8 = omega (arith, is, first) in
    ap (λ m. bit_at m (63 - i)) all ∙ joined_bit bytes from 8 i fits below

-- the mask has the first bits of the pairs, and not the second
mask_bits : each_below (λ j. eqb (bit_at 12297829382473034410 (63 - 2 * j)) 1 && eqb (bit_at 12297829382473034410 (62 - 2 * j)) 0) 32 ≡ true
unfolding each_below
mask_bits = refl

mask_bit : (j : ℕ) → j < 32 → (bit_at 12297829382473034410 (63 - 2 * j) ≡ 1) × (bit_at 12297829382473034410 (62 - 2 * j) ≡ 0)
mask_bit j below = let tests = both _ _ (at_below _ 32 j mask_bits below) in (eqb-true _ _ tests.0, eqb-true _ _ tests.1)

-- a bit of the double of a word
doubled_bit : (word k : ℕ) → k < 63 → bit_at (word * 2 % 2 ^ 64) (k + 1) ≡ bit_at word k
doubled_bit word k below =
    let split : word * 2 / 2 ^ 64 * 2 ^ 64 + word * 2 % 2 ^ 64 ≡ word * 2 = omega arith in
    let twice : word * 2 ^ 1 + 0 ≡ word * 2 = omega arith in
    let e : k + 1 - 1 ≡ k = omega arith in
    sym (bit_at_cat_low (word * 2 / 2 ^ 64) 64 (word * 2 % 2 ^ 64) (k + 1) (omega arith)) ∙ ap (λ n. bit_at n (k + 1)) (split ∙ sym twice)
    ∙ bit_at_cat_high word 1 0 (k + 1) (omega arith) (omega arith) ∙ ap (bit_at word) e

-- whether a bit equals the one behind it
equal_bit : (word k : ℕ) → word < 2 ^ 64 → k < 63
    → bit_at (18446744073709551615 - bit_xor word (word * 2 % 2 ^ 64)) (k + 1) ≡ 1 - (bit_at word (k + 1) + bit_at word k) % 2
equal_bit word k fits below =
    let small : word * 2 % 2 ^ 64 < 2 ^ 64 = omega arith in
    bit_at_not w64 (bit_xor word (word * 2 % 2 ^ 64)) (k + 1) (xor_lt 64 word _ fits small) (omega arith)
    ∙ ap (λ b. 1 - b) (bit_at_xor word (word * 2 % 2 ^ 64) (k + 1) ∙ ap (λ b. (bit_at word (k + 1) + b) % 2) (doubled_bit word k below))

-- less than two, and one
below_one : (b : ℕ) → b < 2 → min b 1 ≡ b
below_one zero h = refl
below_one (suc zero) h = refl
below_one (suc (suc b)) h = absurd (omega arith)

-- and zero
below_zero : (b : ℕ) → b < 2 → min b 0 ≡ 0
below_zero zero h = refl
below_zero (suc zero) h = refl
below_zero (suc (suc b)) h = absurd (omega arith)

-- what the code computes
pub are_equal_pairs : (word equal : ℕ) → word < 2 ^ 64 → equal < 2 ^ 64
    → equal ≡ bit_and (18446744073709551615 - bit_xor word (word * 2 % 18446744073709551616)) 12297829382473034410 → AreEqualPairs word equal
are_equal_pairs word equal fits small is =
    let n : ℕ = 18446744073709551615 - bit_xor word (word * 2 % 18446744073709551616) in
    record {
      small = small;
      first = λ j below.
          let e : 62 - 2 * j + 1 ≡ 63 - 2 * j = omega arith in
          let bit : bit_at n (63 - 2 * j) ≡ 1 - (bit_at word (63 - 2 * j) + bit_at word (62 - 2 * j)) % 2 = rw e at (equal_bit word (62 - 2 * j) fits (omega arith)) in
          ap (λ m. bit_at m (63 - 2 * j)) is ∙ bit_at_and n 12297829382473034410 (63 - 2 * j)
          ∙ ap (λ b. min (bit_at n (63 - 2 * j)) b) (mask_bit j below).0 ∙ below_one _ (bit_at-lt n (63 - 2 * j)) ∙ bit;
      second = λ j below.
          ap (λ m. bit_at m (62 - 2 * j)) is ∙ bit_at_and n 12297829382473034410 (62 - 2 * j)
          ∙ ap (λ b. min (bit_at n (62 - 2 * j)) b) (mask_bit j below).1 ∙ below_zero _ (bit_at-lt n (62 - 2 * j));
    }

-- the bits of each of the first pairs are complements
pub record AreWhole (n : ℕ) (bits : List ℕ) : Type 0 where
  pub each : (k : ℕ) → k < 120 → k < n → data_bit bits k + get_or bits (17 + 2 * k) 0 ≡ 1

-- two bits by whether they are equal
complements : (a b : ℕ) → a < 2 → b < 2 → 1 - (a + b) % 2 ≡ 0 → a + b ≡ 1
complements a b ha hb h = omega arith

-- a word of a frame: its bits, and the number of its equal pairs
pub record IsWord (bytes : List ℕ) (from word equal : ℕ) : Type 0 where
  pub long : length bytes ≡ 32
  pub within : from + 8 ≤ 32
  pub behind : 2 ≤ from
  pub bits : (i : ℕ) → i < 64 → bit_at word (63 - i) ≡ line_bit bytes (8 * from + i)
  pub equals : AreEqualPairs word equal

-- the word of a turn
pub turn_word : (bytes : List ℕ) (k from place word equal : ℕ) → length bytes ≡ 32 → from ≡ min (2 + 8 * k) 24 → place ≡ from
    → ((i : ℕ) → i < 64 → bit_at word (63 - i) ≡ line_bit bytes (8 * place + i)) → AreEqualPairs word equal → IsWord bytes from word equal
turn_word bytes k from place word equal long is same bits equals = record {
  long = long;
  within = omega (arith, is);
  behind = omega (arith, is);
  bits = λ i below. bits i below ∙ ap (λ n. line_bit bytes (8 * n + i)) same;
  equals = equals;
}

-- the first bit of a pair of the word
first_bit : (bytes : List ℕ) (from word equal k j : ℕ) → IsWord bytes from word equal → k + 8 ≡ 4 * from + j → j < 32
    → data_bit (bits_of bytes) k ≡ bit_at word (63 - 2 * j)
first_bit bytes from word equal k j w place below =
    let e : 16 + 2 * k ≡ 8 * from + 2 * j = omega arith in
    bits_of_at bytes (16 + 2 * k) (omega (arith, w.long, w.within)) ∙ ap (line_bit bytes) e ∙ sym (w.bits (2 * j) (omega arith))

-- the second
second_bit : (bytes : List ℕ) (from word equal k j : ℕ) → IsWord bytes from word equal → k + 8 ≡ 4 * from + j → j < 32
    → get_or (bits_of bytes) (17 + 2 * k) 0 ≡ bit_at word (62 - 2 * j)
second_bit bytes from word equal k j w place below =
    let e : 17 + 2 * k ≡ 8 * from + (2 * j + 1) = omega arith in
    let e' : 63 - (2 * j + 1) ≡ 62 - 2 * j = omega arith in
    bits_of_at bytes (17 + 2 * k) (omega (arith, w.long, w.within)) ∙ ap (line_bit bytes) e ∙ sym (w.bits (2 * j + 1) (omega arith)) ∙ ap (bit_at word) e'

-- a pair of the word whose bits aren't equal
whole_pair : (bytes : List ℕ) (from word equal k j : ℕ) → IsWord bytes from word equal → k + 8 ≡ 4 * from + j → j < 32
    → bit_at equal (63 - 2 * j) ≡ 0 → data_bit (bits_of bytes) k + get_or (bits_of bytes) (17 + 2 * k) 0 ≡ 1
whole_pair bytes from word equal k j w place below none =
    let both : bit_at word (63 - 2 * j) + bit_at word (62 - 2 * j) ≡ 1 =
    complements _ _ (bit_at-lt word (63 - 2 * j)) (bit_at-lt word (62 - 2 * j)) (sym (w.equals.first j below) ∙ none) in
    omega (arith, both, first_bit bytes from word equal k j w place below, second_bit bytes from word equal k j w place below)

-- the pairs up to the end of the word are whole where none of it is equal
pub whole_word : (bytes : List ℕ) (from word equal n m : ℕ) → IsWord bytes from word equal → AreWhole n (bits_of bytes) → equal ≡ 0
    → 4 * from ≤ n + 8 → ((k : ℕ) → k < 120 → k < m → k < 4 * from + 24) → AreWhole m (bits_of bytes)
whole_word bytes from word equal n m w whole none near far = record {
  each = λ k within below. elim (cases_lt k n) [
    | inl before ↦ whole.each k within before
    | inr after ↦
        let place : k + 8 ≡ 4 * from + (k + 8 - 4 * from) = omega (arith, w.behind) in
        whole_pair bytes from word equal k (k + 8 - 4 * from) w place (omega (arith, far k within below)) (ap (λ x. bit_at x (63 - 2 * (k + 8 - 4 * from))) none ∙ bit_at-zero _)
  ];
}

-- two bits that are equal
alike : (a b : ℕ) → a < 2 → b < 2 → 1 - (a + b) % 2 ≡ 1 → a ≡ b
alike a b ha hb h = omega arith

-- the highest one of a number is a one
top_bit : (n t : ℕ) → 2 ^ t ≤ n → n < 2 ^ suc t → bit_at n t ≡ 1
top_bit n t from below =
    let twice : 2 ^ suc t ≡ 2 ^ t * 2 = pow-suc 2 t in
    let rest : n - 2 ^ t < 2 ^ t = omega (arith, below, twice) in
    let split : n ≡ 1 * 2 ^ t + (n - 2 ^ t) = omega (arith, from) in
    let none : t - t ≡ 0 = omega arith in
    ap (λ m. bit_at m t) split ∙ bit_at_cat_high 1 t (n - 2 ^ t) t rest (omega arith) ∙ ap (bit_at 1) none

-- the highest one of the equal pairs is the first bit of a pair
top_is_first : (word equal t : ℕ) → AreEqualPairs word equal → t < 64 → bit_at equal t ≡ 1 → t ≡ 63 - 2 * ((63 - t) / 2)
top_is_first word equal t equals below one =
    elim (cases_lt (t % 2) 1) [
      | inl even ↦
          let e : 62 - 2 * ((62 - t) / 2) ≡ t = omega arith in
          let none : bit_at equal t ≡ 0 = rw e at (equals.second ((62 - t) / 2) (omega arith)) in
          absurd (omega (arith, one, none))
      | inr odd ↦ omega arith
    ]

-- where some of it are equal, the first one is the first broken pair
pub first_in_word : (bytes : List ℕ) (from word equal n : ℕ) → IsWord bytes from word equal → AreWhole n (bits_of bytes) → equal ≢ 0
    → 4 * from ≤ n + 8 → broken_pair (bits_of bytes) ≡ Some (8 * from + count_leading_zeros 64 equal)
first_in_word bytes from word equal n w whole some near =
    let top = leading_top 64 equal (omega (arith, some)) w.equals.small in
    let t : ℕ = top.0 in
    let zeros : count_leading_zeros 64 equal + suc t ≡ 64 = top.1 in
    let one : bit_at equal t ≡ 1 = top_bit equal t top.2 top.3 in
    let j : ℕ = (63 - t) / 2 in
    let at : t ≡ 63 - 2 * j = top_is_first word equal t w.equals (omega (arith, zeros)) one in
    let below : j < 32 = omega arith in
    let k : ℕ = 4 * from + j - 8 in
    let place : k + 8 ≡ 4 * from + j = omega (arith, w.behind) in
    let same : bit_at word (63 - 2 * j) ≡ bit_at word (62 - 2 * j) =
    alike _ _ (bit_at-lt word (63 - 2 * j)) (bit_at-lt word (62 - 2 * j)) (sym (w.equals.first j below) ∙ ap (bit_at equal) (sym at) ∙ one) in
    let equals : data_bit (bits_of bytes) k ≡ get_or (bits_of bytes) (17 + 2 * k) 0 =
    first_bit bytes from word equal k j w place below ∙ same ∙ sym (second_bit bytes from word equal k j w place below) in
    let before : (i : ℕ) → i < k → data_bit (bits_of bytes) i + get_or (bits_of bytes) (17 + 2 * i) 0 ≡ 1 = λ i less. elim (cases_lt i n) [
      | inl old ↦ whole.each i (omega (arith, less, place, below, w.within)) old
      | inr new ↦
          let here : i + 8 ≡ 4 * from + (i + 8 - 4 * from) = omega (arith, near, new) in
          whole_pair bytes from word equal i (i + 8 - 4 * from) w here (omega (arith, less, place, below))
          (bit_at_above equal (suc t) (63 - 2 * (i + 8 - 4 * from)) top.3 (omega (arith, less, place, at, near, new)))
    ] in
    first_broken_pair (bits_of bytes) k (omega (arith, place, below, w.within)) equals before
    ∙ ap Some (omega (arith, place, zeros, at, w.behind))
