-- Numbers and their bits.
use Rattle.std.proofs.Common.{◌≡◌, ℕ, zero, suc, ◌+◌, ◌-◌, ◌*◌, ◌/◌, ◌%◌, ◌^◌, ◌<◌, List, [], ◌∷◌, ◌++◌, length, take, drop, get_or, refl, arith, ap, sym, ◌∙◌, inl, inr, length-append}
use Rattle.std.specs.Int.{bit_at}
use Rattle.std.proofs.lemmas.Bool.{cases_lt}
use Rattle.std.proofs.lemmas.List.{append_assoc, get_or-append_right, get_or-drop, get_or-take, get_or_append_left, get_or_past, length-drop, length-take, length-take-le, take-append-drop}
use Rattle.std.proofs.lemmas.List.FromFn.{length-map-range_with_len, get_or-map-range_with_len}
use Rattle.std.proofs.Math.Nat.{pow-suc}
use Rattle.std.proofs.lemmas.Nat.{div-mul-add, mod-mul-add, mod-pow-add, pow-add}
use Rattle.std.proofs.lemmas.Nat.Bits.{bit_at-lt, bit_at_cat_low, bit_at_cat_high}
use Rattle.ld_base.specs.Bits.{line_bit}
use Rattle.c3794_frame.specs.Numbers.{AreBits, bits_of, number, number_bits}

-- products and sums in the other order
regroup : (x p q n m : ℕ) → x * (p * q) + (n * q + m) ≡ (x * p + n) * q + m
regroup x p q n m = omega arith

-- the number of joined bits
pub number-append : (xs ys : List ℕ) → number (xs ++ ys) ≡ number xs * 2 ^ length ys + number ys
number-append [] ys = omega arith
number-append (x ∷ xs) ys =
    ap (λ k. x * 2 ^ k + number (xs ++ ys)) (length-append xs ys)
    ∙ ap (λ p. x * p + number (xs ++ ys)) (pow-add 2 (length xs) (length ys))
    ∙ ap (λ n. x * (2 ^ length xs * 2 ^ length ys) + n) (number-append xs ys) ∙ regroup x _ _ _ _

-- so many bits are so many
pub length-number_bits : (k n : ℕ) → length (number_bits k n) ≡ k
length-number_bits zero n = refl
length-number_bits (suc k) n = ap suc (length-number_bits k n)

-- the lowest bits of a number make its rest
pub number-number_bits : (k n : ℕ) → number (number_bits k n) ≡ n % 2 ^ k
number-number_bits zero n = omega arith
number-number_bits (suc k) n =
    let more : n % 2 ^ suc k ≡ bit_at n k * 2 ^ k + n % 2 ^ k = ap (λ j. n % 2 ^ j) (omega arith) ∙ mod-pow-add n 1 k in
    ap (λ l. bit_at n k * 2 ^ l + number (number_bits k n)) (length-number_bits k n)
    ∙ ap (λ r. bit_at n k * 2 ^ k + r) (number-number_bits k n) ∙ sym more

-- a bit of a number at its place
pub get_or-number_bits : (k n i : ℕ) → i < k → get_or (number_bits k n) i 0 ≡ bit_at n (k - 1 - i)
get_or-number_bits zero n i within = absurd (omega arith)
get_or-number_bits (suc k) n zero within = ap (bit_at n) (omega arith)
get_or-number_bits (suc k) n (suc i) within = get_or-number_bits k n i (omega arith) ∙ ap (bit_at n) (omega arith)

-- numbers with the same low bits
pub same_number_bits : (k a b : ℕ) → ((i : ℕ) → i < k → bit_at a i ≡ bit_at b i) → number_bits k a ≡ number_bits k b
same_number_bits zero a b same = refl
same_number_bits (suc k) a b same = rw (same k (omega arith), same_number_bits k a b (λ i h. same i (omega arith))) refl

-- bits behind the first are bits
pub rest_bits : (b : ℕ) (bits : List ℕ) → AreBits (b ∷ bits) → AreBits bits
rest_bits b bits are = record { each = λ i. are.each (suc i) }

-- a bit and less than its worth
below_double : (b p r : ℕ) → b < 2 → r < p → b * p + r < p * 2
below_double zero p r bit small = omega arith
below_double (suc zero) p r bit small = omega arith
below_double (suc (suc b)) p r bit small = absurd (omega arith)

-- the lowest bit of a bit
lowest : (b n : ℕ) → b < 2 → bit_at b (n - n) ≡ b
lowest b n bit = let e : n - n ≡ 0 = omega arith in rw e (omega arith)

-- the first of some bits are bits
pub are_take : (n : ℕ) (bits : List ℕ) → AreBits bits → AreBits (take n bits)
are_take n bits are = record {
  each = λ i. elim (cases_lt i (length (take n bits))) [
    | inl within ↦ let below : i < n = omega (arith, length-take n bits) in rw (get_or-take n bits i 0 below) (are.each i)
    | inr past ↦ let none : get_or (take n bits) i 0 ≡ 0 = get_or_past (take n bits) i 0 past in omega arith
  ];
}

-- the bits behind a place are
pub are_drop : (n : ℕ) (bits : List ℕ) → AreBits bits → AreBits (drop n bits)
are_drop n bits are = record { each = λ i. rw (get_or-drop n bits i 0) (are.each (n + i)) }

-- joined bits are
pub are_append : (xs ys : List ℕ) → AreBits xs → AreBits ys → AreBits (xs ++ ys)
are_append xs ys are_x are_y = record {
  each = λ i. elim (cases_lt i (length xs)) [
    | inl near ↦ rw (get_or_append_left xs ys 0 i near) (are_x.each i)
    | inr far ↦ rw (get_or-append_right xs ys (length xs) i 0 refl far) (are_y.each (i - length xs))
  ];
}

-- the number of bits is below the power of their count
pub number-lt : (bits : List ℕ) → AreBits bits → number bits < 2 ^ length bits
number-lt [] are = omega arith
number-lt (b ∷ bits) are =
    let first : b < 2 = are.each 0 in
    let rest : number bits < 2 ^ length bits = number-lt bits (rest_bits b bits are) in
    rw pow-suc (below_double b (2 ^ length bits) (number bits) first rest)

-- the bits of a stretch as a number, by the number of all
pub number-stretch : (bits : List ℕ) (p n k : ℕ) → AreBits bits → p + n + k ≡ length bits
    → number (take n (drop p bits)) ≡ number bits / 2 ^ k % 2 ^ n
number-stretch bits p n k are whole =
    let front : List ℕ = take p bits in
    let middle : List ℕ = take n (drop p bits) in
    let back : List ℕ = drop n (drop p bits) in
    let long : length middle ≡ n = length-take-le n (drop p bits) (omega (arith, length-drop p bits)) in
    let rest : length back ≡ k = length-drop n (drop p bits) ∙ (omega (arith, length-drop p bits)) in
    let parts : bits ≡ (front ++ middle) ++ back =
    sym (append_assoc front middle back ∙ ap (λ t. front ++ t) (take-append-drop n (drop p bits)) ∙ take-append-drop p bits) in
    let low : number back < 2 ^ k = rw rest at (number-lt back (are_drop n (drop p bits) (are_drop p bits are))) in
    let high : number middle < 2 ^ n = rw long at (number-lt middle (are_take n (drop p bits) (are_drop p bits are))) in
    let all : number bits ≡ number (front ++ middle) * 2 ^ k + number back =
    ap number parts ∙ number-append (front ++ middle) back
    ∙ ap (λ j. number (front ++ middle) * 2 ^ j + number back) rest in
    let some : number (front ++ middle) ≡ number front * 2 ^ n + number middle = number-append front middle ∙ ap (λ j. number front * 2 ^ j + number middle) long in
    sym (ap (λ x. x / 2 ^ k % 2 ^ n) all ∙ ap (λ x. x % 2 ^ n) (div-mul-add (number (front ++ middle)) (2 ^ k) (number back) low ∙ some) ∙ mod-mul-add (number front) (2 ^ n) (number middle) high)

-- the bits behind a place as a number, by the number of all
pub number-drop : (bits : List ℕ) (p k : ℕ) → AreBits bits → p + k ≡ length bits → number (drop p bits) ≡ number bits % 2 ^ k
number-drop bits p k are whole =
    let rest : length (drop p bits) ≡ k = length-drop p bits ∙ (omega arith) in
    let low : number (drop p bits) < 2 ^ k = rw rest at (number-lt (drop p bits) (are_drop p bits are)) in
    let all : number bits ≡ number (take p bits) * 2 ^ k + number (drop p bits) =
    ap number (sym (take-append-drop p bits)) ∙ number-append (take p bits) (drop p bits) ∙ ap (λ j. number (take p bits) * 2 ^ j + number (drop p bits)) rest in
    sym (ap (λ x. x % 2 ^ k) all ∙ mod-mul-add (number (take p bits)) (2 ^ k) (number (drop p bits)) low)

-- bits are those of their number
pub number_bits-number : (bits : List ℕ) → AreBits bits → number_bits (length bits) (number bits) ≡ bits
number_bits-number [] are = refl
number_bits-number (b ∷ bits) are =
    let first : b < 2 = are.each 0 in
    let rest = rest_bits b bits are in
    let small = number-lt bits rest in
    let high : bit_at (b * 2 ^ length bits + number bits) (length bits) ≡ b = bit_at_cat_high b (length bits) (number bits) (length bits) small (omega arith) ∙ lowest b (length bits) first in
    let low = same_number_bits (length bits) (b * 2 ^ length bits + number bits) (number bits) (λ i h. bit_at_cat_low b (length bits) (number bits) i h) in
    rw (high, low, number_bits-number bits rest) refl

-- bits of one number are the same
pub same_number : (xs ys : List ℕ) → AreBits xs → AreBits ys → length xs ≡ length ys → number xs ≡ number ys → xs ≡ ys
same_number xs ys are_x are_y long same =
    sym (number_bits-number xs are_x) ∙ ap (λ k. number_bits k (number xs)) long ∙ ap (number_bits (length ys)) same
    ∙ number_bits-number ys are_y

-- the bits of a byte more
pub length-bits_of : (bytes : List ℕ) → length (bits_of bytes) ≡ 8 * length bytes
unfolding bits_of
length-bits_of bytes = length-map-range_with_len (line_bit bytes) 0 (8 * length bytes)

-- a bit of some bytes
pub bits_of_at : (bytes : List ℕ) (i : ℕ) → i < 8 * length bytes → get_or (bits_of bytes) i 0 ≡ line_bit bytes i
unfolding bits_of
bits_of_at bytes i within = get_or-map-range_with_len (line_bit bytes) 0 (8 * length bytes) i i 0 within (omega arith)

-- they are bits
pub are_bits_of : (bytes : List ℕ) → AreBits (bits_of bytes)
are_bits_of bytes = record {
  each = λ i. elim (cases_lt i (8 * length bytes)) [
    | inl within ↦ rw (bits_of_at bytes i within) (bit_at-lt _ _)
    | inr past ↦ let none : get_or (bits_of bytes) i 0 ≡ 0 = get_or_past (bits_of bytes) i 0 (rw (length-bits_of bytes) past) in omega arith
  ];
}
