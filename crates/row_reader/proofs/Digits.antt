-- Reading a text of decimal digits from its front.
use Rattle.std.proofs.Common.{◌≡◌, ◌≢◌, true, false, ℕ, ◌-◌, ◌^◌, ◌<◌, ◌≤◌, pos, ◌-ℤ◌, to_z, of_z, w64, List, [], ◌∷◌, length, take, drop, get_or, Some, None, arith, zero, suc}
use Rattle.std.proofs.Math.Nat.{pow-le-pow_right}
use Rattle.std.proofs.lemmas.Bool.Decides.{nat_tests}
use Rattle.std.proofs.lemmas.Int.{ints}
use Rattle.std.proofs.lemmas.Int.Digits.{digits_value-lt}
use Rattle.std.proofs.lemmas.List.{length-take, take_all}
use Rattle.std.proofs.lemmas.Str.Parse.{IsNumeralModel, digits_value_short, numerals_by_value, tells_all_ascii_digits}
use Rattle.std.specs.Char.{is_ascii_digit}
use Rattle.std.specs.Str.{all_ascii_digits}
use Rattle.std.specs.Str.Parse.{AllDigits, digits_value}
use Rattle.row_reader.specs.Numbers.{digits, number}

-- digits, as `all_ascii_digits` tells them
told : IsNumeralModel (λ ds. all_ascii_digits ds ≡ true) (digits_value 10)
told = numerals_by_value _ tells_all_ascii_digits

-- a text with a byte that is no digit is not all digits
all_but : (text : List ℕ) (i : ℕ) → i < length text → is_ascii_digit (get_or text i 0) ≡ false → all_ascii_digits text ≡ false
all_but [] i inside other = absurd (omega arith)
all_but (c ∷ cs) zero inside other = grind arith
all_but (c ∷ cs) (suc i) inside other = let rest : all_ascii_digits cs ≡ false = all_but cs i (omega arith) other in grind arith

-- a text with such a byte has no value
pub digits_other : (text : List ℕ) (i : ℕ) → i < length text → is_ascii_digit (get_or text i 0) ≡ false → digits text ≡ None
digits_other text i inside other = let e : all_ascii_digits text ≡ false = all_but text i inside other in grind (arith, nat_tests)

-- a text of 1 to 18 digits that is read to its end has their value
pub digits_all : (text : List ℕ) (i : ℕ) → 1 ≤ length text → length text ≤ 18 → length text ≤ i → AllDigits 10 (take i text)
    → digits text ≡ Some (digits_value 10 (take i text))
digits_all text i some few ended all =
    let whole : take i text ≡ text = take_all i text ended in
    let e : all_ascii_digits text ≡ true = told.from text (rw whole at all) in
    rw whole (grind (arith, nat_tests))

-- the digits before the last of 18 are below 10^17
pub digits_front : (text : List ℕ) (i : ℕ) → i < length text → length text ≤ 18 → AllDigits 10 (take i text) → digits_value 10 (take i text) < 10 ^ 17
digits_front text i inside few all =
    let short : length (take i text) ≤ 17 = omega (arith, length-take {A = ℕ}) in
    omega (arith, digits_value-lt 10 (take i text) all, pow-le-pow_right {n = 10} (omega arith) short)

-- the value of a text is below 10^18
pub digits_below : (text : List ℕ) (n : ℕ) → Some n ≡ digits text → n < 10 ^ 18
digits_below text n is = grind (arith, nat_tests, digits_value_short told text 18)

-- the number after a minus, as the code computes it
pub number_minus : (text : List ℕ) (n : ℕ) → 1 ≤ length text → get_or text 0 0 ≡ 45
    → Some n ≡ digits (take (length text - 1) (drop 1 text)) → Some (to_z w64 (of_z w64 (pos 0 -ℤ to_z w64 n))) ≡ number text
number_minus [] n some minus is = absurd (omega arith)
number_minus (b ∷ rest) n some minus is =
    let whole : take (length (b ∷ rest) - 1) rest ≡ rest = take_all _ rest (omega arith) in
    let found : Some n ≡ digits rest = rw whole at is in
    let small : n < 10 ^ 18 = digits_below rest n found in
    grind (arith, ints, nat_tests)

-- the number without a minus, as the code computes it
pub number_plain : (text : List ℕ) (n : ℕ) → get_or text 0 0 ≢ 45 → Some n ≡ digits text → Some (to_z w64 n) ≡ number text
number_plain [] n plain is = grind arith
number_plain (b ∷ rest) n plain is = let small : n < 10 ^ 18 = digits_below (b ∷ rest) n is in grind (arith, ints, nat_tests)
