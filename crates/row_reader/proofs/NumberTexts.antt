-- Fields of numbers: they are plain, and are read as those numbers.
use Rattle.std.proofs.Common.{◌≡◌, ◌∙◌, refl, ap, ℕ, suc, ◌^◌, ◌<◌, ◌≤◌, ◌==◌, true, false, ℤ, pos, negsuc, List, [], ◌∷◌, length, map, Some, arith}
use Rattle.std.specs.Prelude.{decimal, unsigned_abs}
use Rattle.std.specs.Fmt.{signed_decimal}
use Rattle.std.specs.List.{AllByRecursion, list_all}
use Rattle.std.specs.Str.{all_ascii_digits}
use Rattle.std.specs.Str.Parse.{digits_value}
use Rattle.std.proofs.lemmas.Bool.{and_parts}
use Rattle.std.proofs.lemmas.Bool.Decides.{nat_tests}
use Rattle.std.proofs.lemmas.Fmt.{decimal_is_IsNumeral_wide, decimal_nonempty, digits_decimal, digits_value-decimal, length-decimal-le}
use Rattle.std.proofs.lemmas.Str.Parse.{IsNumeralModel, numerals_by_value, tells_all_ascii_digits}
use Rattle.row_reader.specs.Numbers.{digits, number}
use Rattle.row_reader.specs.PlainRows.{is_plain}
use Rattle.row_reader.specs.RowNumbers.{numbers_of}

-- digits, as `all_ascii_digits` tells them
told : IsNumeralModel (λ ds. all_ascii_digits ds ≡ true) (digits_value 10)
told = numerals_by_value _ tells_all_ascii_digits

-- a number that has up to 18 digits
abbrev pub IsShort : ℤ → Type 0
IsShort z = unsigned_abs z < 10 ^ 18

-- one that has up to 64
abbrev pub IsLong : ℤ → Type 0
IsLong z = unsigned_abs z < 10 ^ 64

pub digits-decimal : (n : ℕ) → n < 10 ^ 18 → digits (decimal n) ≡ Some n
digits-decimal n small =
    let some = decimal_nonempty n (omega arith) in
    let few = length-decimal-le 18 n (omega arith) small (omega arith) in
    let all = digits_decimal told n (omega arith) in
    let value = digits_value-decimal told n (omega arith) in
    by (decimal n) some few all ∙ ap (λ (k : ℕ). Some k) value
  where
    by : (text : List ℕ) → 0 < length text → length text ≤ 18 → all_ascii_digits text ≡ true → digits text ≡ Some (digits_value 10 text)
    by text some few all = grind (arith, nat_tests)

-- digits are no minus
plain_number : (text : List ℕ) (n : ℕ) → all_ascii_digits text ≡ true → digits text ≡ Some n → number text ≡ Some (pos n)
plain_number [] n all is = cc
plain_number (b ∷ rest) n all is =
    let other : (b == 45) ≡ false = grind (arith, nat_tests) in
    rw (other, is) refl

pub number-decimal : (n : ℕ) → n < 10 ^ 18 → number (decimal n) ≡ Some (pos n)
number-decimal n small = plain_number (decimal n) n (digits_decimal told n (omega arith)) (digits-decimal n small)

pub number-signed : (z : ℤ) → IsShort z → number (signed_decimal z) ≡ Some z
number-signed (pos n) small = number-decimal n small
number-signed (negsuc n) small = rw (digits-decimal (suc n) small) refl

-- the numbers of some fields
pub numbers_read : (numbers : List ℤ) → AllByRecursion IsShort numbers → numbers_of (map signed_decimal numbers) ≡ Some numbers
numbers_read [] small = refl
numbers_read (z ∷ numbers) small =
    rw (number-signed z small.0, numbers_read numbers small.1) refl

-- digits are plain
digits_plain : (text : List ℕ) → all_ascii_digits text ≡ true → list_all is_plain text ≡ true
digits_plain [] all = refl
digits_plain (b ∷ rest) all =
    let parts = and_parts _ _ all in
    let this : is_plain b ≡ true = grind (arith, nat_tests) in
    rw (this, digits_plain rest parts.1) refl

pub decimal_plain : (n : ℕ) → n < 10 ^ 64 → list_all is_plain (decimal n) ≡ true
decimal_plain n long = digits_plain (decimal n) (told.from (decimal n) (decimal_is_IsNumeral_wide n long).0.1)

pub signed_plain : (z : ℤ) → IsLong z → list_all is_plain (signed_decimal z) ≡ true
signed_plain (pos n) long = decimal_plain n long
signed_plain (negsuc n) long = decimal_plain (suc n) long

pub numbers_plain : (numbers : List ℤ) → AllByRecursion IsLong numbers → list_all (list_all is_plain) (map signed_decimal numbers) ≡ true
numbers_plain [] long = refl
numbers_plain (z ∷ numbers) long =
    rw (signed_plain z long.0, numbers_plain numbers long.1) refl
