-- Numbers in command words.
use Rattle.std.proofs.Common.{◌≡◌, ℕ, ◌^◌, ◌<◌, List, Some, arith}
use Rattle.std.proofs.lemmas.Bool.Decides.{nat_tests}
use Rattle.row_reader.proofs.Digits.{digits_below}
use Rattle.row_reader.specs.Numbers.{word_number}

-- they are below 10^18
pub word_below : (word : List ℕ) (n : ℕ) → Some n ≡ word_number word → n < 10 ^ 18
word_below word n is = grind (arith, nat_tests, digits_below word n)
