-- Check: the remainder of a message. (CRC-32/BZIP2.)
use Rattle.std.specs.Prelude.{◌≡◌, ℕ, ◌+◌, ◌-◌, ◌*◌, ◌^◌, ◌<◌, List, ◌++◌, length, fold, bit_xor}
use Rattle.std.specs.Int.{bytes_high_first}
use Rattle.std.specs.List.{AllByRecursion}
use Rattle.message_check.specs.Polynomials.{IsRemainder, remainder}

-- the divisor: x^32 and the polynomial 0x04C11DB7
abbrev pub divisor : ℕ
divisor = 0x104C11DB7

-- 32 ones
abbrev pub ones : ℕ
ones = 2 ^ 32 - 1

-- bytes as a polynomial, the highest bit of the first byte first
abbrev pub polynomial : List ℕ → ℕ
polynomial bytes = fold (λ sum byte. 256 * sum + byte) 0 bytes

-- what is divided: the bytes times x^32, and 32 ones in front of them
abbrev pub dividend : List ℕ → ℕ
dividend bytes = bit_xor (polynomial bytes * 2 ^ 32) (ones * 2 ^ (8 * length bytes))

-- the check of some bytes: the remainder of the dividend by the divisor, and 32 ones added to it
abbrev pub IsCheck : List ℕ → ℕ → Type 0
IsCheck bytes check = IsRemainder 32 divisor (dividend bytes) (bit_xor check ones)

-- the same as a function
unfoldable pub check_of : List ℕ → ℕ
check_of bytes = bit_xor (remainder 32 divisor (8 * length bytes) (dividend bytes)) ones

-- numbers that are bytes
abbrev pub AreBytes : List ℕ → Type 0
AreBytes bytes = AllByRecursion (λ byte. byte < 256) bytes

-- bytes that end in the four bytes of the check of those before, the highest first
pub record EndsInCheck (bytes : List ℕ) : Type 0 where
  pub front : List ℕ
  pub check : ℕ
  pub is : bytes ≡ front ++ bytes_high_first 4 check
  pub checked : IsCheck front check
