-- Polynomials over the numbers 0 and 1. A polynomial is a number whose bit k is the coefficient of x^k, so that the sum of
-- two is their exclusive or, and multiplying by x^k is multiplying by 2^k.
use Rattle.std.specs.Prelude.{◌≡◌, ℕ, zero, suc, ◌+◌, ◌*◌, ◌^◌, ◌<◌, nat_lt, if◌then◌else◌, List, [], ◌∷◌, bit_xor}

-- the product of a polynomial and the sum of x^k for these k
abbrev pub times : ℕ → List ℕ → ℕ
times g [] = 0
times g (k ∷ ks) = bit_xor (g * 2 ^ k) (times g ks)

-- a multiple of a polynomial is its product with some other
abbrev pub IsMultiple : ℕ → ℕ → Type 0
IsMultiple g m = (q : List ℕ) × (m ≡ times g q)

-- ordinary division by a polynomial of that degree: what is left of the dividend after some multiple of the divisor is taken
-- off, and has a lower degree
pub record IsRemainder (degree g dividend r : ℕ) : Type 0 where
  pub multiple : IsMultiple g (bit_xor dividend r)
  pub lower : r < 2 ^ degree

-- the same as long division, which takes the highest term off first: of a dividend below x^(degree + terms)
unfoldable pub remainder : ℕ → ℕ → ℕ → ℕ → ℕ
remainder degree g zero dividend = dividend
remainder degree g (suc terms) dividend =
    remainder degree g terms (if nat_lt dividend (2 ^ (degree + terms)) then dividend else bit_xor dividend (g * 2 ^ terms))
