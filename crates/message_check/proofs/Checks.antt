-- The check as a function of the bytes.
use Rattle.std.proofs.Common.{◌≡◌, ℕ, ◌+◌, ◌*◌, ◌^◌, ◌<◌, ◌↔◌, ◌-◌, suc, List, [], ◌∷◌, length, get_or, bit_xor, arith, sym, ap, ◌∙◌, subst}
use Rattle.std.proofs.lemmas.Nat.{pow-add, xor_comm, xor_lt}
use Rattle.message_check.specs.Check.{divisor, ones, polynomial, dividend, AreBytes, IsCheck, check_of}
use Rattle.message_check.specs.Polynomials.{IsRemainder, remainder}
use Rattle.message_check.proofs.BytePolynomials.{polynomial-lt}
use Rattle.message_check.proofs.Dividends.{IsCheck-not}
use Rattle.message_check.proofs.Halving.{IsRemainder-unique}
use Rattle.message_check.proofs.Remainders.{remainder-is}
use Rattle.message_check.proofs.Xor.{xor_cancel}

-- what is divided has 32 bits more than the bytes
dividend-lt : (bytes : List ℕ) → AreBytes bytes → dividend bytes < 2 ^ (32 + 8 * length bytes)
dividend-lt bytes h =
    let all = 32 + 8 * length bytes in
    let power = pow-add 2 32 (8 * length bytes) in
    let fits = polynomial-lt bytes h in
    let low : polynomial bytes * 2 ^ 32 < 2 ^ all = omega arith in
    let high : ones * 2 ^ (8 * length bytes) < 2 ^ all = omega arith in
    xor_lt all (polynomial bytes * 2 ^ 32) (ones * 2 ^ (8 * length bytes)) low high

-- ones added twice go away
ones-twice : (r : ℕ) → bit_xor (bit_xor r ones) ones ≡ r
ones-twice r = xor_comm (bit_xor r ones) ones ∙ ap (bit_xor ones) (xor_comm r ones) ∙ xor_cancel ones r

-- a check has 32 bits
pub IsCheck-lt : (bytes : List ℕ) (check : ℕ) → IsCheck bytes check → check < 2 ^ 32
IsCheck-lt bytes check p = subst (λ n. n < 2 ^ 32) (ones-twice check) (xor_lt 32 (bit_xor check ones) ones p.lower (omega arith))

-- the relation holds of the function
pub check_of-is : (bytes : List ℕ) → AreBytes bytes → IsCheck bytes (check_of bytes)
unfolding check_of
check_of-is bytes h =
    let r = remainder 32 divisor (8 * length bytes) (dividend bytes) in
    subst (IsRemainder 32 divisor (dividend bytes)) (sym (ones-twice r))
    (remainder-is 32 divisor (omega arith) (omega arith) (8 * length bytes) (dividend bytes) (dividend-lt bytes h))

-- and of nothing else
pub check_of-only : (bytes : List ℕ) (check : ℕ) → AreBytes bytes → IsCheck bytes check → check ≡ check_of bytes
check_of-only bytes check h p =
    let q = check_of-is bytes h in
    sym (ones-twice check)
    ∙ ap (λ r. bit_xor r ones) (IsRemainder-unique 32 divisor (dividend bytes) _ _ (omega arith) (omega arith) p q)
    ∙ ones-twice (check_of bytes)

pub IsCheck-iff : (bytes : List ℕ) (check : ℕ) → AreBytes bytes → IsCheck bytes check ↔ (check ≡ check_of bytes)
IsCheck-iff bytes check h = (check_of-only bytes check h, λ e. subst (IsCheck bytes) (sym e) (check_of-is bytes h))

-- bytes by their places
pub AreBytes-by_place : (bytes : List ℕ) → ((i : ℕ) → get_or bytes i 0 < 256) → AreBytes bytes
AreBytes-by_place [] fits = tt
AreBytes-by_place (byte ∷ bytes) fits = (fits 0, AreBytes-by_place bytes (λ i. fits (suc i)))

-- what the division of all bytes left, complemented, is their check
pub check_of-remainder : (bytes : List ℕ) (r : ℕ) → ((i : ℕ) → get_or bytes i 0 < 256) → IsRemainder 32 divisor (dividend bytes) r
    → 2 ^ 32 - 1 - r ≡ check_of bytes
check_of-remainder bytes r fits p = check_of-only bytes (2 ^ 32 - 1 - r) (AreBytes-by_place bytes fits) (IsCheck-not bytes r p)
