-- Long division leaves the remainder, so each polynomial has one.
use Rattle.std.proofs.Common.{◌≡◌, ℕ, ◌+◌, ◌*◌, ◌^◌, ◌<◌, ◌≤◌, zero, suc, Bool, cond, bit_xor, arith, sym, subst, ⊎_elim}
use Rattle.std.proofs.lemmas.Bool.{cases_lt, lt-ltb, le-ltb}
use Rattle.std.proofs.lemmas.Nat.{pow_pos, pow-add}
use Rattle.std.proofs.Math.Nat.{mul-le-mul_right, pow-suc}
use Rattle.message_check.specs.Check.{divisor}
use Rattle.message_check.specs.Polynomials.{IsMultiple, IsRemainder, remainder}
use Rattle.message_check.proofs.Xor.{xor_cancel, xor_top}
use Rattle.message_check.proofs.Division.{IsMultiple-self, IsMultiple-shift, IsRemainder-low, IsRemainder-same}

-- what is left when the divisor, times x^k, is taken off the highest term
taken-off : (n g k dividend r : ℕ) → IsRemainder n g (bit_xor dividend (g * 2 ^ k)) r → IsRemainder n g dividend r
taken-off n g k dividend r p = IsRemainder-same n g dividend (bit_xor dividend (g * 2 ^ k)) r
    (subst (IsMultiple g) (sym (xor_cancel dividend (g * 2 ^ k))) (IsMultiple-shift g g k (IsMultiple-self g)))
    p

-- is of a lower degree
lower : (n g k dividend : ℕ) → 2 ^ n ≤ g → g < 2 ^ (n + 1) → 2 ^ (n + k) ≤ dividend → dividend < 2 ^ (n + suc k)
    → bit_xor dividend (g * 2 ^ k) < 2 ^ (n + k)
lower n g k dividend low high above below =
    let one_more : n + suc k ≡ n + k + 1 = omega arith in
    let power = pow-add 2 n k in
    let one : 2 ^ (n + 1) ≡ 2 ^ n * 2 = pow-add 2 n 1 in
    let top : 2 ^ (n + k + 1) ≡ 2 ^ (n + k) * 2 = pow-add 2 (n + k) 1 in
    let at_least : 2 ^ n * 2 ^ k ≤ g * 2 ^ k = mul-le-mul_right (2 ^ k) low in
    let at_most : (g + 1) * 2 ^ k ≤ 2 ^ n * 2 * 2 ^ k = mul-le-mul_right (2 ^ k) (omega arith) in
    xor_top (n + k) dividend (g * 2 ^ k) above (subst (λ j. dividend < 2 ^ j) one_more below) (omega arith) (omega (arith, pow_pos k))

-- long division leaves the remainder
pub remainder-is : (n g : ℕ) → 2 ^ n ≤ g → g < 2 ^ (n + 1) → (terms dividend : ℕ) → dividend < 2 ^ (n + terms)
    → IsRemainder n g dividend (remainder n g terms dividend)
unfolding remainder
remainder-is n g low high zero dividend below =
    let none : n + 0 ≡ n = omega arith in
    IsRemainder-low n g dividend (subst (λ j. dividend < 2 ^ j) none below)
remainder-is n g low high (suc k) dividend below =
    let less = bit_xor dividend (g * 2 ^ k) in
    let Q = λ (b : Bool). IsRemainder n g dividend (remainder n g k (cond b dividend less)) in
    ⊎_elim
    (λ small. subst Q (sym (lt-ltb dividend (2 ^ (n + k)) small))
    (remainder-is n g low high k dividend small))
    (λ large. subst Q (sym (le-ltb dividend (2 ^ (n + k)) large))
    (taken-off n g k dividend _ (remainder-is n g low high k less (lower n g k dividend low high large below))))
    (cases_lt dividend (2 ^ (n + k)))

-- each number is below its power of two
below-power : (n : ℕ) → n < 2 ^ n
below-power zero = omega arith
below-power (suc n) = omega (arith, pow-suc 2 n, below-power n)

-- each polynomial has a remainder
pub IsRemainder-exists : (dividend : ℕ) → (r : ℕ) × IsRemainder 32 divisor dividend r
IsRemainder-exists dividend =
    (_, remainder-is 32 divisor (omega arith) (omega arith) dividend dividend (omega (arith, below-power dividend, pow-add 2 32 dividend)))
