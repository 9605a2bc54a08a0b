-- Multiples and remainders of polynomials over the numbers 0 and 1.
use Rattle.std.proofs.Common.{◌≡◌, ℕ, ◌+◌, ◌*◌, ◌^◌, ◌<◌, List, [], ◌∷◌, ◌++◌, map, bit_xor, arith, sym, refl, ap, ◌∙◌, subst}
use Rattle.std.specs.Int.Bits.{xor_assoc, xor_self, xor_zero_l, xor_zero_r}
use Rattle.std.proofs.lemmas.Nat.{xor_lt, pow-add}
use Rattle.message_check.specs.Polynomials.{times, IsMultiple, IsRemainder}
use Rattle.message_check.proofs.Xor.{xor_cancel, xor_swap, xor_same_right, xor_shift}

-- the product with a sum is the sum of the products
times-append : (g : ℕ) (p q : List ℕ) → times g (p ++ q) ≡ bit_xor (times g p) (times g q)
times-append g [] q = sym (xor_zero_l (times g q))
times-append g (k ∷ p) q = ap (bit_xor (g * 2 ^ k)) (times-append g p q) ∙ sym (xor_assoc (g * 2 ^ k) (times g p) (times g q))

-- the product with x^k times a polynomial
times-shift : (g k : ℕ) (q : List ℕ) → times g (map (λ j. j + k) q) ≡ times g q * 2 ^ k
times-shift g k [] = omega arith
times-shift g k (j ∷ q) =
    let e : g * 2 ^ (j + k) ≡ g * 2 ^ j * 2 ^ k = ap (λ x. g * x) (pow-add 2 j k) ∙ omega arith in
    rw (e, times-shift g k q) (xor_shift (g * 2 ^ j) (times g q) k)

-- nothing is a multiple
pub IsMultiple-zero : (g : ℕ) → IsMultiple g 0
IsMultiple-zero g = ([], refl)

-- the divisor is a multiple
pub IsMultiple-self : (g : ℕ) → IsMultiple g g
IsMultiple-self g = (
  0 ∷ [],
  let e : g ≡ g * 2 ^ 0 = omega arith in e ∙ sym (xor_zero_r (g * 2 ^ 0)),
)

-- the sum of two multiples is one
pub IsMultiple-add : (g m n : ℕ) → IsMultiple g m → IsMultiple g n → IsMultiple g (bit_xor m n)
IsMultiple-add g m n p q = (p.0 ++ q.0, rw (p.1, q.1) (sym (times-append g p.0 q.0)))

-- so is a multiple times x^k
pub IsMultiple-shift : (g m k : ℕ) → IsMultiple g m → IsMultiple g (m * 2 ^ k)
IsMultiple-shift g m k p = (map (λ j. j + k) p.0, ap (λ x. x * 2 ^ k) p.1 ∙ sym (times-shift g k p.0))

-- remainders of two dividends add up to that of their sum
pub IsRemainder-add : (degree g a b r s : ℕ) → IsRemainder degree g a r → IsRemainder degree g b s
    → IsRemainder degree g (bit_xor a b) (bit_xor r s)
IsRemainder-add degree g a b r s p q = record {
  multiple = subst (IsMultiple g) (xor_swap a r b s) (IsMultiple-add g (bit_xor a r) (bit_xor b s) p.multiple q.multiple);
  lower = xor_lt degree r s p.lower q.lower;
}

-- what is left may be divided further: where a and b differ by a multiple, they have the same remainders
pub IsRemainder-same : (degree g a b r : ℕ) → IsMultiple g (bit_xor a b) → IsRemainder degree g b r → IsRemainder degree g a r
IsRemainder-same degree g a b r m p = record {
  multiple = subst (IsMultiple g) (xor_assoc a b (bit_xor b r) ∙ ap (bit_xor a) (xor_cancel b r)) (IsMultiple-add g (bit_xor a b) (bit_xor b r) m p.multiple);
  lower = p.lower;
}

-- the remainder of x^k times a dividend is that of x^k times its remainder
pub IsRemainder-shift : (degree g a r k s : ℕ) → IsRemainder degree g a r → IsRemainder degree g (r * 2 ^ k) s
    → IsRemainder degree g (a * 2 ^ k) s
IsRemainder-shift degree g a r k s p q = IsRemainder-same degree g (a * 2 ^ k) (r * 2 ^ k) s
    (subst (IsMultiple g) (sym (xor_shift a r k)) (IsMultiple-shift g (bit_xor a r) k p.multiple)) q

-- so is the remainder of x^k times a dividend and more
pub IsRemainder-step : (degree g a r k b s : ℕ) → IsRemainder degree g a r → IsRemainder degree g (bit_xor (r * 2 ^ k) b) s
    → IsRemainder degree g (bit_xor (a * 2 ^ k) b) s
IsRemainder-step degree g a r k b s p q = IsRemainder-same degree g (bit_xor (a * 2 ^ k) b) (bit_xor (r * 2 ^ k) b) s
    (subst (IsMultiple g)
    (sym (xor_same_right (a * 2 ^ k) (r * 2 ^ k) b ∙ xor_shift a r k))
    (IsMultiple-shift g (bit_xor a r) k p.multiple))
    q

-- a dividend of a lower degree is left whole
pub IsRemainder-low : (degree g r : ℕ) → r < 2 ^ degree → IsRemainder degree g r r
IsRemainder-low degree g r h = record {
  multiple = subst (IsMultiple g) (sym (xor_self r)) (IsMultiple-zero g);
  lower = h;
}
