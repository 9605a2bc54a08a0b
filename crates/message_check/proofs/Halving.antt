-- Multiples one degree lower, and from these that remainders are unique.
use Rattle.std.proofs.Common.{◌≡◌, ℕ, ◌+◌, ◌-◌, ◌*◌, ◌%◌, ◌^◌, ◌<◌, ◌≤◌, zero, suc, max, List, [], ◌∷◌, bit_xor, arith, refl, ap, ◌∙◌, subst, ◌⊎◌, inl, inr, ⊎_elim}
use Rattle.std.specs.Int.Bits.{xor_zero_r}
use Rattle.std.proofs.lemmas.Nat.{xor_lt, pow-add}
use Rattle.std.proofs.Math.Nat.{pow-suc}
use Rattle.message_check.specs.Polynomials.{times, IsMultiple, IsRemainder}
use Rattle.message_check.proofs.Xor.{xor_cancel, xor_same_left, xor_left, xor_shift, xor-parity, same_from_xor}
use Rattle.message_check.proofs.Division.{IsMultiple-add}

-- one more than the largest exponent, or 0 where there is none
abbrev bound : List ℕ → ℕ
bound [] = 0
bound (k ∷ q) = max (suc k) (bound q)

-- a product is x times one of a lower degree, or that and g
record Halves (g : ℕ) (q half : List ℕ) : Type 0 where
  lower : bound half ≤ bound q - 1
  is : (times g q ≡ times g half * 2) ⊎ (times g q ≡ bit_xor g (times g half * 2))

-- each product does: exponents of 0 cancel in pairs
halves : (g : ℕ) (q : List ℕ) → (half : List ℕ) × Halves g q half
halves g [] = ([], record { lower = omega arith; is = inl refl })
halves g (zero ∷ q) =
    let h = halves g q in
    let one : g * 2 ^ 0 ≡ g = omega arith in (
      h.0,
      record {
        lower = omega (arith, h.1.lower);
        is = ⊎_elim
            (λ e. inr (ap (λ x. bit_xor x (times g q)) one ∙ ap (bit_xor g) e))
            (λ e. inl (ap (λ x. bit_xor x (times g q)) one ∙ ap (bit_xor g) e ∙ xor_cancel g (times g h.0 * 2)))
            h.1.is;
      },
    )
halves g (suc k ∷ q) =
    let h = halves g q in
    let t = times g h.0 in
    let a = g * 2 ^ k in
    let double : g * 2 ^ suc k ≡ a * 2 = ap (λ x. g * x) (pow-suc 2 k) ∙ omega arith in (
      k ∷ h.0,
      record {
        lower = omega (arith, h.1.lower);
        is = ⊎_elim
            (λ e. inl (ap (λ x. bit_xor x (times g q)) double ∙ ap (bit_xor (a * 2)) e ∙ xor_shift a t 1))
            (λ e. inr (ap (λ x. bit_xor x (times g q)) double ∙ ap (bit_xor (a * 2)) e ∙ xor_left (a * 2) g (t * 2) ∙ ap (bit_xor g) (xor_shift a t 1)))
            h.1.is;
      },
    )

-- a product below x^n with a polynomial of degree n is 0
times-small : (n g : ℕ) → 2 ^ n ≤ g → g < 2 ^ (n + 1) → (b : ℕ) (q : List ℕ) → bound q ≤ b → times g q < 2 ^ n → times g q ≡ 0
times-small n g low high zero [] below small = refl
times-small n g low high zero (k ∷ q) below small = absurd (omega arith)
times-small n g low high (suc b) q below small =
    let h = halves g q in
    let t = times g h.0 in
    let power : 2 ^ (n + 1) ≡ 2 ^ n * 2 = pow-add 2 n 1 in
    let rest = λ (s : t < 2 ^ n). times-small n g low high b h.0 (omega (arith, h.1.lower)) s in
    ⊎_elim
    (λ e. let z : t ≡ 0 = rest (omega arith) in omega arith)
    (λ e.
    let turned : bit_xor g (times g q) ≡ t * 2 = ap (bit_xor g) e ∙ xor_cancel g (t * 2) in
    let wide : bit_xor g (times g q) < 2 ^ (n + 1) = xor_lt (n + 1) g (times g q) high (omega arith) in
    let z : t ≡ 0 = rest (omega arith) in
    let same : times g q ≡ g = e ∙ ap (λ x. bit_xor g (x * 2)) z ∙ xor_zero_r g in
    absurd (omega arith))
    h.1.is

-- a multiple below x^n of a polynomial of degree n is 0
pub IsMultiple-small : (n g m : ℕ) → 2 ^ n ≤ g → g < 2 ^ (n + 1) → m < 2 ^ n → IsMultiple g m → m ≡ 0
IsMultiple-small n g m low high small p =
    p.1 ∙ times-small n g low high (bound p.0) p.0 (omega arith) (subst (λ x. x < 2 ^ n) p.1 small)

-- division by a polynomial of that degree has one remainder
pub IsRemainder-unique : (n g a r s : ℕ) → 2 ^ n ≤ g → g < 2 ^ (n + 1) → IsRemainder n g a r → IsRemainder n g a s → r ≡ s
IsRemainder-unique n g a r s low high p q =
    same_from_xor r s (IsMultiple-small n g (bit_xor r s) low high (xor_lt n r s p.lower q.lower)
    (subst (IsMultiple g) (xor_same_left a r s) (IsMultiple-add g (bit_xor a r) (bit_xor a s) p.multiple q.multiple)))

-- a polynomial with a constant term divides what it divides x times
IsMultiple-halve : (g m : ℕ) → g % 2 ≡ 1 → IsMultiple g (m * 2) → IsMultiple g m
IsMultiple-halve g m odd p =
    let h = halves g p.0 in
    ⊎_elim
    (λ e. (h.0, omega arith))
    (λ e. absurd (omega (arith, xor-parity g (times g h.0 * 2))))
    h.1.is

-- and what it divides x^k times a polynomial
pub IsMultiple-unshift : (g m k : ℕ) → g % 2 ≡ 1 → IsMultiple g (m * 2 ^ k) → IsMultiple g m
IsMultiple-unshift g m zero odd p =
    let e : m * 2 ^ 0 ≡ m = omega arith in
    subst (IsMultiple g) e p
IsMultiple-unshift g m (suc k) odd p =
    let double : m * 2 ^ suc k ≡ m * 2 ^ k * 2 = ap (λ x. m * x) (pow-suc 2 k) ∙ omega arith in
    IsMultiple-unshift g m k odd (IsMultiple-halve g (m * 2 ^ k) odd (subst (IsMultiple g) double p))
