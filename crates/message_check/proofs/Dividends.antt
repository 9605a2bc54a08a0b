-- Steps of the division that makes a check.
use Rattle.std.proofs.Common.{◌≡◌, ℕ, ◌+◌, ◌-◌, ◌*◌, ◌%◌, ◌^◌, ◌<◌, ◌≤◌, List, [], ◌∷◌, ◌++◌, length, bit_and, bit_xor, arith, sym, ap, ◌∙◌, subst}
use Rattle.std.proofs.lemmas.List.{length-append}
use Rattle.std.proofs.lemmas.Nat.{and_mask, pow-add, xor_lt}
use Rattle.std.specs.Int.Bits.{xor_assoc, xor_shifted}
use Rattle.message_check.specs.Check.{divisor, ones, polynomial, dividend, AreBytes, IsCheck}
use Rattle.message_check.specs.Polynomials.{IsMultiple, IsRemainder}
use Rattle.message_check.proofs.BytePolynomials.{polynomial-append}
use Rattle.message_check.proofs.Xor.{xor_cancel, xor_right, xor_shift, xor_not}
use Rattle.message_check.proofs.Division.{IsMultiple-self, IsRemainder-low, IsRemainder-shift, IsRemainder-step}

-- a remainder times x, less x^32, as it is computed
doubled-is : (r : ℕ) → bit_and r 0x7FFFFFFF * 2 % 2 ^ 32 ≡ r % 2 ^ 31 * 2
doubled-is r = ap (λ x. x * 2 % 2 ^ 32) (and_mask r 31) ∙ omega arith

-- a remainder times x that stays below x^32
pub IsRemainder-times_x_low : (r : ℕ) → r < 2 ^ 31 → IsRemainder 32 divisor (r * 2) (bit_and r 0x7FFFFFFF * 2 % 2 ^ 32)
IsRemainder-times_x_low r h =
    let e : r * 2 ≡ r % 2 ^ 31 * 2 = omega arith in
    subst (IsRemainder 32 divisor (r * 2)) (e ∙ sym (doubled-is r)) (IsRemainder-low 32 divisor (r * 2) (omega arith))

-- the divisor is taken off once
xor-divisor : (d : ℕ) → d < 2 ^ 32 → bit_xor (2 ^ 32 + d) (bit_xor d 0x04C11DB7) ≡ divisor
xor-divisor d h =
    ap (λ x. bit_xor x (bit_xor d 0x04C11DB7)) (sym (xor_shifted 1 32 d h)) ∙ xor_assoc (2 ^ 32) d (bit_xor d 0x04C11DB7)
    ∙ ap (bit_xor (2 ^ 32)) (xor_cancel d 0x04C11DB7)

-- a remainder times x that reaches x^32
pub IsRemainder-times_x_high : (r : ℕ) → 2 ^ 31 ≤ r → r < 2 ^ 32
    → IsRemainder 32 divisor (r * 2) (bit_xor (bit_and r 0x7FFFFFFF * 2 % 2 ^ 32) 0x04C11DB7)
IsRemainder-times_x_high r low high =
    let e : r * 2 ≡ 2 ^ 32 + r % 2 ^ 31 * 2 = omega arith in
    let taken = ap (λ x. bit_xor x (bit_xor (r % 2 ^ 31 * 2) 0x04C11DB7)) e ∙ xor-divisor (r % 2 ^ 31 * 2) (omega arith) in
    subst (λ d. IsRemainder 32 divisor (r * 2) (bit_xor d 0x04C11DB7)) (sym (doubled-is r)) (record {
      multiple = subst (IsMultiple divisor) (sym taken) (IsMultiple-self divisor);
      lower = xor_lt 32 (r % 2 ^ 31 * 2) 0x04C11DB7 (omega arith) (omega arith);
    })

-- the division by turns: one turn more
pub IsRemainder-turn : (a i r s : ℕ) → IsRemainder 32 divisor (a * 2 ^ i) r → IsRemainder 32 divisor (r * 2) s
    → IsRemainder 32 divisor (a * 2 ^ (i + 1)) s
IsRemainder-turn a i r s p q =
    let e : a * 2 ^ i * 2 ^ 1 ≡ a * 2 ^ (i + 1) = sym (ap (λ x. a * x) (pow-add 2 i 1) ∙ omega arith) in
    subst (λ x. IsRemainder 32 divisor x s) e (IsRemainder-shift 32 divisor (a * 2 ^ i) r 1 s p q)

-- before the first turn: a byte is added in front of x^24
pub IsRemainder-first_turn : (r byte : ℕ) → r < 2 ^ 32 → byte < 2 ^ 8
    → IsRemainder 32 divisor (bit_xor r (byte * 2 ^ 24) * 2 ^ 0) (bit_xor r (byte * 2 ^ 24 % 2 ^ 32))
IsRemainder-first_turn r byte h k =
    let same : byte * 2 ^ 24 % 2 ^ 32 ≡ byte * 2 ^ 24 = omega arith in
    let once : bit_xor r (byte * 2 ^ 24) ≡ bit_xor r (byte * 2 ^ 24) * 2 ^ 0 = omega arith in
    subst (λ x. IsRemainder 32 divisor x (bit_xor r (byte * 2 ^ 24 % 2 ^ 32))) once
    (subst (λ x. IsRemainder 32 divisor (bit_xor r (byte * 2 ^ 24)) (bit_xor r x)) (sym same)
    (IsRemainder-low 32 divisor (bit_xor r (byte * 2 ^ 24)) (xor_lt 32 r (byte * 2 ^ 24) h (omega arith))))

-- after the eighth turn
pub IsRemainder-last_turn : (r byte i s : ℕ) → i ≡ 8 → IsRemainder 32 divisor (bit_xor r (byte * 2 ^ 24) * 2 ^ i) s
    → IsRemainder 32 divisor (bit_xor (r * 2 ^ 8) (byte * 2 ^ 32)) s
IsRemainder-last_turn r byte i s last p =
    let e : byte * 2 ^ 24 * 2 ^ 8 ≡ byte * 2 ^ 32 = omega arith in
    subst (λ x. IsRemainder 32 divisor x s)
    (ap (λ j. bit_xor r (byte * 2 ^ 24) * 2 ^ j) last ∙ sym (xor_shift r (byte * 2 ^ 24) 8) ∙ ap (bit_xor (r * 2 ^ 8)) e)
    p

-- some bytes more in what is divided
dividend-append : (front bytes : List ℕ) → AreBytes bytes
    → dividend (front ++ bytes) ≡ bit_xor (dividend front * 2 ^ (8 * length bytes)) (polynomial bytes * 2 ^ 32)
dividend-append front bytes h =
    let p = polynomial front in
    let q = polynomial bytes in
    let o = ones * 2 ^ (8 * length front) in
    let k = 8 * length bytes in
    let more : 8 * length (front ++ bytes) ≡ 8 * length front + k = omega (arith, length-append front bytes) in
    let power : ones * 2 ^ (8 * length (front ++ bytes)) ≡ o * 2 ^ k =
    ap (λ j. ones * 2 ^ j) more ∙ ap (λ x. ones * x) (pow-add 2 (8 * length front) k) ∙ omega arith in
    let turned : p * 2 ^ k * 2 ^ 32 ≡ p * 2 ^ 32 * 2 ^ k = omega arith in
    ap (λ x. bit_xor (x * 2 ^ 32) (ones * 2 ^ (8 * length (front ++ bytes)))) (polynomial-append front bytes h)
    ∙ ap (bit_xor (bit_xor (p * 2 ^ k) q * 2 ^ 32)) power
    ∙ ap (λ x. bit_xor x (o * 2 ^ k)) (sym (xor_shift (p * 2 ^ k) q 32))
    ∙ ap (λ x. bit_xor (bit_xor x (q * 2 ^ 32)) (o * 2 ^ k)) turned
    ∙ xor_right (p * 2 ^ 32 * 2 ^ k) (q * 2 ^ 32) (o * 2 ^ k)
    ∙ ap (λ x. bit_xor x (q * 2 ^ 32)) (xor_shift (p * 2 ^ 32) o k)

-- so the remainder of some bytes more
pub IsRemainder-append : (front bytes : List ℕ) (r s : ℕ) → AreBytes bytes → IsRemainder 32 divisor (dividend front) r
    → IsRemainder 32 divisor (bit_xor (r * 2 ^ (8 * length bytes)) (polynomial bytes * 2 ^ 32)) s
    → IsRemainder 32 divisor (dividend (front ++ bytes)) s
IsRemainder-append front bytes r s h p q = subst (λ x. IsRemainder 32 divisor x s) (sym (dividend-append front bytes h))
    (IsRemainder-step 32 divisor (dividend front) r (8 * length bytes) (polynomial bytes * 2 ^ 32) s p q)

-- and of one byte more
pub IsRemainder-push : (bytes : List ℕ) (byte r s : ℕ) → byte < 2 ^ 8 → IsRemainder 32 divisor (dividend bytes) r
    → IsRemainder 32 divisor (bit_xor (r * 2 ^ 8) (byte * 2 ^ 32)) s
    → IsRemainder 32 divisor (dividend (bytes ++ (byte ∷ []))) s
IsRemainder-push bytes byte r s h p q =
    let one : byte ≡ polynomial (byte ∷ []) = omega arith in
    IsRemainder-append bytes (byte ∷ []) r s (h, tt) p (subst (λ x. IsRemainder 32 divisor (bit_xor (r * 2 ^ 8) (x * 2 ^ 32)) s) one q)

-- and its end
pub IsCheck-not : (bytes : List ℕ) (r : ℕ) → IsRemainder 32 divisor (dividend bytes) r → IsCheck bytes (2 ^ 32 - 1 - r)
IsCheck-not bytes r p = subst (IsRemainder 32 divisor (dividend bytes)) (sym (xor_not r p.lower)) p
