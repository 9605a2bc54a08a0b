-- Bytes as polynomials.
use Rattle.std.proofs.Common.{◌≡◌, ℕ, ◌+◌, ◌*◌, ◌/◌, ◌%◌, ◌^◌, ◌<◌, ◌≤◌, suc, List, [], ◌∷◌, ◌++◌, length, bit_xor, arith, sym, refl, ap, ◌∙◌, subst}
use Rattle.std.specs.Int.Bits.{xor_shifted}
use Rattle.std.specs.List.{fold}
use Rattle.std.proofs.lemmas.List.Sums.{fold-append}
use Rattle.std.proofs.lemmas.Nat.{pow-add, div-mul-add, mod-mul-add}
use Rattle.std.proofs.Math.Nat.{mul-le-mul_right}
use Rattle.message_check.specs.Check.{polynomial, AreBytes}

-- eight bits more
pub power-suc : (n : ℕ) → 2 ^ (8 * suc n) ≡ 2 ^ (8 * n) * 256
power-suc n =
    let e : 8 * suc n ≡ 8 * n + 8 = omega arith in
    ap (λ j. 2 ^ j) e ∙ pow-add 2 (8 * n) 8

-- a polynomial that goes on from a sum
pub polynomial-from : (sum : ℕ) (bytes : List ℕ)
    → fold (λ sum byte. 256 * sum + byte) sum bytes ≡ sum * 2 ^ (8 * length bytes) + polynomial bytes
polynomial-from sum [] = omega arith
polynomial-from sum (byte ∷ bytes) =
    let none : 0 + byte ≡ byte = omega arith in
    let first : polynomial (byte ∷ bytes) ≡ byte * 2 ^ (8 * length bytes) + polynomial bytes =
    ap (λ x. fold (λ sum byte. 256 * sum + byte) x bytes) none ∙ polynomial-from byte bytes in
    let more : sum * 2 ^ (8 * suc (length bytes)) ≡ sum * (2 ^ (8 * length bytes) * 256) = ap (λ x. sum * x) (power-suc (length bytes)) in
    polynomial-from (256 * sum + byte) bytes ∙ omega (arith, first, more)

-- the first byte and the others
pub polynomial-cons : (byte : ℕ) (bytes : List ℕ) → polynomial (byte ∷ bytes) ≡ byte * 2 ^ (8 * length bytes) + polynomial bytes
polynomial-cons byte bytes =
    let none : 0 + byte ≡ byte = omega arith in
    ap (λ x. fold (λ sum byte. 256 * sum + byte) x bytes) none ∙ polynomial-from byte bytes

-- n bytes have 8 n bits
pub polynomial-lt : (bytes : List ℕ) → AreBytes bytes → polynomial bytes < 2 ^ (8 * length bytes)
polynomial-lt [] h = omega arith
polynomial-lt (byte ∷ bytes) h =
    let below : byte ≤ 255 = omega (arith, h.0) in
    omega (arith, polynomial-cons byte bytes, power-suc (length bytes), polynomial-lt bytes h.1, mul-le-mul_right (2 ^ (8 * length bytes)) below)

-- bytes by their polynomial
pub polynomial-same : (xs ys : List ℕ) → AreBytes xs → AreBytes ys → length xs ≡ length ys → polynomial xs ≡ polynomial ys → xs ≡ ys
polynomial-same [] [] h k l e = refl
polynomial-same [] (y ∷ ys) h k l e = absurd (omega arith)
polynomial-same (x ∷ xs) [] h k l e = absurd (omega arith)
polynomial-same (x ∷ xs) (y ∷ ys) h k l e =
    let len : length xs ≡ length ys = omega arith in
    let power = 2 ^ (8 * length xs) in
    let a = polynomial xs in
    let b = polynomial ys in
    let in_xs : a < power = polynomial-lt xs h.1 in
    let in_ys : b < power = subst (λ n. b < 2 ^ (8 * n)) (sym len) (polynomial-lt ys k.1) in
    let parts : x * power + a ≡ y * power + b =
    sym (polynomial-cons x xs) ∙ e ∙ polynomial-cons y ys ∙ ap (λ n. y * 2 ^ (8 * n) + b) (sym len) in
    let first : x ≡ y = sym (div-mul-add x power a in_xs) ∙ ap (λ n. n / power) parts ∙ div-mul-add y power b in_ys in
    let others : a ≡ b = sym (mod-mul-add x power a in_xs) ∙ ap (λ n. n % power) parts ∙ mod-mul-add y power b in_ys in
    ap (λ n. n ∷ xs) first ∙ ap (λ zs. y ∷ zs) (polynomial-same xs ys h.1 k.1 len others)

-- bytes in front of others
pub polynomial-append : (xs ys : List ℕ) → AreBytes ys → polynomial (xs ++ ys) ≡ bit_xor (polynomial xs * 2 ^ (8 * length ys)) (polynomial ys)
polynomial-append xs ys h = fold-append (λ sum byte. 256 * sum + byte) 0 xs ys ∙ polynomial-from (polynomial xs) ys
    ∙ sym (xor_shifted (polynomial xs) (8 * length ys) (polynomial ys) (polynomial-lt ys h))
