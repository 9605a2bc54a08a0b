-- The remainder of x^8 times a remainder, by the table.
use Rattle.std.proofs.Common.{◌≡◌, ℕ, ◌+◌, ◌-◌, ◌*◌, ◌/◌, ◌%◌, ◌^◌, ◌<◌, bit_and, bit_xor, ◌∙◌, subst, arith}
use Rattle.std.specs.Int.Bits.{xor_shifted}
use Rattle.std.proofs.lemmas.Nat.{xor_comm, and_mask}
use Rattle.message_check.specs.Check.{divisor}
use Rattle.message_check.specs.Polynomials.{IsRemainder}
use Rattle.message_check.proofs.Division.{IsRemainder-low, IsRemainder-add}

-- x^8 times a remainder: the remainder of its highest eight bits times x^32, and the others times x^8
IsRemainder-parts : (u t : ℕ) → u < 2 ^ 32 → IsRemainder 32 divisor (u / 2 ^ 24 * 2 ^ 32) t
    → IsRemainder 32 divisor (u * 2 ^ 8) (bit_xor (u % 2 ^ 24 * 2 ^ 8) t)
IsRemainder-parts u t lt p =
    let low : u % 2 ^ 24 * 2 ^ 8 < 2 ^ 32 = omega arith in
    let whole : u / 2 ^ 24 * 2 ^ 32 + u % 2 ^ 24 * 2 ^ 8 ≡ u * 2 ^ 8 = omega arith in
    subst (λ n. IsRemainder 32 divisor n (bit_xor (u % 2 ^ 24 * 2 ^ 8) t))
    (xor_comm (u % 2 ^ 24 * 2 ^ 8) (u / 2 ^ 24 * 2 ^ 32) ∙ xor_shifted (u / 2 ^ 24) 32 (u % 2 ^ 24 * 2 ^ 8) low ∙ whole)
    (IsRemainder-add 32 divisor (u % 2 ^ 24 * 2 ^ 8) (u / 2 ^ 24 * 2 ^ 32) (u % 2 ^ 24 * 2 ^ 8) t
    (IsRemainder-low 32 divisor (u % 2 ^ 24 * 2 ^ 8) low) p)

-- the same as the program computes it
pub IsRemainder-times_x_8 : (r t : ℕ) → r < 2 ^ 32 → IsRemainder 32 divisor (r / 2 ^ 24 * 2 ^ 32) t
    → IsRemainder 32 divisor (r * 2 ^ 8) (bit_xor (bit_and r (2 ^ 24 - 1) * 2 ^ 8 % 2 ^ 32) t)
IsRemainder-times_x_8 r t lt p =
    let kept : r % 2 ^ 24 * 2 ^ 8 ≡ bit_and r (2 ^ 24 - 1) * 2 ^ 8 % 2 ^ 32 = omega (arith, and_mask r 24) in
    subst (λ n. IsRemainder 32 divisor (r * 2 ^ 8) (bit_xor n t)) kept (IsRemainder-parts r t lt p)
