-- Laws of the exclusive or of two numbers.
use Rattle.std.proofs.Common.{◌≡◌, ℕ, ◌+◌, ◌-◌, ◌*◌, ◌^◌, ◌%◌, ◌<◌, ◌≤◌, bit_xor, w32, arith, sym, ap, ◌∙◌, subst, add-zero}
use Rattle.std.proofs.lemmas.Nat.Bits.{bit_at_lowest, bit_at_xor, bit_at_not, bit_at_ones, same_from_bits_below, bit_at-lt}
use Rattle.std.specs.Int.Bits.{xor_assoc, xor_self, xor_zero_l, xor_zero_r}
use Rattle.std.proofs.lemmas.Nat.{pow_pos, pow-add, xor_block, xor_comm, xor_lt}

-- what is added twice goes away
pub xor_cancel : (a b : ℕ) → bit_xor a (bit_xor a b) ≡ b
xor_cancel a b = rw (← xor_assoc, xor_self) (xor_zero_l b)

-- the first two change places
pub xor_left : (a b c : ℕ) → bit_xor a (bit_xor b c) ≡ bit_xor b (bit_xor a c)
xor_left a b c = sym (xor_assoc a b c) ∙ ap (λ x. bit_xor x c) (xor_comm a b) ∙ xor_assoc b a c

-- the two in the middle change places
pub xor_swap : (a b c d : ℕ) → bit_xor (bit_xor a b) (bit_xor c d) ≡ bit_xor (bit_xor a c) (bit_xor b d)
xor_swap a b c d = xor_assoc a b (bit_xor c d) ∙ ap (bit_xor a) (xor_left b c d) ∙ sym (xor_assoc a c (bit_xor b d))

-- the last two change places
pub xor_right : (a b c : ℕ) → bit_xor (bit_xor a b) c ≡ bit_xor (bit_xor a c) b
xor_right a b c = xor_assoc a b c ∙ ap (bit_xor a) (xor_comm b c) ∙ sym (xor_assoc a c b)

-- what two sums have in front goes away
pub xor_same_left : (a b c : ℕ) → bit_xor (bit_xor a b) (bit_xor a c) ≡ bit_xor b c
xor_same_left a b c = xor_swap a b a c ∙ ap (λ x. bit_xor x (bit_xor b c)) (xor_self a) ∙ xor_zero_l (bit_xor b c)

-- and what they have behind
pub xor_same_right : (a b c : ℕ) → bit_xor (bit_xor a c) (bit_xor b c) ≡ bit_xor a b
xor_same_right a b c = xor_swap a c b c ∙ ap (bit_xor (bit_xor a b)) (xor_self c) ∙ xor_zero_r (bit_xor a b)

-- a sum times 2^k
pub xor_shift : (a b k : ℕ) → bit_xor (a * 2 ^ k) (b * 2 ^ k) ≡ bit_xor a b * 2 ^ k
xor_shift a b k = simp add-zero at (xor_block k a b 0 0 (pow_pos k) (pow_pos k))

-- two polynomials of one degree have a sum of a lower one
pub xor_top : (k a b : ℕ) → 2 ^ k ≤ a → a < 2 ^ (k + 1) → 2 ^ k ≤ b → b < 2 ^ (k + 1) → bit_xor a b < 2 ^ k
xor_top k a b in_a low_a in_b low_b =
    let power : 2 ^ (k + 1) ≡ 2 ^ k * 2 = pow-add 2 k 1 in
    let rest_a : a - 2 ^ k < 2 ^ k = omega arith in
    let rest_b : b - 2 ^ k < 2 ^ k = omega arith in
    let parts_a : 1 * 2 ^ k + (a - 2 ^ k) ≡ a = omega arith in
    let parts_b : 1 * 2 ^ k + (b - 2 ^ k) ≡ b = omega arith in
    let rest = bit_xor (a - 2 ^ k) (b - 2 ^ k) in
    let none : 0 * 2 ^ k + rest ≡ rest = omega arith in
    let parts : bit_xor (1 * 2 ^ k + (a - 2 ^ k)) (1 * 2 ^ k + (b - 2 ^ k)) ≡ rest =
    xor_block k 1 1 (a - 2 ^ k) (b - 2 ^ k) rest_a rest_b ∙ none in
    let same : bit_xor a b ≡ rest =
    subst (λ x. bit_xor x b ≡ rest) parts_a (subst (λ x. bit_xor (1 * 2 ^ k + (a - 2 ^ k)) x ≡ rest) parts_b parts) in
    subst (λ x. x < 2 ^ k) (sym same) (xor_lt k (a - 2 ^ k) (b - 2 ^ k) rest_a rest_b)

-- all ones less a number is the number with ones added
pub xor_not : (r : ℕ) → r < 2 ^ 32 → bit_xor (2 ^ 32 - 1 - r) (2 ^ 32 - 1) ≡ r
xor_not r h = same_from_bits_below 32 _ _
    (xor_lt 32 (2 ^ 32 - 1 - r) (2 ^ 32 - 1) (omega arith) (omega arith))
    h
    (λ i lt. omega (arith, bit_at_xor (2 ^ 32 - 1 - r) (2 ^ 32 - 1) i, bit_at_not w32 r i h lt, bit_at_ones 32 i lt, bit_at-lt r i))

-- the lowest bit
pub xor-parity : (a b : ℕ) → bit_xor a b % 2 ≡ (a + b) % 2
xor-parity a b = omega (arith, bit_at_xor a b 0, bit_at_lowest (bit_xor a b), bit_at_lowest a, bit_at_lowest b)

-- where nothing is left of a sum, the two are the same
pub same_from_xor : (a b : ℕ) → bit_xor a b ≡ 0 → a ≡ b
same_from_xor a b e = sym (xor_zero_r a) ∙ ap (bit_xor a) (sym e) ∙ xor_cancel a b
