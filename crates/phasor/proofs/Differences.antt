-- Equations between sums and products of signed numbers: each number is read as a difference of naturals, and the naturals
-- are left to `omega`.
use Rattle.std.proofs.Common.{◌≡◌, ap, ℕ, ◌+◌, ◌*◌, ℤ, ◌+ℤ◌, ◌*ℤ◌, neg_ℤ, arith}
use borrow.Author.Differences.{up, down, same_in, sum_is_lem, neg_is, product_is}

-- the number z is u - d
pub record IsDifference (z : ℤ) (u d : ℕ) : Type 0 where
  pub same : up z + d ≡ down z + u

-- a number by its own two parts
pub number : (z : ℤ) → IsDifference z (up z) (down z)
number z = record { same = omega arith }

-- a sum of two differences is one
pub sum : {a b : ℤ} {u d v e : ℕ} → IsDifference a u d → IsDifference b v e → IsDifference (a +ℤ b) (u + v) (d + e)
sum {a} {b} p q = record { same = omega (arith, p.same, q.same, sum_is_lem a b) }

-- and so is the negation of one
pub negation : {a : ℤ} {u d : ℕ} → IsDifference a u d → IsDifference (neg_ℤ a) d u
negation {a} p = record { same = omega (arith, p.same, neg_is a) }

-- and the product of two
pub times : {a b : ℤ} {u d v e : ℕ} → IsDifference a u d → IsDifference b v e → IsDifference (a *ℤ b) (u * v + d * e) (u * e + d * v)
times {a} {b} {u} {d} {v} {e} p q =
    let by_v = ap (λ x. x * v) p.same in
    let by_e = ap (λ x. x * e) p.same in
    let up_by = ap (λ x. up a * x) q.same in
    let down_by = ap (λ x. down a * x) q.same in
    record { same = omega (arith, product_is a b, by_v, by_e, up_by, down_by) }

-- two numbers are equal where their differences are
pub equal : {a b : ℤ} {u d v e : ℕ} → IsDifference a u d → IsDifference b v e → u + e ≡ v + d → a ≡ b
equal {a} {b} p q h = same_in a b (omega (arith, p.same, q.same))

-- a factor goes into a sum
pub +ℤ-*ℤ : (a b f : ℤ) → (a +ℤ b) *ℤ f ≡ a *ℤ f +ℤ b *ℤ f
+ℤ-*ℤ a b f =
    let x = number a in
    let y = number b in
    let z = number f in
    equal (times (sum x y) z) (sum (times x z) (times y z)) (omega arith)

-- from either side
pub *ℤ-+ℤ : (k a b : ℤ) → k *ℤ (a +ℤ b) ≡ k *ℤ a +ℤ k *ℤ b
*ℤ-+ℤ k a b =
    let x = number a in
    let y = number b in
    let z = number k in
    equal (times z (sum x y)) (sum (times z x) (times z y)) (omega arith)
