-- Sums and differences of points as the code computes them.
use Rattle.std.specs.Prelude.{◌≡◌, ◌≤◌, ◌^◌, ℤ, ◌+ℤ◌, ◌-ℤ◌, unsigned_abs}
use Rattle.std.proofs.Common.{arith, to_z, of_z, w64, refl}
use Rattle.std.proofs.lemmas.Int.{ints}
use Rattle.phasor.specs.Point.{Point, IsWithin, plus, minus}

-- points are equal where their parts are
pub same_point : (p q : Point) → p.re ≡ q.re → p.im ≡ q.im → p ≡ q
same_point p q e f = λ i. record { re = e i; im = f i }

-- a sum of 64 bits is the sum, where its terms are small
pub sum_kept : (a b : ℤ) → unsigned_abs a ≤ 2 ^ 36 → unsigned_abs b ≤ 2 ^ 36
    → to_z w64 (of_z w64 (to_z w64 (of_z w64 a) +ℤ to_z w64 (of_z w64 b))) ≡ a +ℤ b
sum_kept a b ha hb = omega (arith, ints)

-- a difference of 64 bits is the difference, where its terms are small
pub difference_kept : (a b : ℤ) → unsigned_abs a ≤ 2 ^ 36 → unsigned_abs b ≤ 2 ^ 36
    → to_z w64 (of_z w64 (to_z w64 (of_z w64 a) -ℤ to_z w64 (of_z w64 b))) ≡ a -ℤ b
difference_kept a b ha hb = omega (arith, ints)

-- a point of 64-bit parts
abbrev pub point64 : ℤ → ℤ → Point
point64 re im = record { re = to_z w64 (of_z w64 re); im = to_z w64 (of_z w64 im) }

-- the sum of two points is what the code computes of their parts
pub plus_kept : (p q : Point) → IsWithin 36 p → IsWithin 36 q
    → point64 (to_z w64 (of_z w64 p.re) +ℤ to_z w64 (of_z w64 q.re)) (to_z w64 (of_z w64 p.im) +ℤ to_z w64 (of_z w64 q.im)) ≡ plus p q
plus_kept p q hp hq = rw (sum_kept p.re q.re hp.0 hq.0, sum_kept p.im q.im hp.1 hq.1) refl

-- the difference of two points is what the code computes of their parts
pub minus_kept : (p q : Point) → IsWithin 36 p → IsWithin 36 q
    → point64 (to_z w64 (of_z w64 p.re) -ℤ to_z w64 (of_z w64 q.re)) (to_z w64 (of_z w64 p.im) -ℤ to_z w64 (of_z w64 q.im)) ≡ minus p q
minus_kept p q hp hq = rw (difference_kept p.re q.re hp.0 hq.0, difference_kept p.im q.im hp.1 hq.1) refl
