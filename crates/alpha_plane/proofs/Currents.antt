-- Sums and differences of currents as the code computes them.
use Rattle.std.specs.Prelude.{◌≡◌, ◌≤◌, ◌^◌, ℤ, ◌+ℤ◌, ◌-ℤ◌, unsigned_abs}
use Rattle.std.proofs.Common.{arith, to_z, of_z, w64, refl}
use Rattle.std.proofs.lemmas.Int.{ints}
use Rattle.phasor.specs.Point.{Point, IsWithin, plus, minus}
use Rattle.phasor.proofs.Points.{point64}
use Rattle.alpha_plane.specs.Outside.{current_bits}

-- a sum of 64 bits is the sum, where its terms are parts of currents
sum_kept : (a b : ℤ) → unsigned_abs a ≤ 2 ^ current_bits → unsigned_abs b ≤ 2 ^ current_bits
    → to_z w64 (of_z w64 (to_z w64 (of_z w64 a) +ℤ to_z w64 (of_z w64 b))) ≡ a +ℤ b
sum_kept a b ha hb = omega (arith, ints)

-- and so is a difference
difference_kept : (a b : ℤ) → unsigned_abs a ≤ 2 ^ current_bits → unsigned_abs b ≤ 2 ^ current_bits
    → to_z w64 (of_z w64 (to_z w64 (of_z w64 a) -ℤ to_z w64 (of_z w64 b))) ≡ a -ℤ b
difference_kept a b ha hb = omega (arith, ints)

-- the sum of two currents is what the code computes of their parts
pub plus_kept : (p q : Point) → IsWithin current_bits p → IsWithin current_bits q
    → point64 (to_z w64 (of_z w64 p.re) +ℤ to_z w64 (of_z w64 q.re)) (to_z w64 (of_z w64 p.im) +ℤ to_z w64 (of_z w64 q.im)) ≡ plus p q
plus_kept p q hp hq = rw (sum_kept p.re q.re hp.0 hq.0, sum_kept p.im q.im hp.1 hq.1) refl

-- and so is the difference
pub minus_kept : (p q : Point) → IsWithin current_bits p → IsWithin current_bits q
    → point64 (to_z w64 (of_z w64 p.re) -ℤ to_z w64 (of_z w64 q.re)) (to_z w64 (of_z w64 p.im) -ℤ to_z w64 (of_z w64 q.im)) ≡ minus p q
minus_kept p q hp hq = rw (difference_kept p.re q.re hp.0 hq.0, difference_kept p.im q.im hp.1 hq.1) refl
