-- The sizes of an accepted region.
use Rattle.std.proofs.Common.{◌≡◌, ℕ, ◌*◌, ◌^◌, ◌<◌, ◌≤◌, unsigned_abs, None, arith, mul-le-mul}
use Rattle.std.proofs.lemmas.Bool.Decides.{nat_tests}
use Rattle.std.proofs.lemmas.Int.{ints}
use Rattle.alpha_plane.specs.Inside.{Sector, norm_bits, side_bits}
use Rattle.alpha_plane.specs.Region.{region_fault}

-- what the ranges of an accepted region come to
pub record HasSizes (s : Sector) : Type 0 where
  pub some : 0 < s.rd
  pub ratio : s.rd ≤ s.rn
  pub rn : s.rn ≤ 2 ^ side_bits
  pub p : unsigned_abs s.p ≤ 2 ^ side_bits
  pub q : unsigned_abs s.q ≤ 2 ^ side_bits

-- a region with no fault has them
pub HasSizes-from_no_fault : (s : Sector) → region_fault s ≡ None → HasSizes s
unfolding region_fault
HasSizes-from_no_fault s e = record {
  some = grind (arith, nat_tests, ints);
  ratio = grind (arith, nat_tests, ints);
  rn = grind (arith, nat_tests, ints);
  p = grind (arith, nat_tests, ints);
  q = grind (arith, nat_tests, ints);
}

-- a norm times the square of a radius fits a u128
pub scaled_norm : (n m : ℕ) → n ≤ 2 ^ side_bits → m ≤ 2 ^ norm_bits → n * n * m < 2 ^ 128
scaled_norm n m h k = omega (arith, mul-le-mul (mul-le-mul h h) k)
