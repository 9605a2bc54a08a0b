-- The greatest whole number that isn't above a quotient, whatever the sign.
use Rattle.std.specs.Prelude.{ℕ, ℤ, pos, ◌+ℤ◌, ◌*ℤ◌, ◌<ℤ◌, ◌≤ℤ◌}

-- q is the greatest whole number not above z / d: d*q <= z < d*q + d
pub record IsRoundedDown (z : ℤ) (d : ℕ) (q : ℤ) : Type 0 where
  pub reached : (pos d *ℤ q) ≤ℤ z
  pub below : z <ℤ ((pos d *ℤ q) +ℤ pos d)
