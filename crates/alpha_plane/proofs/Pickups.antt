-- A differential current whose parts together lie below half the pickup doesn't pass it.
use Rattle.std.proofs.Common.{◌≡◌, ℕ, ◌+◌, ◌*◌, ◌≤◌, false, arith, mul-le-mul}
use Rattle.std.specs.Prelude.{nat_lt}
use Rattle.std.proofs.lemmas.Bool.{le-ltb}
use Rattle.alpha_plane.specs.Inside.{square}

-- the sum of two squares is at most the square of the sum
squares_of_parts : (a b l : ℕ) → 2 * (a + b) ≤ l → 4 * (square a + square b) ≤ square l
squares_of_parts a b l h = omega (arith, mul-le-mul h h)

pub low_pickup : (a b l : ℕ) → 2 * (a + b) ≤ l → nat_lt (square l) (4 * (square a + square b)) ≡ false
low_pickup a b l h = le-ltb _ _ (squares_of_parts a b l h)
