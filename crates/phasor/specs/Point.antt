-- Points of the complex plane in whole numbers, and their sizes.
use Rattle.std.specs.Prelude.{ℕ, ◌^◌, ◌≤◌, ℤ, pos, ◌+ℤ◌, ◌-ℤ◌, ◌*ℤ◌, unsigned_abs, List, [], ◌∷◌}

pub record Point : Type 0 where
  pub re : ℤ
  pub im : ℤ

abbrev pub origin : Point
origin = record { re = pos 0; im = pos 0 }

abbrev pub plus : Point → Point → Point
plus p q = record { re = p.re +ℤ q.re; im = p.im +ℤ q.im }

abbrev pub minus : Point → Point → Point
minus p q = record { re = p.re -ℤ q.re; im = p.im -ℤ q.im }

-- a point as many times
abbrev pub scaled : ℤ → Point → Point
scaled value p = record { re = value *ℤ p.re; im = value *ℤ p.im }

-- the sum of points
abbrev pub total : List Point → Point
total [] = origin
total (p ∷ ps) = plus p (total ps)

-- each part of a point lies within 2 ^ bits either way
abbrev pub IsWithin : ℕ → Point → Type 0
IsWithin bits p = (unsigned_abs p.re ≤ 2 ^ bits) × (unsigned_abs p.im ≤ 2 ^ bits)
