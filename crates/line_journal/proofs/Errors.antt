-- The error of an estimate fits 128 bits.
use Rattle.std.proofs.Common.{◌≡◌, ◌^◌, ◌<◌, ℤ, pos, ◌-ℤ◌, ◌*ℤ◌, unsigned_abs, to_z, of_z, arith, to_z-of_z, ap, ◌∙◌}
use Rattle.std.proofs.lemmas.Int.{fits_signed_from_abs, ints}
use mir.Syntax.{w128}

read : (z : ℤ) → unsigned_abs z < 2 ^ 127 → to_z w128 (of_z w128 z) ≡ z
read z small = to_z-of_z (fits_signed_from_abs w128 z small)

module _ (e o w : ℤ) (size : unsigned_abs e < 2 ^ 49) (own : unsigned_abs o < 2 ^ 64) (other : unsigned_abs w < 2 ^ 64) where
  apart : unsigned_abs (w -ℤ o) < 2 ^ 65
  apart = omega (arith, ints)

  large : unsigned_abs (pos 1000000 *ℤ e) < 2 ^ 69
  large = omega (arith, ints)

  twice : unsigned_abs (pos 2 *ℤ (w -ℤ o)) < 2 ^ 66
  twice = omega (arith, ints)

  pub scaled : to_z w128 (of_z w128 (pos 1000000 *ℤ to_z w128 (of_z w128 e))) ≡ pos 1000000 *ℤ e
  scaled = ap (λ z. to_z w128 (of_z w128 (pos 1000000 *ℤ z))) (read e (omega (arith, size))) ∙ read (pos 1000000 *ℤ e) (omega (arith, large))

  pub doubled : to_z w128 (of_z w128 (pos 2 *ℤ to_z w128 (of_z w128 (to_z w128 (of_z w128 w) -ℤ to_z w128 (of_z w128 o))))) ≡ pos 2 *ℤ (w -ℤ o)
  doubled =
      ap (λ z. to_z w128 (of_z w128 (pos 2 *ℤ to_z w128 (of_z w128 (z -ℤ to_z w128 (of_z w128 o)))))) (read w (omega (arith, other)))
      ∙ ap (λ z. to_z w128 (of_z w128 (pos 2 *ℤ to_z w128 (of_z w128 (w -ℤ z))))) (read o (omega (arith, own)))
      ∙ ap (λ z. to_z w128 (of_z w128 (pos 2 *ℤ z))) (read (w -ℤ o) (omega (arith, apart)))
      ∙ read (pos 2 *ℤ (w -ℤ o)) (omega (arith, twice))

  pub difference : unsigned_abs ((pos 1000000 *ℤ e) -ℤ (pos 2 *ℤ (w -ℤ o))) < 2 ^ 127
  difference = omega (arith, ints, large, twice)

  pub difference-read : to_z w128 (of_z w128 ((pos 1000000 *ℤ e) -ℤ (pos 2 *ℤ (w -ℤ o)))) ≡ (pos 1000000 *ℤ e) -ℤ (pos 2 *ℤ (w -ℤ o))
  difference-read = read _ difference
