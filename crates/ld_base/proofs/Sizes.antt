-- The size of a signed number is the number without its sign. A number of at most k bits has a size of at most 2 ^ k.
use Rattle.std.proofs.Common.{◌≡◌, ℕ, ◌+◌, ◌^◌, ◌<◌, ◌≤◌, ℤ, ◌+ℤ◌, ◌-ℤ◌, ◌*ℤ◌, neg_ℤ, unsigned_abs, to_z, of_z, arith, pow_mono, pow-add, mul-le-mul, to_z-of_z}
use Rattle.std.proofs.lemmas.Int.{ints, unsigned_abs-mul, fits_signed_from_abs}
use mir.Syntax.{w128}

-- a sum is at most as large as both numbers together
pub unsigned_abs-add : (a b : ℤ) → unsigned_abs (a +ℤ b) ≤ unsigned_abs a + unsigned_abs b
unsigned_abs-add a b = omega (arith, ints)

-- so is a difference
pub unsigned_abs-sub : (a b : ℤ) → unsigned_abs (a -ℤ b) ≤ unsigned_abs a + unsigned_abs b
unsigned_abs-sub a b = omega (arith, ints)

-- a negation is as large as the number
pub unsigned_abs-neg : (a : ℤ) → unsigned_abs (neg_ℤ a) ≡ unsigned_abs a
unsigned_abs-neg a = omega (arith, ints)

-- the product of numbers of at most m and n bits has at most m + n
pub unsigned_abs-mul_bits : (a b : ℤ) (m n : ℕ) → unsigned_abs a ≤ 2 ^ m → unsigned_abs b ≤ 2 ^ n → unsigned_abs (a *ℤ b) ≤ 2 ^ (m + n)
unsigned_abs-mul_bits a b m n p q = omega (arith, unsigned_abs-mul a b, mul-le-mul p q, pow-add 2 m n)

-- powers below 2 ^ 126 and up to it, as numerals
pub power_below_126 : (k : ℕ) → k < 126 → 2 ^ k ≤ 2 ^ 125
power_below_126 k h = pow_mono {i = k} {j = 125} (omega arith)

pub power_to_126 : (k : ℕ) → k ≤ 126 → 2 ^ k ≤ 2 ^ 126
power_to_126 k h = pow_mono {i = k} {j = 126} h

-- a number of at most 126 bits is read back from an i128 as it is
pub to_z-of_z_128 : (z : ℤ) → unsigned_abs z < 2 ^ 127 → to_z w128 (of_z w128 z) ≡ z
to_z-of_z_128 z h = to_z-of_z (fits_signed_from_abs w128 z h)

-- the sizes of what is calculated
pub ruleset sizes = (unsigned_abs-add, unsigned_abs-sub, unsigned_abs-neg, unsigned_abs-mul, unsigned_abs-mul_bits)

-- that sizes named in bits fit an i128
pub ruleset in_128 = (power_below_126, power_to_126, fits_signed_from_abs, to_z-of_z_128)
