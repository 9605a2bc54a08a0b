-- A weighed value lies between both, and so does the greatest whole number that isn't above it.
use Rattle.std.specs.Prelude.{ℤ, pos, negsuc, ◌+ℤ◌, ◌*ℤ◌, ◌≤ℤ◌, unsigned_abs}
use Rattle.std.specs.Int.{int_div_euclid, int_min, int_max}
use Rattle.std.proofs.Common.{◌≡◌, ℕ, suc, ◌+◌, ◌-◌, ◌*◌, ◌<◌, ◌≤◌, ◌^◌, FitsSigned, w16, arith}
use Rattle.std.proofs.lemmas.Int.{ints, clamps, by_lt_z, unsigned_abs-mul}
use Rattle.std.proofs.Math.IntN.{*ℤ_comm, *ℤ-zero}
use Rattle.std.proofs.Math.Nat.{mul-le-mul, mul-le-mul_left}
use Rattle.resample.specs.Quotient.{IsRoundedDown}
use Rattle.resample.specs.Values.{weighed, mixed_value, LiesBetween}
use Rattle.resample.proofs.Quotients.{IsRoundedDown-div, IsRoundedDown-alone, least}

-- a product of a sum
shared : (x : ℤ) (a b : ℕ) → x *ℤ pos (a + b) ≡ (x *ℤ pos a) +ℤ (x *ℤ pos b)
shared (pos n) a b = omega (arith, ints)
shared (negsuc n) a b = omega (arith, ints)

scaled : (k : ℕ) (x y : ℤ) → x ≤ℤ y → (x *ℤ pos k) ≤ℤ (y *ℤ pos k)
scaled k (pos m) (pos n) above = let more : k * m ≤ k * n = mul-le-mul_left k (omega (arith, ints)) in omega (arith, ints)
scaled k (negsuc m) (negsuc n) above = let more : k * suc n ≤ k * suc m = mul-le-mul_left k (omega (arith, ints)) in omega (arith, ints)
scaled k (negsuc m) (pos n) above = omega (arith, ints)
scaled k (pos m) (negsuc n) above = absurd (omega (arith, ints))

-- what lies between two values, by the distance of both
record IsWithin (whole : ℕ) (low high sum : ℤ) : Type 0 where
  above : (pos whole *ℤ low) ≤ℤ sum
  below : sum ≤ℤ (pos whole *ℤ high)

rising : (a w : ℕ) (x y : ℤ) → x ≤ℤ y → IsWithin (a + w) x y ((x *ℤ pos a) +ℤ (y *ℤ pos w))
rising a w x y above =
    let first = shared x a w in
    let last = shared y a w in
    let more = scaled w x y above in
    let less = scaled a x y above in
    record {
      above = rw (*ℤ_comm (pos (a + w)) x) (omega (arith, ints));
      below = rw (*ℤ_comm (pos (a + w)) y) (omega (arith, ints));
    }

falling : (a w : ℕ) (x y : ℤ) → y ≤ℤ x → IsWithin (a + w) y x ((x *ℤ pos a) +ℤ (y *ℤ pos w))
falling a w x y above =
    let first = shared x a w in
    let last = shared y a w in
    let more = scaled w y x above in
    let less = scaled a y x above in
    record {
      above = rw (*ℤ_comm (pos (a + w)) y) (omega (arith, ints));
      below = rw (*ℤ_comm (pos (a + w)) x) (omega (arith, ints));
    }

record IsFrom (low high value : ℤ) : Type 0 where
  least : low ≤ℤ value
  most : value ≤ℤ high

rounded : (whole : ℕ) (low high sum q : ℤ) → 0 < whole → IsWithin whole low high sum → IsRoundedDown sum whole q → IsFrom low high q
rounded whole low high sum q some within down = record {
  least = least whole low q some (omega (arith, ints, within.above, down.below));
  most = least whole q high some (omega (arith, ints, within.below, down.reached));
}

parts : (spacing w : ℕ) → w ≤ 2 * spacing → (2 * spacing - w) + w ≡ 2 * spacing
parts spacing w inside = omega arith

pub mixed_value-rounded : (spacing w : ℕ) (x y : ℤ) → 0 < spacing → IsRoundedDown (weighed spacing w x y) (2 * spacing) (mixed_value spacing w x y)
mixed_value-rounded spacing w x y some = IsRoundedDown-div (weighed spacing w x y) (2 * spacing) (omega arith)

pub mixed_value-between : (spacing w : ℕ) (x y : ℤ) → 0 < spacing → w ≤ 2 * spacing → LiesBetween x y (mixed_value spacing w x y)
mixed_value-between spacing w x y some inside =
    by_lt_z y x
    (λ less.
    let within = rw (parts spacing w inside) at (falling (2 * spacing - w) w x y (omega (arith, ints))) in
    let from = rounded (2 * spacing) y x (weighed spacing w x y) (mixed_value spacing w x y) (omega arith) within (mixed_value-rounded spacing w x y some) in
    both (omega (arith, ints, clamps, from.least)) (omega (arith, ints, clamps, from.most)))
    (λ above.
    let within = rw (parts spacing w inside) at (rising (2 * spacing - w) w x y above) in
    let from = rounded (2 * spacing) x y (weighed spacing w x y) (mixed_value spacing w x y) (omega arith) within (mixed_value-rounded spacing w x y some) in
    both (omega (arith, ints, clamps, from.least)) (omega (arith, ints, clamps, from.most)))
  where
    both : int_min x y ≤ℤ mixed_value spacing w x y → mixed_value spacing w x y ≤ℤ int_max x y → LiesBetween x y (mixed_value spacing w x y)
    both low high = record { least = low; most = high }

pub mixed_value-first : (spacing : ℕ) (x y : ℤ) → 0 < spacing → mixed_value spacing 0 x y ≡ x
mixed_value-first spacing x y some =
    IsRoundedDown-alone (weighed spacing 0 x y) (2 * spacing) (mixed_value spacing 0 x y) x (omega arith) (mixed_value-rounded spacing 0 x y some) first
  where
    whole : 2 * spacing - 0 ≡ 2 * spacing
    whole = omega arith

    first : IsRoundedDown (weighed spacing 0 x y) (2 * spacing) x
    first = rw (whole, *ℤ-zero y, *ℤ_comm x (pos (2 * spacing))) (record { reached = omega (arith, ints); below = omega (arith, ints) })

-- the same, from a quotient
pub mixed_value-read : (spacing w : ℕ) (x y top bottom q : ℤ) → q ≡ int_div_euclid top bottom → top ≡ weighed spacing w x y
    → bottom ≡ pos (2 * spacing) → q ≡ mixed_value spacing w x y
mixed_value-read spacing w x y top bottom q is over by = rw (over, by) at is

-- what lies between two values of 16 bits has 16 bits
pub fits-between : (x y value : ℤ) → FitsSigned w16 x → FitsSigned w16 y → LiesBetween x y value → FitsSigned w16 value
fits-between x y value one other between = omega (arith, ints, clamps, between.least, between.most, one, other)

-- a value of 16 bits by a weight has less than 30
pub product-small : (value : ℤ) (weight : ℕ) → FitsSigned w16 value → weight ≤ 20000 → unsigned_abs (value *ℤ pos weight) < 2 ^ 30
product-small value weight fits light =
    let short : unsigned_abs value ≤ 2 ^ 15 = omega (arith, ints) in
    let product : unsigned_abs value * weight ≤ 2 ^ 15 * 20000 = mul-le-mul short light in
    rw (unsigned_abs-mul value (pos weight)) (omega arith)
