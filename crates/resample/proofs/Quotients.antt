-- The greatest whole number not above a quotient: a division that rounds down gives it, and no other number is it.
use Rattle.std.specs.Prelude.{ℤ, pos, negsuc, ◌+ℤ◌, ◌*ℤ◌, ◌<ℤ◌, ◌≤ℤ◌}
use Rattle.std.specs.Int.{int_div_euclid}
use Rattle.std.proofs.Common.{◌≡◌, ℕ, suc, ◌*◌, ◌<◌, ◌≤◌, ap, arith, rules}
use Rattle.std.proofs.lemmas.Int.{ints, by_lt_z}
use Rattle.std.proofs.Math.Nat.{mul-le-mul_left, mul-suc}
use Rattle.resample.specs.Quotient.{IsRoundedDown}

pub IsRoundedDown-div : (z : ℤ) (d : ℕ) → 0 < d → IsRoundedDown z d (int_div_euclid z (pos d))
IsRoundedDown-div (pos n) d some = record { reached = search rules; below = search rules }
IsRoundedDown-div (negsuc n) d some = record { reached = search rules; below = search rules }

-- a greater factor gives a product that is greater by the other factor
pub step : (d : ℕ) (q k : ℤ) → q <ℤ k → ((pos d *ℤ q) +ℤ pos d) ≤ℤ (pos d *ℤ k)
step d (pos a) (pos b) less =
    let more : d * suc a ≤ d * b = mul-le-mul_left d (omega (arith, ints)) in
    let one = mul-suc d a in
    omega (arith, ints)
step d (negsuc a) (negsuc b) less =
    let more : d * suc (suc b) ≤ d * suc a = mul-le-mul_left d (omega (arith, ints)) in
    let one = mul-suc d (suc b) in
    omega (arith, ints)
step d (negsuc a) (pos b) less =
    let one = mul-suc d a in
    omega (arith, ints)
step d (pos a) (negsuc b) less = absurd (omega (arith, ints))

same : (q k : ℤ) → q ≤ℤ k → k ≤ℤ q → q ≡ k
same (pos a) (pos b) above below = ap pos (omega (arith, ints))
same (negsuc a) (negsuc b) above below = ap negsuc (omega (arith, ints))
same (negsuc a) (pos b) above below = absurd (omega (arith, ints))
same (pos a) (negsuc b) above below = absurd (omega (arith, ints))

-- where a product isn't above another by the same positive factor, its other factor isn't
pub least : (d : ℕ) (q k : ℤ) → 0 < d → (pos d *ℤ q) <ℤ ((pos d *ℤ k) +ℤ pos d) → q ≤ℤ k
least d q k some product = by_lt_z k q (λ less. let more = step d k q less in absurd (omega (arith, ints))) (λ holds. holds)

-- no other number is rounded down
pub IsRoundedDown-alone : (z : ℤ) (d : ℕ) (q k : ℤ) → 0 < d → IsRoundedDown z d q → IsRoundedDown z d k → q ≡ k
IsRoundedDown-alone z d q k some one other =
    same q k (least d q k some (omega (arith, ints, one.reached, other.below))) (least d k q some (omega (arith, ints, other.reached, one.below)))
