-- The aligned number is alone: two of them would be half a spacing apart at least.
use Rattle.std.specs.Prelude.{ℤ, pos, negsuc, ◌-ℤ◌, ◌+ℤ◌, ◌*ℤ◌}
use Rattle.std.specs.Int.{int_div_euclid}
use Rattle.std.proofs.Common.{◌≡◌, ℕ, suc, ◌+◌, ◌*◌, ◌<◌, ◌≤◌, inl, inr, ap, arith, rules}
use Rattle.std.proofs.lemmas.Bool.{cases_order}
use Rattle.std.proofs.lemmas.Int.{ints}
use Rattle.std.proofs.Math.Nat.{mul-le-mul_left, mul-suc}
use Rattle.sample_store.specs.Aligned.{Aligned, IsWithinHalf, IsAligned}

abbrev AreBoth : ℕ → ℕ → ℤ → ℤ → ℤ → Type 0
AreBoth spacing number estimate2 n k = IsAligned spacing number estimate2 n × IsAligned spacing number estimate2 k

both_pos : (spacing number : ℕ) (e : ℤ) (a b : ℕ) → a < b → AreBoth spacing number e (pos a) (pos b) → ⊥
both_pos spacing number e a b below both =
    let step : 2 * spacing * (suc a) ≤ 2 * spacing * b = mul-le-mul_left (2 * spacing) below in
    let more = mul-suc (2 * spacing) a in
    let first = both.0 in
    let second = both.1 in
    omega (arith, ints)

both_negsuc : (spacing number : ℕ) (e : ℤ) (a b : ℕ) → a < b → AreBoth spacing number e (negsuc b) (negsuc a) → ⊥
both_negsuc spacing number e a b below both =
    let step : 2 * spacing * (suc (suc a)) ≤ 2 * spacing * suc b = mul-le-mul_left (2 * spacing) (omega arith) in
    let more = mul-suc (2 * spacing) (suc a) in
    let first = both.0 in
    let second = both.1 in
    omega (arith, ints)

both_sides : (spacing number : ℕ) (e : ℤ) (a b : ℕ) → 0 < spacing → AreBoth spacing number e (negsuc a) (pos b) → ⊥
both_sides spacing number e a b some both =
    let more = mul-suc (2 * spacing) a in
    let first = both.0 in
    let second = both.1 in
    omega (arith, ints)

pub IsAligned-alone : (spacing number : ℕ) (e n k : ℤ) → 0 < spacing → IsAligned spacing number e n → IsAligned spacing number e k → n ≡ k
IsAligned-alone spacing number e (pos a) (pos b) some first second = elim (cases_order a b) [
  | inl same ↦ ap pos same
  | inr differ ↦ elim differ [
    | inl below ↦ absurd (both_pos spacing number e a b below (first, second))
    | inr above ↦ absurd (both_pos spacing number e b a above (second, first))
  ]
]
IsAligned-alone spacing number e (negsuc a) (negsuc b) some first second = elim (cases_order a b) [
  | inl same ↦ ap negsuc same
  | inr differ ↦ elim differ [
    | inl below ↦ absurd (both_negsuc spacing number e a b below (second, first))
    | inr above ↦ absurd (both_negsuc spacing number e b a above (first, second))
  ]
]
IsAligned-alone spacing number e (negsuc a) (pos b) some first second = absurd (both_sides spacing number e a b some (first, second))
IsAligned-alone spacing number e (pos a) (negsuc b) some first second = absurd (both_sides spacing number e b a some (second, first))

floor-within : (z : ℤ) (half : ℕ) → 0 < half → IsWithinHalf half (((pos (2 * half) *ℤ int_div_euclid z (pos (2 * half))) -ℤ z) +ℤ pos half)
floor-within (pos n) half some = search rules
floor-within (negsuc n) half some = search rules

pub IsAligned-Aligned : (spacing number : ℕ) (e : ℤ) → 0 < spacing → IsAligned spacing number e (Aligned spacing number e)
IsAligned-Aligned spacing number e some =
    let near = floor-within (pos (spacing + 2 * number * spacing) -ℤ e) spacing some in
    record { above = omega (arith, ints); below = omega (arith, ints) }

-- the same, from a quotient
pub Aligned-read : (spacing number : ℕ) (e top bottom n : ℤ) → n ≡ int_div_euclid top bottom → top ≡ pos (spacing + 2 * number * spacing) -ℤ e
    → bottom ≡ pos (2 * spacing) → n ≡ Aligned spacing number e
Aligned-read spacing number e top bottom n is over by = rw (over, by) at is
