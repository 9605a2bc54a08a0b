-- How large sums of 16-bit values can be.
use Rattle.std.specs.Prelude.{◌≡◌, ◌≤◌, ◌^◌, ◌*◌, ◌+◌, ◌%◌, ℕ, zero, suc, ℤ, unsigned_abs, List, [], ◌∷◌, length, fold, slice_index_or}
use Rattle.std.specs.List.{All}
use Rattle.std.proofs.Common.{arith, subst, sym}
use Rattle.std.proofs.lemmas.Int.{ints}
use Rattle.std.proofs.lemmas.List.{get_or_past}
use Rattle.std.proofs.lemmas.List.Elements.{All-head, All-tail}
use Rattle.ld_base.specs.declared.phases.Phases.{Phases}
use Rattle.ld_base.specs.declared.phases.SampleSet.{SampleSet}
use Rattle.phasor.specs.Factors.{weighed}
use Rattle.phasor.specs.Point.{Point, IsWithin, origin, plus}
use Rattle.phasor.specs.Sizes.{AreWithin, sum_at, IsSample, AreSamples, IsOfSamples}
use Rattle.ld_base.specs.Phases.{no_current}
use Rattle.phasor.specs.Sum.{of_three, current, sum_of, sums_of}
use Rattle.phasor.proofs.Entries.{cosine_small, sine_small}
use Rattle.phasor.proofs.Values.{product_small}

-- each part of a point is at most n either way
abbrev IsAtMost : ℕ → Point → Type 0
IsAtMost n p = (unsigned_abs p.re ≤ n) × (unsigned_abs p.im ≤ n)

-- a point and one that lies within 2 ^ 29
plus_at_most : (n : ℕ) (p q : Point) → IsAtMost n p → IsWithin 29 q → IsAtMost (n + 2 ^ 29) (plus p q)
plus_at_most n p q hp hq = (omega (arith, ints), omega (arith, ints))

-- a value of 16 bits times its factor lies within 2 ^ 29
pub IsWithin-weighed : (c k : ℕ) (value : ℤ) → unsigned_abs value ≤ 2 ^ 15 → IsWithin 29 (weighed c k value)
IsWithin-weighed c k value h =
    (product_small value _ h (cosine_small c (k % c)), product_small value _ h (sine_small c (k % c)))

-- a sum that goes on from a point
fold_at_most : (c : ℕ) (value : SampleSet → ℤ) (n : ℕ) (p : Point) (sets : List SampleSet) → IsAtMost n p
    → All (λ set. unsigned_abs (value set) ≤ 2 ^ 15) sets
    → IsAtMost (n + length sets * 2 ^ 29) (fold (λ sum set. plus sum (weighed c set.number (value set))) p sets)
fold_at_most c value n p [] hp all = (omega arith, omega arith)
fold_at_most c value n p (set ∷ sets) hp all =
    let next = plus_at_most n p _ hp (IsWithin-weighed c set.number (value set) (All-head (λ s. unsigned_abs (value s) ≤ 2 ^ 15) set sets all)) in
    let rest = fold_at_most c value (n + 2 ^ 29) (plus p (weighed c set.number (value set))) sets next (All-tail (λ s. unsigned_abs (value s) ≤ 2 ^ 15) set sets all) in
    (omega (arith, rest.0), omega (arith, rest.1))

-- a sum of up to 20 values of 16 bits lies within 2 ^ 34
pub IsWithin-sum_of : (c : ℕ) (value : SampleSet → ℤ) (sets : List SampleSet) → length sets ≤ 20
    → All (λ set. unsigned_abs (value set) ≤ 2 ^ 15) sets → IsWithin 34 (sum_of c value sets)
IsWithin-sum_of c value sets few all =
    let size = fold_at_most c value 0 origin sets (omega arith, omega arith) all in
    (omega (arith, size.0), omega (arith, size.1))

-- what holds of no current and of the three phases, holds at each place
at_phase : (P : Point → Type 0) (sum : ℕ → Point) → P origin → ((phase : ℕ) → P (sum phase)) → (phase : ℕ)
    → P (slice_index_or (of_three sum) phase origin)
at_phase P sum none all zero = all 0
at_phase P sum none all (suc zero) = all 1
at_phase P sum none all (suc (suc zero)) = all 2
at_phase P sum none all (suc (suc (suc n))) = none

-- the same by station and phase
at_place : (P : Point → Type 0) (sum : ℕ → ℕ → Point) → P origin → ((station phase : ℕ) → P (sum station phase)) → (station phase : ℕ)
    → P (sum_at (of_three (λ s. of_three (sum s))) station phase)
at_place P sum none all zero phase = at_phase P (sum 0) none (all 0) phase
at_place P sum none all (suc zero) phase = at_phase P (sum 1) none (all 1) phase
at_place P sum none all (suc (suc zero)) phase = at_phase P (sum 2) none (all 2) phase
at_place P sum none all (suc (suc (suc n))) phase = none

-- the sums of up to 20 sets lie within 2 ^ 34
pub AreWithin-sums_of : (c : ℕ) (sets : List SampleSet) → length sets ≤ 20 → All IsOfSamples sets → AreWithin 34 (sums_of c sets)
AreWithin-sums_of c sets few all =
    at_place (IsWithin 34) (λ s p. sum_of c (current s p) sets) (omega arith, omega arith)
    (λ s p. IsWithin-sum_of c (current s p) sets few (λ k d h. all k d h s p))

-- a sample of three 16-bit values
pub IsSample-from : (sample : Phases) → unsigned_abs sample.a ≤ 2 ^ 15 → unsigned_abs sample.b ≤ 2 ^ 15 → unsigned_abs sample.c ≤ 2 ^ 15
    → IsSample sample
IsSample-from sample ha hb hc zero = ha
IsSample-from sample ha hb hc (suc zero) = hb
IsSample-from sample ha hb hc (suc (suc n)) = hc

-- no current
IsSample-no_current : IsSample no_current
IsSample-no_current = IsSample-from no_current (omega arith) (omega arith) (omega arith)

-- three samples
pub AreSamples-from : (values : List Phases) → length values ≡ 3 → IsSample (slice_index_or values 0 no_current)
    → IsSample (slice_index_or values 1 no_current) → IsSample (slice_index_or values 2 no_current) → AreSamples values
AreSamples-from values three h0 h1 h2 zero = h0
AreSamples-from values three h0 h1 h2 (suc zero) = h1
AreSamples-from values three h0 h1 h2 (suc (suc zero)) = h2
AreSamples-from values three h0 h1 h2 (suc (suc (suc n))) =
    subst IsSample (sym (get_or_past values (suc (suc (suc n))) no_current (omega arith))) IsSample-no_current
