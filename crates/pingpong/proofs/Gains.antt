-- What a clock gains in a tick, and over many.
use Rattle.std.specs.Prelude.{nat_le, if◌then◌else◌, ℤ, pos, negsuc, unsigned_abs, fold, All, zero, suc}
use Rattle.std.proofs.Common.{◌≡◌, ℕ, ◌+◌, ◌-◌, ◌*◌, ◌≤◌, true, false, List, [], ◌∷◌, ap, arith}
use Rattle.std.proofs.Math.Nat.{mul-suc}
use Rattle.pingpong.specs.Clock.{Course, rate_at, gain, phase, reading}
use Rattle.pingpong.specs.Reading.{WithinDrift}
use Rattle.pingpong.specs.declared.clock.RateFrom.{RateFrom}

-- each rate is within that many millionths either way
abbrev pub AreWithin : ℕ → List RateFrom → Type 0
AreWithin most rates = All (λ r. unsigned_abs r.rate ≤ most) rates

-- the choice of the last rate that has begun
abbrev pub chosen : ℕ → ℤ → RateFrom → ℤ
chosen tick rate entry = if nat_le entry.from tick then entry.rate else rate

chosen_within : (most tick : ℕ) (rate : ℤ) (entry : RateFrom) → unsigned_abs rate ≤ most → unsigned_abs entry.rate ≤ most
    → unsigned_abs (chosen tick rate entry) ≤ most
chosen_within most tick rate entry small is_small = elim (nat_le entry.from tick) as (λ b. unsigned_abs (if b then entry.rate else rate) ≤ most) [ true ↦ is_small | false ↦ small ]

fold_within : (most tick : ℕ) (rates : List RateFrom) (rate : ℤ) → unsigned_abs rate ≤ most → AreWithin most rates
    → unsigned_abs (fold (chosen tick) rate rates) ≤ most
fold_within most tick [] rate small all = small
fold_within most tick (r ∷ rates) rate small all =
    fold_within most tick rates (chosen tick rate r) (chosen_within most tick rate r small (all 0 r (omega arith))) (λ k d inside. all (suc k) d (omega arith))

pub rate_at-within : (most tick : ℕ) (rates : List RateFrom) → AreWithin most rates → unsigned_abs (rate_at rates tick) ≤ most
rate_at-within most tick rates all = fold_within most tick rates (pos 0) (omega arith) all

pub gain-most : (most : ℕ) (rate : ℤ) → unsigned_abs rate ≤ most → gain rate ≤ 1000000 + most
gain-most most (pos n) small = omega arith
gain-most most (negsuc n) small = omega arith

gain-least : (most : ℕ) (rate : ℤ) → unsigned_abs rate ≤ most → 1000000 ≤ gain rate + most
gain-least most (pos n) small = omega arith
gain-least most (negsuc n) small = omega arith

pub phase-suc : (course : Course) (from count : ℕ)
    → phase course (from + suc count) ≡ phase course (from + count) + gain (rate_at course.rates (from + count))
phase-suc course from count = let next : from + suc count ≡ suc (from + count) = omega arith in ap (phase course) next

-- what it gains in some ticks
record IsGain (most before after count : ℕ) : Type 0 where
  pub above : after ≤ before + (1000000 + most) * count
  pub below : before + 1000000 * count ≤ after + most * count

gains : (most before now after count step : ℕ) → IsGain most before now count → step ≤ 1000000 + most → 1000000 ≤ step + most
    → after ≡ now + step → IsGain most before after (suc count)
gains most before now after count step gained above below is = record { above = omega (arith, mul-suc most count); below = omega (arith, mul-suc most count) }

phase-after : (most : ℕ) (course : Course) → AreWithin most course.rates → (from count : ℕ)
    → IsGain most (phase course from) (phase course (from + count)) count
phase-after most course all from zero =
    let here : phase course (from + 0) ≡ phase course from = ap (phase course) (omega arith) in
    record { above = omega (arith, here); below = omega (arith, here) }
phase-after most course all from (suc count) =
    let rate = rate_at course.rates (from + count) in
    let small = rate_at-within most (from + count) course.rates all in
    gains most (phase course from) (phase course (from + count)) _ count (gain rate) (phase-after most course all from count)
    (gain-most most rate small) (gain-least most rate small) (phase-suc course from count)

pub phase-most : (course : Course) (t : ℕ) → AreWithin 200 course.rates → phase course t ≤ 1000000 * course.start + 1000200 * t
phase-most course t all =
    let here : phase course (0 + t) ≡ phase course t = ap (phase course) (omega arith) in
    omega (arith, (phase-after 200 course all 0 t).above, here)

pub WithinDrift-phase : (drift : ℕ) (course : Course) → AreWithin drift course.rates → (first last : ℕ) → first ≤ last
    → WithinDrift drift (reading course first) (reading course last)
WithinDrift-phase drift course all first last order =
    let there : phase course (first + (last - first)) ≡ phase course last = ap (phase course) (omega arith) in
    let gained = rw there at (phase-after drift course all first (last - first)) in
    record { order = order; most = gained.above; least = gained.below }
