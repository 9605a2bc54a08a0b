-- The clock rule: a start, and rates that hold from given ticks on. (This project's own.)
use Rattle.std.specs.Prelude.{ℕ, zero, suc, ◌+◌, ◌-◌, ◌*◌, ◌≤◌, nat_le, if◌then◌else◌, ℤ, pos, negsuc, unsigned_abs, List, fold, length, All}
use Rattle.std.specs.List.Sorted.{IsNonDecreasingBy}
use Rattle.pingpong.specs.Reading.{Reading}
use Rattle.pingpong.specs.declared.clock.RateFrom.{RateFrom}

-- a start in ticks, and the rates in the order of a scenario
pub record Course : Type 0 where
  pub start : ℕ
  pub rates : List RateFrom

-- what a clock accepts
pub record IsCourse (course : Course) : Type 0 where
  pub start : course.start ≤ 1000000000000
  pub few : length course.rates ≤ 16
  pub in_range : All (λ r. unsigned_abs r.rate ≤ 200) course.rates
  pub in_turn : IsNonDecreasingBy (λ r. r.from) course.rates

-- the rate in a tick: that of the last entry that holds from this tick or an earlier one, or 0
abbrev pub rate_at : List RateFrom → ℕ → ℤ
rate_at rates tick = fold (λ rate entry. if nat_le entry.from tick then entry.rate else rate) (pos 0) rates

-- a million and a rate: what a phase gains in a tick
abbrev pub gain : ℤ → ℕ
gain (pos n) = 1000000 + n
gain (negsuc n) = 1000000 - (n + 1)

-- the phase at a true time, in millionths of a tick: the start, and what each tick before gained
abbrev pub phase : Course → ℕ → ℕ
phase course zero = 1000000 * course.start
phase course (suc tick) = phase course tick + gain (rate_at course.rates tick)

-- the clock read at a true time
abbrev pub reading : Course → ℕ → Reading
reading course time = record { time = time; phase = phase course time }
