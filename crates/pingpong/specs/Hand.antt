-- A hand that goes with a clock from tick to tick.
use Rattle.std.specs.Prelude.{◌≡◌, ℕ, ◌+◌, ◌*◌, ◌≤◌, List, length, take}
use Rattle.pingpong.specs.Clock.{Course, rate_at, gain, phase}
use Rattle.pingpong.specs.declared.clock.RateFrom.{RateFrom}

-- a clock, and the true time that its hand has come to
pub record At : Type 0 where
  pub course : Course
  pub time : ℕ

-- so many rates were passed, and this is what a tick gains by them, from this time on
pub record IsPace (rates : List RateFrom) (time passed gained : ℕ) : Type 0 where
  pub inside : passed ≤ length rates
  pub gains : (tick : ℕ) → time ≤ tick → gained ≡ gain (rate_at (take passed rates) tick)

-- what a hand keeps is right
pub record IsHand (course : Course) (time phase_now passed gained : ℕ) : Type 0 where
  pub most : time ≤ 60000000
  pub phase : phase_now ≡ phase course time
  pub small : phase_now ≤ 1000000000000000000 + 1000200 * time
  pub pace : IsPace course.rates time passed gained
