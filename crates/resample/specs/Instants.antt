-- How far in true time an own sample is from the instant to which its weight puts it, between two samples of a peer. (This project's own.)
use Rattle.std.specs.Prelude.{ℕ, ◌+◌, ◌-◌, ◌*◌, ◌≤◌, min, pos}
use Rattle.std.specs.Int.{abs_diff}
use Rattle.pingpong.specs.Bounded.{Passage, IsInOrder, asymmetry, stamps}
use Rattle.pingpong.specs.Exchange.{estimate2}
use Rattle.pingpong.specs.Reading.{Reading, SameClock}
use Rattle.sample_store.specs.Aligned.{IsSample}
use Rattle.resample.specs.Between.{IsBetween}

-- an exchange that is over by now, and three samples taken by now: n of the own clock, and of the peer's `first` and the next one,
-- between which n lies by the exchange
pub record AreMixed (spacing drift : ℕ) (p : Passage) (own one other : Reading) (n first now : ℕ) : Type 0 where
  pub order : IsInOrder p now
  pub own_by_now : own.time ≤ now
  pub in_turn : one.time ≤ other.time
  pub peers_by_now : other.time ≤ now
  pub own_sent : SameClock drift p.sent own
  pub own_back : SameClock drift p.back own
  pub one_came : SameClock drift p.came one
  pub one_turned : SameClock drift p.turned one
  pub other_came : SameClock drift p.came other
  pub other_turned : SameClock drift p.turned other
  pub own_sample : IsSample spacing n own
  pub one_sample : IsSample spacing first one
  pub other_sample : IsSample spacing (first + 1) other
  pub between : IsBetween spacing first (estimate2 (stamps p)) (pos n)

-- in half millionths of a tick, times the spacing of the peer's samples: how far the own sample is from the instant between the
-- peer's two that is weighed by w
abbrev pub mixed_error : ℕ → ℕ → ℕ → ℕ → ℕ → ℕ
mixed_error spacing w own one other = 2 * 1000000 * abs_diff (2 * spacing * own) (one * (2 * spacing - w) + other * w)

-- how far it can be: half the asymmetry, three ticks, and the drift since the first of the exchange and the samples. The spacing
-- only scales it
abbrev pub mixed_bound : ℕ → ℕ → ℕ → ℕ → ℕ
mixed_bound spacing drift asymmetry age = 2 * spacing * (1000000 * (asymmetry + 6) + 4 * drift * age)

-- the age of the oldest of the exchange, the own sample and the peer's first
abbrev pub age_of_mixed : ℕ → ℕ → ℕ → ℕ → ℕ
age_of_mixed sent own one now = now - min sent (min own one)
