-- Mixed values in a run: each belongs to nearly the instant of the own sample. (This project's own.)
use Rattle.std.specs.Prelude.{◌≡◌, ℕ, ◌+◌, ◌-◌, ◌≤◌, pos, List, Some}
use Rattle.std.specs.Int.{abs_diff}
use Rattle.ld_base.specs.declared.fields.Fields.{Fields}
use Rattle.ld_base.specs.declared.phases.Phases.{Phases}
use Rattle.pingpong.specs.Exchange.{estimate2}
use Rattle.pingpong.specs.declared.journal.Entry.{Entry}
use Rattle.resample.specs.Between.{IsBetween, weight}
use Rattle.resample.specs.Instants.{age_of_mixed, mixed_bound, mixed_error}
use Rattle.line_journal.specs.Stations.{ArePair}
use Rattle.line_journal.specs.declared.crossing.Crossing.{Crossing}
use Rattle.line_journal.specs.declared.crossing.Legs.{Legs}
use Rattle.true_time.specs.Estimates.{IsInForce}
use Rattle.true_time.specs.Places.{WasTaken}

-- a station took the sample of a number before a place
pub record WasSampled (f : Fields) (station : ℕ) (journal : List Entry) (place n : ℕ) : Type 0 where
  pub taken_at : ℕ
  pub taken : Entry
  pub values : Phases
  pub by_then : taken_at ≤ place
  pub sample : WasTaken f station journal taken_at taken (record { number = n; values = values })

-- the own sample n, and the peer's `first` and the next one, between which it lies by the exchange in force, whose messages are honest
pub record LiesAt (f : Fields) (me peer : ℕ) (journal : List Entry) (place : ℕ) (entry : Entry) (n first : ℕ) (crossing : Crossing) (legs : Legs) : Type 0 where
  pub in_force : IsInForce f me peer journal place entry crossing
  pub traced : crossing.legs ≡ Some legs
  pub own : WasSampled f me journal place n
  pub one : WasSampled f peer journal place first
  pub other : WasSampled f peer journal place (first + 1)
  pub between : IsBetween f.spacing first (estimate2 crossing.exchange) (pos n)

-- what is mixed of both belongs to nearly the own instant
abbrev pub MixesAreNear : Fields → List Entry → Type 0
MixesAreNear f journal =
    (me peer place : ℕ) (entry : Entry) (n first : ℕ) (crossing : Crossing) (legs : Legs) → ArePair f.stations me peer
    → (at : LiesAt f me peer journal place entry n first crossing legs)
    → mixed_error f.spacing (weight f.spacing first (estimate2 crossing.exchange) n) at.own.taken.time at.one.taken.time at.other.taken.time
    ≤ mixed_bound f.spacing f.drift (abs_diff (legs.came - legs.sent) (legs.back - legs.turned)) (age_of_mixed legs.sent at.own.taken.time at.one.taken.time entry.time)
