-- Estimates: how far the one in force can be from the true offset, and when that is known. (This project's own.)
use Rattle.std.specs.Prelude.{◌≡◌, ◌↔◌, ℕ, suc, ◌+◌, ◌-◌, ◌*◌, ◌<◌, ◌≤◌, List, Some, take}
use Rattle.ld_base.specs.declared.fields.Fields.{Fields}
use Rattle.pingpong.specs.Bounded.{stamps}
use Rattle.pingpong.specs.Exchange.{exchange_of}
use Rattle.pingpong.specs.Journal.{passage}
use Rattle.pingpong.specs.declared.journal.Entry.{Entry}
use Rattle.relay_core.specs.Accepted.{Accepted, last_of}
use Rattle.relay_core.specs.declared.receipt.Receipt.{Receipt}
use Rattle.line_journal.specs.Stations.{ArePair}
use Rattle.line_journal.specs.Report.{bound_of, crossing_in_force, error_of, station_of}
use Rattle.relay_core.specs.StationLog.{StationLog}
use Rattle.line_journal.specs.declared.crossing.Crossing.{Crossing}
use Rattle.line_journal.specs.declared.crossing.Legs.{Legs}
use Rattle.true_time.specs.Places.{Began, IsAt, WasAccepted}

-- the exchange in force with a peer at an entry, whatever station the entry is of
pub record IsInForce (f : Fields) (me peer : ℕ) (journal : List Entry) (place : ℕ) (entry : Entry) (crossing : Crossing) : Type 0 where
  pub is_at : IsAt journal place entry
  pub in_force : crossing_in_force f me peer (take (suc place) journal) ≡ Some crossing

-- the accepted message by which an exchange came about, at an entry that isn't later
pub record ComesFrom (f : Fields) (me peer : ℕ) (journal : List Entry) (place : ℕ) (crossing : Crossing) : Type 0 where
  pub back_at : ℕ
  pub back : Entry
  pub second : Receipt
  pub by_then : back_at ≤ place
  pub accepted : WasAccepted f me peer journal back_at back second
  pub exchange : exchange_of second.message second.at ≡ Some crossing.exchange

-- its two messages are honest: the second equals one that began at an earlier entry on its line, and the first, which the sender of the
-- second had accepted last by then, equals one that began still earlier on the line there. These are the true times of the two
pub record AreHonest (f : Fields) (me peer : ℕ) (journal : List Entry) (back_at : ℕ) (back : Entry) (second : Receipt) (legs : Legs) : Type 0 where
  pub sent_at : ℕ
  pub came_at : ℕ
  pub turned_at : ℕ
  pub sent : Entry
  pub came : Entry
  pub turned : Entry
  pub first : Receipt
  pub there : sent_at < came_at
  pub held : came_at < turned_at
  pub home : turned_at < back_at
  pub second_began : Began f peer me journal turned_at turned second.message
  pub last : last_of (Accepted f peer me (StationLog peer (take turned_at journal))) ≡ Some first
  pub first_came : WasAccepted f peer me journal came_at came first
  pub first_began : Began f me peer journal sent_at sent first.message
  pub times : legs ≡ record { sent = sent.time; came = came.time; turned = turned.time; back = back.time }

-- the estimate of an exchange at an entry: it is known how far it can be exactly where both messages are honest. Then the stamps of the
-- exchange are those of the clocks at the four entries, and it is no farther from the true offset than half the asymmetry, the drift
-- since the exchange began, and a tick
pub record IsTraced (f : Fields) (me peer : ℕ) (journal : List Entry) (place : ℕ) (entry : Entry) (crossing : Crossing) : Type 0 where
  pub from : ComesFrom f me peer journal place crossing
  pub known : (legs : Legs) → (crossing.legs ≡ Some legs) ↔ AreHonest f me peer journal from.back_at from.back from.second legs
  pub stamps_are : (legs : Legs) (honest : AreHonest f me peer journal from.back_at from.back from.second legs)
      → crossing.exchange ≡ stamps (passage me peer honest.sent honest.came honest.turned from.back)
  pub bounded : (legs : Legs) → crossing.legs ≡ Some legs → error_of me peer entry crossing.exchange ≤ bound_of f.drift entry.time legs

-- the estimate law
abbrev pub EstimatesAreBounded : Fields → List Entry → Type 0
EstimatesAreBounded f journal =
    (me peer place : ℕ) (entry : Entry) (crossing : Crossing) → ArePair f.stations me peer → IsInForce f me peer journal place entry crossing
    → IsTraced f me peer journal place entry crossing

-- the age law of exchanges: at an entry of the station one that is in force and whose messages are honest began less than its age and a
-- tick ago, by a clock that may be slow
abbrev pub ExchangesAreYoung : Fields → List Entry → Type 0
ExchangesAreYoung f journal =
    (me peer place : ℕ) (entry : Entry) (crossing : Crossing) (legs : Legs) → ArePair f.stations me peer → IsInForce f me peer journal place entry crossing
    → station_of entry.what ≡ me → crossing.legs ≡ Some legs → (1000000 - f.drift) * (entry.time - legs.sent) < 1000000 * (f.age + 1)
