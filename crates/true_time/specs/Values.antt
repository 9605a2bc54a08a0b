-- Values: those of a judged set are samples that their stations took, at nearly one time, and young. (This project's own.)
use Rattle.std.specs.Prelude.{◌≡◌, ℕ, ◌+◌, ◌-◌, ◌*◌, ◌<◌, ◌≤◌, min, pos, List, Some}
use Rattle.std.specs.Int.{abs_diff}
use Rattle.ld_base.specs.declared.fields.Fields.{Fields}
use Rattle.ld_base.specs.declared.phases.SampleSet.{SampleSet}
use Rattle.pingpong.specs.Exchange.{estimate2}
use Rattle.pingpong.specs.declared.journal.Entry.{Entry}
use Rattle.relay_core.specs.declared.receipt.Receipt.{Receipt}
use Rattle.sample_store.specs.Aligned.{Aligned}
use Rattle.line_journal.specs.Stations.{ArePair}
use Rattle.line_journal.specs.declared.crossing.Crossing.{Crossing}
use Rattle.line_journal.specs.declared.crossing.Legs.{Legs}
use Rattle.waveform_reader.specs.Sound.{IsStation}
use Rattle.true_time.specs.Estimates.{IsInForce}
use Rattle.true_time.specs.Places.{WasAccepted, WasJudged, WasPlaced, WasTaken, part_of, value_of}

-- the own value of a set is the sample of that number, which the judging station took by then, less than the limit ago by a clock that
-- may be slow
pub record IsOwnSample (f : Fields) (me : ℕ) (journal : List Entry) (place : ℕ) (entry : Entry) (set : SampleSet) : Type 0 where
  pub taken_at : ℕ
  pub taken : Entry
  pub by_then : taken_at ≤ place
  pub sample : WasTaken f me journal taken_at taken (part_of set me)
  pub young : (1000000 - f.drift) * (entry.time - taken.time) < 1000000 * f.limit

-- a peer's value of a set was placed under that number with the message accepted at an entry, by the exchange in force there
pub record IsAlignedValue (f : Fields) (me peer : ℕ) (journal : List Entry) (place : ℕ) (set : SampleSet) : Type 0 where
  pub came_at : ℕ
  pub came : Entry
  pub receipt : Receipt
  pub crossing : Crossing
  pub by_then : came_at ≤ place
  pub accepted : WasAccepted f me peer journal came_at came receipt
  pub in_force : IsInForce f me peer journal came_at came crossing
  pub aligned : Aligned f.spacing receipt.message.number (estimate2 crossing.exchange) ≡ pos set.number
  pub placed : WasPlaced f me peer journal came_at came (part_of set peer)
  pub values : receipt.message.phases ≡ value_of set peer

-- the sample that a peer took under the number in the placed message, with these values, before that came
pub record IsPeersSample (f : Fields) (me peer : ℕ) (journal : List Entry) (place : ℕ) (set : SampleSet) (value : IsAlignedValue f me peer journal place set) : Type 0 where
  pub taken_at : ℕ
  pub taken : Entry
  pub by_then : taken_at < value.came_at
  pub sample : WasTaken f peer journal taken_at taken (record { number = value.receipt.message.number; values = value_of set peer })

-- in half millionths of a tick: how far apart the instants can be at which two stations took the values that an exchange aligns, seen
-- from a true time: half a spacing, half the asymmetry, three ticks, and the drift since the first of the three
abbrev pub apart_by : Fields → Legs → ℕ → ℕ → ℕ → ℕ
apart_by f legs own peer now =
    1000000 * (f.spacing + abs_diff (legs.came - legs.sent) (legs.back - legs.turned) + 6) + 4 * f.drift * (now - min legs.sent (min own peer))

-- a peer's value in a set that was judged is a sample that the peer took, at nearly the time at which the own one was taken
pub record IsTrueValue (f : Fields) (me peer : ℕ) (journal : List Entry) (place : ℕ) (entry : Entry) (set : SampleSet) (own : IsOwnSample f me journal place entry set) : Type 0 where
  pub value : IsAlignedValue f me peer journal place set
  pub sample : IsPeersSample f me peer journal place set value
  pub legs : Legs
  pub traced : value.crossing.legs ≡ Some legs
  pub near : 2 * 1000000 * abs_diff own.taken.time sample.taken.time ≤ apart_by f legs own.taken.time sample.taken.time entry.time

-- in half millionths of a tick: how far the value of a peer can be from the own one
abbrev pub nearness : {f : Fields} {me peer : ℕ} {journal : List Entry} {place : ℕ} {entry : Entry} {set : SampleSet} {own : IsOwnSample f me journal place entry set}
    → IsTrueValue f me peer journal place entry set own → ℕ
nearness {f = f} {entry = entry} {own = own} v = apart_by f v.legs own.taken.time v.sample.taken.time entry.time

-- the values of a judged set, without a premise: the own one is real and young, and each peer's was placed by an exchange in force
pub record IsAlignedSet (f : Fields) (me : ℕ) (journal : List Entry) (place : ℕ) (entry : Entry) (set : SampleSet) : Type 0 where
  pub own : IsOwnSample f me journal place entry set
  pub peers : (peer : ℕ) → ArePair f.stations me peer → IsAlignedValue f me peer journal place set

-- the values of a judged set in an honest journal: each peer's is real too and near the own one, so those of two peers are near each other
pub record IsTrueSet (f : Fields) (me : ℕ) (journal : List Entry) (place : ℕ) (entry : Entry) (set : SampleSet) : Type 0 where
  pub own : IsOwnSample f me journal place entry set
  pub peers : (peer : ℕ) → ArePair f.stations me peer → IsTrueValue f me peer journal place entry set own
  pub near : (one other : ℕ) (is_one : ArePair f.stations me one) (is_other : ArePair f.stations me other)
      → 2 * 1000000 * abs_diff (peers one is_one).sample.taken.time (peers other is_other).sample.taken.time
      ≤ nearness (peers one is_one) + nearness (peers other is_other)

-- what every judged set is
abbrev pub SetsAreAligned : Fields → List Entry → Type 0
SetsAreAligned f journal =
    (me place : ℕ) (entry : Entry) (set : SampleSet) → IsStation f.stations me → WasJudged f me journal place entry set → IsAlignedSet f me journal place entry set

-- the laws of real values, of two instants, and of the age of values
abbrev pub SetsAreTrue : Fields → List Entry → Type 0
SetsAreTrue f journal =
    (me place : ℕ) (entry : Entry) (set : SampleSet) → IsStation f.stations me → WasJudged f me journal place entry set → IsTrueSet f me journal place entry set
