-- Where in a journal something happened: at the entry at a place, after all that stands before it. (This project's own.)
use Rattle.std.specs.Prelude.{◌≡◌, ℕ, ◌-◌, List, Some, slice_get, slice_index_or, take, Contains}
use Rattle.ld_base.specs.Message.{Contents}
use Rattle.ld_base.specs.Phases.{no_current}
use Rattle.ld_base.specs.declared.fields.Fields.{Fields}
use Rattle.ld_base.specs.declared.phases.Phases.{Phases}
use Rattle.ld_base.specs.declared.phases.SampleSet.{SampleSet}
use Rattle.pingpong.specs.declared.journal.Entry.{Entry}
use Rattle.pingpong.specs.declared.journal.What.TheVariants.{Took}
use Rattle.relay_message.specs.Messages.{added}
use Rattle.sample_store.specs.Offers.{Placed, Taken}
use Rattle.sample_store.specs.declared.ring.Numbered.{Numbered}
use Rattle.relay_core.specs.Decided.{JudgedSets, Offers}
use Rattle.relay_core.specs.declared.call.Call.{Call}
use Rattle.relay_core.specs.declared.receipt.Receipt.{Receipt}
use Rattle.line_journal.specs.Crossings.{accepted_with, begun_with}
use Rattle.relay_core.specs.StationLog.{StationLog, calls_by}

-- an entry stands at a place of a journal
abbrev pub IsAt : List Entry → ℕ → Entry → Type 0
IsAt journal place entry = slice_get journal place ≡ Some entry

-- what an entry adds to something that is told of a station's log
abbrev pub added_with : {A : Type 0} → (List Call → List A) → ℕ → List Entry → Entry → List A
added_with of station before entry = added of (StationLog station before) (calls_by station entry)

-- a message began on the line from one station to another
pub record Began (f : Fields) (from to : ℕ) (journal : List Entry) (place : ℕ) (entry : Entry) (m : Contents) : Type 0 where
  pub is_at : IsAt journal place entry
  pub begun : Contains (begun_with f from to (take place journal) entry) m

-- station `me` accepted a message of a peer
pub record WasAccepted (f : Fields) (me peer : ℕ) (journal : List Entry) (place : ℕ) (entry : Entry) (r : Receipt) : Type 0 where
  pub is_at : IsAt journal place entry
  pub accepted : Contains (accepted_with f me peer (take place journal) entry) r

-- the own samples that a station takes, and the values of a peer that it places, by its log
abbrev pub TakenIn : Fields → ℕ → List Call → List Numbered
TakenIn f me log = Taken f.spacing (Offers f me log)

abbrev pub PlacedIn : Fields → ℕ → ℕ → List Call → List Numbered
PlacedIn f me peer log = Placed f.spacing f.limit peer (Offers f me log)

-- a station took a sample, and these values stand under that number
pub record WasTaken (f : Fields) (station : ℕ) (journal : List Entry) (place : ℕ) (entry : Entry) (sample : Numbered) : Type 0 where
  pub is_at : IsAt journal place entry
  pub took : entry.what ≡ Took station sample.values
  pub taken : Contains (added_with (TakenIn f station) station (take place journal) entry) sample

-- station `me` placed values of a peer under a number
pub record WasPlaced (f : Fields) (me peer : ℕ) (journal : List Entry) (place : ℕ) (entry : Entry) (value : Numbered) : Type 0 where
  pub is_at : IsAt journal place entry
  pub placed : Contains (added_with (PlacedIn f me peer) me (take place journal) entry) value

-- station `me` judged a set
pub record WasJudged (f : Fields) (me : ℕ) (journal : List Entry) (place : ℕ) (entry : Entry) (set : SampleSet) : Type 0 where
  pub is_at : IsAt journal place entry
  pub judged : Contains (added_with (JudgedSets f me) me (take place journal) entry) set

-- the values of a station in a set
abbrev pub value_of : SampleSet → ℕ → Phases
value_of set station = slice_index_or set.values (station - 1) no_current

-- and they stand under the number of the set
abbrev pub part_of : SampleSet → ℕ → Numbered
part_of set station = record { number = set.number; values = value_of set station }
