-- What every world of a scenario gives, whatever its wires do. (This project's own.)
use Rattle.std.specs.Prelude.{◌≡◌, ℕ, ◌-◌, ◌/◌, nat_lt, if◌then◌else◌, List, [], ◌∷◌, ◌++◌, map, fold, option_map, slice_get, slice_index, slice_index_or}
use Rattle.std.specs.List.{flat_map}
use Rattle.ld_base.specs.Bits.{line_bytes}
use Rattle.pingpong.specs.declared.journal.Entry.{Entry}
use Rattle.pingpong.specs.declared.journal.What.{What}
use Rattle.pingpong.specs.declared.journal.What.TheVariants.{Came, SendFailed, Slot, TakeFailed, Took}
use Rattle.relay_core.specs.Log.{peers}
use Rattle.relay_core.specs.declared.call.Call.TheVariants as made
use Rattle.relay_core.specs.Sent.{Sent}
use Rattle.relay_message.specs.Messages.{added}
use Rattle.waveform_reader.specs.Scenario.{Setup, phases_at}
use Rattle.waveform_reader.specs.Shapes.{value_at}
use Rattle.line_world.specs.Occasions.{Moment, Occasion}
use Rattle.line_world.specs.Occasions.Occasion.{arrival, departure, sampling, slot}
use Rattle.relay_core.specs.StationLog.{StationLog}

-- what a wire does when it is asked or sent on: nothing is told, bits come, or the call fails. Samples and slots ask no wire
pub data Outcome : Type 0 where
  nothing : Outcome
  gives : (bits : List ℕ) → Outcome
  fails : Outcome

-- a moment with its outcome
pub record Event : Type 0 where
  pub moment : Moment
  pub outcome : Outcome

-- the stamp of a station's clock at a true time
abbrev pub stamp_of : Setup → ℕ → ℕ → ℕ
stamp_of s station time = slice_index (phases_at s time) (station - 1) / 1000000

-- the number of the sample that a station would take at a true time
abbrev pub number_of : Setup → ℕ → ℕ → ℕ
number_of s station time = stamp_of s station time / s.settings.spacing

-- the frames of a station's slot, as bits: one to each peer in order, by all that happened before
abbrev pub frames_at : Setup → List Entry → ℕ → ℕ → List (List ℕ)
frames_at s before time station =
    flat_map (λ peer. added (Sent s.settings station peer) (StationLog station before) (made.Slot (stamp_of s station time) ∷ [])) (peers s.settings station)

-- the slot of a station with these frames
abbrev pub slot_with : ℕ → List (List ℕ) → What
slot_with station frames = Slot station (line_bytes 32 (slice_index_or frames 0 [])) (option_map (line_bytes 32) (slice_get frames 1))

-- what comes of a line that is asked
abbrev pub arrived : ℕ → ℕ → Outcome → List What
arrived receiver sender nothing = []
arrived receiver sender (gives bits) = Came receiver sender bits ∷ []
arrived receiver sender fails = TakeFailed receiver sender ∷ []

-- what comes of a frame that is sent
abbrev pub departed : ℕ → ℕ → Outcome → List What
departed sender receiver fails = SendFailed sender receiver ∷ []
departed sender receiver other = []

-- a station takes a sample where its number is above that of the tick before, so none at tick 0
abbrev pub sampled : Setup → ℕ → ℕ → List What
sampled s station time =
    if nat_lt (number_of s station (time - 1)) (number_of s station time) then Took station (value_at s.settings s.shapes station time) ∷ [] else []

-- what happens at a moment with that outcome, after all that happened before
abbrev pub happens : Setup → List Entry → ℕ → Occasion → Outcome → List What
happens s before time (arrival receiver sender) outcome = arrived receiver sender outcome
happens s before time (sampling station) outcome = sampled s station time
happens s before time (slot station) outcome = slot_with station (frames_at s before time station) ∷ []
happens s before time (departure sender receiver) outcome = departed sender receiver outcome

-- an entry of a journal: what happened at a true time, with the phases of the three clocks
abbrev pub entry_of : Setup → ℕ → What → Entry
entry_of s time what = record { time = time; phases = phases_at s time; what = what }

-- the entries of an event
abbrev pub entries_of : Setup → List Entry → Event → List Entry
entries_of s before event = map (entry_of s event.moment.time) (happens s before event.moment.time event.moment.occasion event.outcome)

-- a journal with the entries of some events more
abbrev pub journal_with : Setup → List Entry → List Event → List Entry
journal_with s journal events = fold (λ so_far event. so_far ++ entries_of s so_far event) journal events

-- these moments went by, and led from one journal to the other
pub record Leads (s : Setup) (these : List Moment) (old new : List Entry) : Type 0 where
  pub events : List Event
  pub moments : map (λ event. event.moment) events ≡ these
  pub journal : new ≡ journal_with s old events
