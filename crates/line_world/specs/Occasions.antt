-- The occasions of a tick, in their order: lines are asked, samples are taken, and slots come, each with the frames that go out in it.
-- (This project's own.)
use Rattle.std.specs.Prelude.{ℕ, zero, suc, ◌%◌, ◌==◌, if◌then◌else◌, List, [], ◌∷◌, ◌++◌, map}
use Rattle.std.specs.List.{flat_map}
use Rattle.ld_base.specs.declared.fields.Fields.{Fields}
use Rattle.relay_core.specs.Log.{peers}
use Rattle.line_journal.specs.Stations.{stations, ways}

-- a receiver asks the line from a sender; a station may take a sample; a station has its slot; a frame of the slot goes to a receiver
pub data Occasion : Type 0 where
  arrival : (receiver sender : ℕ) → Occasion
  sampling : (station : ℕ) → Occasion
  slot : (station : ℕ) → Occasion
  departure : (sender receiver : ℕ) → Occasion

-- an occasion at a true tick
pub record Moment : Type 0 where
  pub time : ℕ
  pub occasion : Occasion

-- each line is asked
abbrev pub arrivals : Fields → List Occasion
arrivals f = map (λ way. arrival way.to way.from) (ways f)

-- each station in order may take a sample
abbrev pub samplings : Fields → List Occasion
samplings f = map sampling (stations f)

-- the slot of a station, and its frames to the peers in order
abbrev pub slot_of : Fields → ℕ → List Occasion
slot_of f station = slot station ∷ map (departure station) (peers f station)

-- at each multiple of 125 each station in order has its slot
abbrev pub slots : Fields → ℕ → List Occasion
slots f tick = if tick % 125 == 0 then flat_map (slot_of f) (stations f) else []

-- the occasions of a tick
abbrev pub occasions : Fields → ℕ → List Occasion
occasions f tick = arrivals f ++ samplings f ++ slots f tick

-- some occasions at a tick
abbrev pub at_tick : ℕ → List Occasion → List Moment
at_tick tick these = map (λ o. record { time = tick; occasion = o }) these

-- the moments of a tick
abbrev pub moments_at : Fields → ℕ → List Moment
moments_at f tick = at_tick tick (occasions f tick)

-- those of all ticks below one
unfoldable pub moments : Fields → ℕ → List Moment
moments f zero = []
moments f (suc tick) = moments f tick ++ moments_at f tick
