-- A tick, as it is carried out.
use Rattle.std.specs.Prelude.{◌≡◌, ℕ, ◌-◌, ◌<◌, ◌≤◌, List, ◌∷◌, ◌++◌, map, Option, Some}
use Rattle.ld_base.specs.Script.{QuietBy, Script}
use Rattle.ld_base.specs.declared.fields.Fields.{Fields}
use Rattle.waveform_reader.specs.Scenario.{Setup}
use Rattle.line_world.specs.Occasions.{Moment}
use Rattle.line_journal.specs.Stations.{Way, ways}
use Rattle.line_world.specs.Occasions.Occasion.{departure}
use Rattle.line_world.specs.Passes.{Passes, Scene}
use Rattle.line_world.specs.World.{number_of}
use Rattle.line_world.specs.declared.cable.Cable.{Cable}

-- the stations of a line
abbrev pub way_of : {W : Type 0} → Cable W → Way
way_of cable = record { from = cable.from; to = cable.to }

-- these are the directed lines, in their order
abbrev pub AreLines : {W : Type 0} → Fields → List (Cable W) → Type 0
AreLines f cables = map way_of cables ≡ ways f

-- a line whose wire tells its script has that script's next tick from a tick on
abbrev pub TellsNext : {W : Type 0} → (W → Option Script) → (W → ℕ → ℕ) → ℕ → Cable W → Type 0
TellsNext script next_tick from cable = (told : Script) → script cable.wire ≡ Some told → QuietBy told from (next_tick cable.wire from)

-- some moments were cut short: the first of those that weren't carried out is a frame that goes out
pub record CutShort (s : Setup) (these : List Moment) (old new : Scene) : Type 0 where
  pub done : List Moment
  pub time : ℕ
  pub sender : ℕ
  pub receiver : ℕ
  pub left : List Moment
  pub are : these ≡ done ++ record { time = time; occasion = departure sender receiver } ∷ left
  pub passes : Passes s done old new

-- a station takes a sample at a tick
abbrev pub IsSample : Setup → ℕ → ℕ → Type 0
IsSample s station tick = number_of s station (tick - 1) < number_of s station tick

-- the least tick from one on at which a station takes a sample
pub record IsNextSample (s : Setup) (station from tick : ℕ) : Type 0 where
  pub later : from ≤ tick
  pub sample : IsSample s station tick
  pub least : (t : ℕ) → from ≤ t → IsSample s station t → tick ≤ t
