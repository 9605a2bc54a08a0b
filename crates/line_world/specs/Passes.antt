-- What some moments do to a world: to its journal, to the scripts of its wires, and to their counts of faults.
use Rattle.std.specs.Prelude.{◌≡◌, ℕ, suc, zero, Bool, false, ◌&&◌, ◌==◌, List, ◌++◌, map, fold, count_by, Option, Some}
use Rattle.ld_base.specs.Faults.{next_count}
use Rattle.ld_base.specs.Script.{Script}
use Rattle.pingpong.specs.declared.journal.Entry.{Entry}
use Rattle.pingpong.specs.declared.journal.What.{What}
use Rattle.pingpong.specs.declared.journal.What.TheVariants.{SendFailed, TakeFailed}
use Rattle.waveform_reader.specs.Scenario.{Setup}
use Rattle.line_world.specs.Terminals.{Terminals}
use Rattle.line_world.specs.Occasions.{Moment}
use Rattle.line_journal.specs.Stations.{Way}
use Rattle.line_world.specs.Run.{Directed, after}
use Rattle.line_world.specs.World.{Leads}
use Rattle.line_world.specs.declared.cable.Cable.{Cable}

-- what a wire tells, on the line from one station to another: its faults, and its script where it tells one
pub record Told : Type 0 where
  pub from : ℕ
  pub to : ℕ
  pub faults : ℕ
  pub script : Option Script

-- a journal and the wires
pub record Scene : Type 0 where
  pub journal : List Entry
  pub wires : List Told

-- what a line's wire tells, by what such wires tell
abbrev pub told : {W : Type 0} → (W → ℕ) → (W → Option Script) → Cable W → Told
told faults script cable = record { from = cable.from; to = cable.to; faults = faults cable.wire; script = script cable.wire }

abbrev pub scene_of : {W : Type 0} → (W → ℕ) → (W → Option Script) → Terminals → List (Cable W) → Scene
scene_of faults script terminals cables = record { journal = terminals.journal; wires = map (told faults script) cables }

-- whether it was a failed call on the wire from one station to another
abbrev pub is_failure : ℕ → ℕ → What → Bool
is_failure from to (SendFailed station peer) = (station == from) && (peer == to)
is_failure from to (TakeFailed station peer) = (peer == from) && (station == to)
is_failure from to other = false

-- how many calls on the wire from one station to another failed
abbrev pub failures : ℕ → ℕ → List Entry → ℕ
failures from to entries = count_by (λ entry. is_failure from to entry.what) entries

-- a count of faults after so many more
abbrev pub raised : ℕ → ℕ → ℕ
raised zero faults = faults
raised (suc n) faults = next_count (raised n faults)

-- a line's stations and the faults of its wire, and those after some entries more
pub record Counted : Type 0 where
  pub from : ℕ
  pub to : ℕ
  pub faults : ℕ

abbrev pub counted : Told → Counted
counted w = record { from = w.from; to = w.to; faults = w.faults }

abbrev pub counted_with : List Entry → Told → Counted
counted_with entries w = record { from = w.from; to = w.to; faults = raised (failures w.from w.to entries) w.faults }

-- a line with the wire that it was handed, and the count of that wire after some entries
abbrev pub counted_after : {W : Type 0} → (W → ℕ) → List Entry → Way × W → Counted
counted_after faults entries line =
    record { from = line.0.from; to = line.0.to; faults = raised (failures line.0.from line.0.to entries) (faults line.1) }

-- a line's stations and its script, where the wire tells it
pub record Known : Type 0 where
  pub from : ℕ
  pub to : ℕ
  pub script : Option Script

abbrev pub known : Told → Known
known w = record { from = w.from; to = w.to; script = w.script }

abbrev pub known_of : Directed → Known
known_of line = record { from = line.from; to = line.to; script = Some line.script }

-- the wires tell these scripts
abbrev pub Tell : List Told → List Directed → Type 0
Tell wires lines = map known wires ≡ map known_of lines

-- where the wires tell their scripts, they and the journal are what a run comes to by these moments
pub record Runs (s : Setup) (these : List Moment) (old new : Scene) (lines : List Directed) : Type 0 where
  pub left : List Directed
  pub tell : Tell new.wires left
  pub run : fold (after s) (record { journal = old.journal; lines = lines }) these ≡ record { journal = new.journal; lines = left }

-- these moments went by
pub record Passes (s : Setup) (these : List Moment) (old new : Scene) : Type 0 where
  pub leads : Leads s these old.journal new.journal
  pub gained : List Entry
  pub gains : new.journal ≡ old.journal ++ gained
  pub faults : map counted new.wires ≡ map (counted_with gained) old.wires
  pub runs : (lines : List Directed) → Tell old.wires lines → Runs s these old new lines
