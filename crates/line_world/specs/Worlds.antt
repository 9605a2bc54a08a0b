-- A world: where it has come to, and what it stands for.
use Rattle.std.specs.Prelude.{◌≡◌, ◌⊎◌, ℕ, suc, ◌%◌, ◌<◌, ◌≤◌, Bool, true, false, nat_eq, List, [], ◌++◌, All, Contains, map, Option, slice_index}
use Rattle.ld_base.specs.Script.{Script, next_tick}
use Rattle.pingpong.specs.declared.journal.Entry.{Entry}
use Rattle.waveform_reader.specs.Scenario.{Setup}
use Rattle.line_world.specs.Occasions.{Moment, moments, moments_at}
use Rattle.line_world.specs.Passes.{Passes, Scene, Tell, Told, counted, counted_with}
use Rattle.line_world.specs.Run.{Directed, run_through}
use Rattle.line_world.specs.Tick.{CutShort, IsSample}
use Rattle.line_world.specs.World.{Leads}

-- a world: its scenario, the least tick that wasn't carried out, the journal, what the wires tell, their next ticks from that tick on,
-- and whether memory was refused
pub record World : Type 0 where
  pub setup : Setup
  pub next : ℕ
  pub journal : List Entry
  pub wires : List Told
  pub due : List ℕ
  pub halted : Bool

abbrev pub scene : World → Scene
scene w = record { journal = w.journal; wires = w.wires }

-- a world is over some wires: what is told are their faults and scripts, and what is due are their next ticks
pub record IsOver {W : Type 0} (faults : W → ℕ) (script : W → Option Script) (next_tick : W → ℕ → ℕ) (wires : List W) (w : World) : Type 0 where
  pub faults_told : map (λ told. told.faults) w.wires ≡ map faults wires
  pub scripts_told : map (λ told. told.script) w.wires ≡ map script wires
  pub due_next : w.due ≡ map (λ wire. next_tick wire w.next) wires

-- where the wires tell their scripts, what is due are the next ticks of these
abbrev pub IsDueByScript : World → Type 0
IsDueByScript w = (lines : List Directed) → Tell w.wires lines → w.due ≡ map (λ line. next_tick line.script w.next) lines

-- the moments that a world has carried out: those of all ticks below the next one, and a part of that tick's, which is empty unless
-- memory was refused at a tick before the end
pub record HasDone (w : World) (these : List Moment) : Type 0 where
  pub part : List Moment
  pub left : List Moment
  pub whole : these ≡ moments w.setup.settings w.next ++ part
  pub tick : part ++ left ≡ moments_at w.setup.settings w.next
  pub part_of : (part ≡ []) ⊎ ((w.halted ≡ true) × (w.next < w.setup.end))

-- what every world is: some moments were carried out, and they lead to its journal
pub record IsWorld (w : World) : Type 0 where
  pub these : List Moment
  pub done : HasDone w these
  pub within : w.next ≤ w.setup.end
  pub leads : Leads w.setup these [] w.journal

-- a world over the script wires of its scenario: its journal and its wires are what the run comes to
pub record FollowsScript (w : World) : Type 0 where
  pub these : List Moment
  pub left : List Directed
  pub done : HasDone w these
  pub tell : Tell w.wires left
  pub run : run_through w.setup these ≡ record { journal = w.journal; lines = left }

-- a tick is due at a slot, at a sample of a station, and at the next tick of a wire from the world's next one on; any other is idle
pub record IsIdle (w : World) (tick : ℕ) : Type 0 where
  pub no_slot : nat_eq (tick % 125) 0 ≡ false
  pub no_sample : (station : ℕ) → 1 ≤ station → station ≤ w.setup.settings.stations → IsSample w.setup station tick → ⊥
  pub quiet : All (λ due. tick < due) w.due

abbrev pub IsDue : World → ℕ → Type 0
IsDue w tick =
    (nat_eq (tick % 125) 0 ≡ true)
    ⊎ ((station : ℕ) × (1 ≤ station) × (station ≤ w.setup.settings.stations) × IsSample w.setup station tick)
    ⊎ Contains w.due tick

-- no tick from the world's next one on, below that one, is due
abbrev pub AreIdle : World → ℕ → Type 0
AreIdle w tick = (t : ℕ) → w.next ≤ t → t < tick → IsIdle w t

-- a step that carried out a tick: the least that is due. The moments of that tick alone went by, and no tick that was passed over has an
-- entry
pub record Went (old new : World) (tick : ℕ) : Type 0 where
  pub setup : new.setup ≡ old.setup
  pub next : new.next ≡ suc tick
  pub later : old.next ≤ tick
  pub early : tick < old.setup.end
  pub due : IsDue old tick
  pub least : AreIdle old tick
  pub running : (old.halted ≡ false) × (new.halted ≡ false)
  pub passes : Passes old.setup (moments_at old.setup.settings tick) (scene old) (scene new)
  pub skipped : All (λ entry. old.next ≤ entry.time → entry.time ≡ tick) new.journal

-- a world that has ended: no tick that is left is due, and none of them adds to the journal
pub record HasEnded (w : World) : Type 0 where
  pub idle : AreIdle w w.setup.end
  pub running : w.halted ≡ false
  pub leads : Leads w.setup (moments w.setup.settings w.setup.end) [] w.journal

-- a step for which memory was refused: nothing has changed, or what wasn't carried out begins with a frame that goes out
pub record Halted (old new : World) : Type 0 where
  pub setup : new.setup ≡ old.setup
  pub halted : new.halted ≡ true
  pub changed : (scene new ≡ scene old) ⊎ ((tick : ℕ) × (old.next ≤ tick) × (tick < old.setup.end) × CutShort old.setup (moments_at old.setup.settings tick) (scene old) (scene new))

-- in a step the journal only grows, and each failed call on a line's wire is one by which its faults rose
pub record Grows (old new : World) : Type 0 where
  pub gained : List Entry
  pub journal : new.journal ≡ old.journal ++ gained
  pub faults : map counted new.wires ≡ map (counted_with gained) old.wires

-- the least of a number and some others
pub record IsLeast (number : ℕ) (others : List ℕ) (least : ℕ) : Type 0 where
  pub first : least ≤ number
  pub each : All (λ other. least ≤ other) others
  pub one : (least ≡ number) ⊎ Contains others least

-- the least tick from one on that is a multiple of 125, one of those of the next samples of so many stations, or one of the next ticks of
-- the wires
pub record IsNextDue (stations from : ℕ) (samples wires : List ℕ) (tick : ℕ) : Type 0 where
  pub later : from ≤ tick
  pub no_slot : (t : ℕ) → from ≤ t → t < tick → nat_eq (t % 125) 0 ≡ false
  pub no_sample : (k : ℕ) → suc k ≤ stations → tick ≤ slice_index samples k
  pub quiet : All (λ due. tick ≤ due) wires
  pub due : (nat_eq (tick % 125) 0 ≡ true) ⊎ ((k : ℕ) × (suc k ≤ stations) × (slice_index samples k ≡ tick)) ⊎ Contains wires tick
