-- The terminals of a scenario and its journal, as those who write it see them.
use Rattle.std.specs.Prelude.{◌≡◌, ℕ, ◌+◌, ◌/◌, ◌≤◌, List, [], ◌∷◌, ◌++◌, slice_index}
use Rattle.ld_base.specs.Ticks.{last_asked, last_stamp}
use Rattle.pingpong.specs.declared.journal.Entry.{Entry}
use Rattle.waveform_reader.specs.Scenario.{Setup, phases_at}
use Rattle.line_journal.specs.declared.now.Now.{Now}

-- the scenario, the journal, and how many entries there is room for
pub record Terminals : Type 0 where
  pub setup : Setup
  pub journal : List Entry
  pub room : ℕ

-- a true time has the phases of a scenario's clocks then, and each of them has a stamp
pub record IsNow (s : Setup) (now : Now) : Type 0 where
  pub tick : now.tick ≤ last_asked
  pub phases : now.phases ≡ phases_at s now.tick
  pub stamps : (k : ℕ) → slice_index now.phases k / 1000000 ≤ last_stamp

-- terminals with one entry more, for which they take room
pub record HasEntry (old new : Terminals) (entry : Entry) : Type 0 where
  pub setup : new.setup ≡ old.setup
  pub journal : new.journal ≡ old.journal ++ entry ∷ []
  pub room : old.room ≤ new.room + 1
