-- What every journal of a world keeps.
use Rattle.std.specs.Prelude.{◌≡◌, ◌<◌, List, ◌++◌, All}
use Rattle.pingpong.specs.Journal.{IsJournal}
use Rattle.pingpong.specs.declared.journal.Entry.{Entry}
use Rattle.waveform_reader.specs.Scenario.{Setup, phases_at}
use Rattle.line_journal.specs.Stations.{Names}
use Rattle.line_world.specs.Occasions.{Moment, moments}

-- an entry of a scenario: before its end, with the phases of the clocks then, and of its stations
pub record IsEntry (s : Setup) (entry : Entry) : Type 0 where
  pub early : entry.time < s.end
  pub phases : entry.phases ≡ phases_at s entry.time
  pub names : Names s.settings.stations entry.what

-- some first moments of a scenario
pub record AreFirst (s : Setup) (these : List Moment) : Type 0 where
  pub left : List Moment
  pub are : these ++ left ≡ moments s.settings s.end

-- a journal within a scenario's drift, whose entries are all of the scenario
pub record IsJournalOf (s : Setup) (journal : List Entry) : Type 0 where
  pub entries : All (IsEntry s) journal
  pub in_turn : IsJournal s.settings.drift journal
