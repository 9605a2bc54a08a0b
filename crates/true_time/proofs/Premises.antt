-- What is used of a scenario and its journal: ranges of the settings, and that times and clocks go on.
use Rattle.std.proofs.Common.{ℕ, ◌≤◌, List, All, arith}
use Rattle.ld_base.specs.declared.fields.Fields.{Fields}
use Rattle.ld_base.proofs.Accepted.{AreInRange-from_no_fault}
use Rattle.pingpong.specs.Journal.{IsJournal}
use Rattle.pingpong.specs.declared.journal.Entry.{Entry}
use Rattle.waveform_reader.specs.Scenario.{Setup}
use Rattle.waveform_reader.specs.Sound.{IsSetup, IsStation}
use Rattle.line_world.specs.Journals.{IsJournalOf}
use Rattle.line_journal.specs.Stations.{Names}

pub record Stands (f : Fields) (journal : List Entry) : Type 0 where
  pub drift : f.drift ≤ 200
  pub spacing : (500 ≤ f.spacing) × (f.spacing ≤ 10000)
  pub stations : (2 ≤ f.stations) × (f.stations ≤ 3)
  pub in_turn : IsJournal f.drift journal
  pub names : All (λ (e : Entry). Names f.stations e.what) journal

pub stands : (s : Setup) (journal : List Entry) → IsSetup s → IsJournalOf s journal → Stands s.settings journal
stands s journal of_setup is =
    let ranges = AreInRange-from_no_fault s.settings of_setup.settings in
    record { drift = ranges.drift.1; spacing = ranges.spacing; stations = ranges.stations; in_turn = is.in_turn; names = λ k d inside. (is.entries k d inside).names }

-- a station of the line is one of three
pub of-three : (f : Fields) (journal : List Entry) (station : ℕ) → Stands f journal → IsStation f.stations station → (1 ≤ station) × (station ≤ 3)
of-three f journal station is there = (there.0, omega (arith, there.1, is.stations.1))
