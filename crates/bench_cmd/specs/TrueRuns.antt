-- What is known in true time of a report that was written.
use Rattle.std.specs.Prelude.{◌≡◌, ℕ, List, Ok}
use Rattle.ld_base.specs.Ends.{End}
use Rattle.pingpong.specs.declared.journal.Entry.{Entry}
use Rattle.row_reader.specs.Rows.{rows_of}
use Rattle.waveform_reader.specs.Scenario.{Setup, scenario_of}
use Rattle.relay_core.specs.Accepted.{Accepted}
use Rattle.line_journal.specs.Crossings.{Forged, Starts}
use Rattle.line_journal.specs.Stations.{ArePair}
use Rattle.line_world.specs.Run.{Run}
use Rattle.relay_core.specs.StationLog.{StationLog}
use Rattle.true_time.specs.TrueTime.{KeepsTrueTime}
use Rattle.calm_channel.specs.Aligned.{AlignedFrom, AllowsExchanges, InForceFrom, aligned_tick}
use Rattle.calm_channel.specs.Calm.{IsCalm}
use Rattle.calm_channel.specs.Coming.{Come}
use Rattle.bench_cmd.specs.ReportText.{report_of}
use Rattle.bench_cmd.specs.Transfers.{GaveAll, Took}

-- a journal over calm lines is honest: each station has accepted the messages that have come by the end, each at its tick. From a tick
-- on, where the settings allow it, an exchange with a peer is in force at every entry of a station, and no line of the report turns the
-- peer's alarm Unaligned on
pub record KeepsCalm (s : Setup) (journal : List Entry) : Type 0 where
  pub honest : Forged s.settings journal ≡ 0
  pub messages : (from to : ℕ) → ArePair s.settings.stations from to
      → Accepted s.settings to from (StationLog to journal) ≡ Come s from to s.end (Starts s.settings from to journal)
  pub in_force : (me peer : ℕ) → ArePair s.settings.stations me peer → AllowsExchanges s me peer → InForceFrom s.settings journal me peer (aligned_tick s me peer)
  pub aligned : (me peer : ℕ) → ArePair s.settings.stations me peer → AllowsExchanges s me peer → AlignedFrom s.settings journal me peer (aligned_tick s me peer)

-- the whole input was that of a scenario, what was written is the report of its run, and the run keeps true time, and calm over calm
-- lines: so what is proved of the lines of such a journal holds of the lines in the text
pub record ReportsTrueTime (source source' sink sink' : End) : Type 0 where
  pub input : List ℕ
  pub scenario : Setup
  pub gave : GaveAll source source' input
  pub read : scenario_of (rows_of input) ≡ Ok scenario
  pub wrote : Took sink sink' (report_of scenario (Run scenario))
  pub keeps : KeepsTrueTime scenario.settings (Run scenario)
  pub calm : IsCalm scenario → KeepsCalm scenario (Run scenario)
