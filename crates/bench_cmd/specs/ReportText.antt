-- The text of a report, and what `bench` makes of an input.
use Rattle.std.specs.Prelude.{ℕ, List, ◌++◌, map, Result, Ok, Err}
use Rattle.std.specs.List.{flat_map}
use Rattle.ld_base.specs.declared.fields.Fields.{Fields}
use Rattle.pingpong.specs.declared.journal.Entry.{Entry}
use Rattle.row_reader.specs.Rows.{rows_of}
use Rattle.row_reader.specs.declared.fault.Fault.{Fault}
use Rattle.waveform_reader.specs.Scenario.{Setup, scenario_of}
use Rattle.line_journal.specs.Crossings.{Forged}
use Rattle.line_journal.specs.Stations.{stations}
use Rattle.line_journal.specs.Report.{Lines}
use Rattle.line_world.specs.Run.{Run}
use Rattle.relay_core.specs.StationLog.{StationLog}
use Rattle.line_journal.specs.Totals.{TotalOf}
use Rattle.line_journal.specs.declared.line.Line.{Line}
use Rattle.line_journal.specs.declared.line.Total.{Total}
use Rattle.bench_cmd.specs.ReportLines.{last_lines, line_text, totals_from}

-- the text of a report
abbrev pub report_text : List Line → List Total → ℕ → ℕ → List ℕ
report_text lines totals forged end = flat_map line_text lines ++ totals_from 1 totals ++ last_lines forged end

-- what some stations counted
abbrev pub totals_of : Fields → List Entry → List ℕ → List Total
totals_of f journal these = map (λ station. TotalOf f station (StationLog station journal)) these

-- the report of a journal
abbrev pub report_of : Setup → List Entry → List ℕ
report_of s journal =
    report_text (Lines s.settings journal) (totals_of s.settings journal (stations s.settings)) (Forged s.settings journal) s.end

-- the report of the run of a scenario, or what is wrong with it
abbrev pub report_or : Result Setup Fault → Result (List ℕ) Fault
report_or (Ok s) = Ok (report_of s (Run s))
report_or (Err fault) = Err fault

-- what `bench` makes of an input
unfoldable pub bench_text : List ℕ → Result (List ℕ) Fault
bench_text input = report_or (scenario_of (rows_of input))
