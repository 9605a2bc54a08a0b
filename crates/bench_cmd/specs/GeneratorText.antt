-- The text of `gen`: the scenario of a number, and what its run sums up to.
use Rattle.std.specs.Prelude.{ℕ, List, [], ◌∷◌, ◌++◌, map, Result, Ok, Err, codes, decimal}
use Rattle.std.specs.List.{sum_by}
use Rattle.pingpong.specs.declared.journal.Entry.{Entry}
use Rattle.row_reader.specs.Rows.{rows_of}
use Rattle.row_reader.specs.declared.fault.Fault.{Fault}
use Rattle.waveform_reader.specs.Scenario.{Setup, scenario_of}
use Rattle.scenario_generator.specs.Rows.{scenario_text}
use Rattle.line_journal.specs.Crossings.{Forged}
use Rattle.line_journal.specs.Stations.{stations}
use Rattle.line_world.specs.Run.{Run}
use Rattle.line_journal.specs.declared.line.Total.{Total}
use Rattle.text_lines.specs.Lines.{row}
use Rattle.bench_cmd.specs.ReportText.{totals_of}

-- what some stations counted together: messages accepted, sets, and trips
abbrev pub sums : List Total → List ℕ
sums totals = sum_by (λ total. total.accepted) totals ∷ sum_by (λ total. total.sets) totals ∷ sum_by (λ total. total.trips) totals ∷ []

-- the line of these sums and of how many messages are forged, which a scenario passes over
abbrev pub sums_line : List Total → ℕ → List ℕ
sums_line totals forged = row (codes "#") (map decimal (sums totals ++ forged ∷ []))

-- the one of a journal
abbrev pub sums_of : Setup → List Entry → List ℕ
sums_of s journal = sums_line (totals_of s.settings journal (stations s.settings)) (Forged s.settings journal)

-- the one of the run of a scenario
abbrev pub run_sums : Result Setup Fault → List ℕ
run_sums (Ok s) = sums_of s (Run s)
run_sums (Err fault) = []

-- the text of a number's scenario, and behind it the sums of its run
unfoldable pub generated_text : ℕ → ℕ → List ℕ
generated_text number ticks = scenario_text number ticks ++ run_sums (scenario_of (rows_of (scenario_text number ticks)))
