-- What `record` makes of an input: the recording of a station in the run of a scenario.
use Rattle.std.specs.Prelude.{ℕ, List, Result}
use Rattle.recording.specs.RecordText.{RecordText}
use Rattle.row_reader.specs.Rows.{rows_of}
use Rattle.row_reader.specs.declared.fault.Fault.{Fault}
use Rattle.waveform_reader.specs.Scenario.{Setup, scenario_of}
use Rattle.line_world.specs.Run.{Run}
use Rattle.bench_cmd.specs.Asked.{where_there}

-- the recording of a station in a scenario's run
abbrev pub recorded : ℕ → Setup → List ℕ
recorded station s = RecordText s.settings station (Run s)

-- what `record` makes of an input
unfoldable pub record_text : ℕ → List ℕ → Result (List ℕ) Fault
record_text station input = where_there station (recorded station) (scenario_of (rows_of input))
