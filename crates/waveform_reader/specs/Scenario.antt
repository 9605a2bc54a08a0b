-- A scenario, and the scenario of a text. (This project's own.)
use Rattle.std.specs.Prelude.{◌==◌, ℕ, ◌+◌, List, [], ◌∷◌, map, fold, filter, find, length, Option, option_map, unwrap_or, Result}
use Rattle.std.specs.Option.{option_or}
use Rattle.ld_base.specs.declared.fields.Fields.{Fields}
use Rattle.ld_base.specs.declared.rule.Rule.{Rule}
use Rattle.pingpong.specs.Clock.{Course, phase}
use Rattle.pingpong.specs.declared.clock.RateFrom.{RateFrom}
use Rattle.row_reader.specs.Faults.{first_fault, unless}
use Rattle.row_reader.specs.Rows.{Row}
use Rattle.row_reader.specs.declared.fault.Fault.{Fault}
use Rattle.waveform_reader.specs.Draft.{Draft, no_records, row_faults, with_row}
use Rattle.setting_rows.specs.Head.{Head, body_rows, head_of, head_rows, heading_faults, no_settings, whole_fault}
use Rattle.setting_rows.specs.declared.setting.Known.TheVariants as known
use Rattle.waveform_reader.specs.declared.record.Rating.{Rating}
use Rattle.waveform_reader.specs.declared.record.Start.{Start}
use Rattle.waveform_reader.specs.declared.shape.ShapeFrom.{ShapeFrom}

-- settings and end, the three clocks by station, the waveforms and the script in the order of the file
pub record Setup : Type 0 where
  pub settings : Fields
  pub end : ℕ
  pub clocks : List Course
  pub shapes : List ShapeFrom
  pub rules : List Rule

-- the phases of the three clocks at a true time
abbrev pub phases_at : Setup → ℕ → List ℕ
phases_at s t = map (λ clock. phase clock t) s.clocks

-- the start of a station's clock, 0 where none is told
abbrev pub start_of : List Start → ℕ → ℕ
start_of starts station = unwrap_or (option_map (λ start. start.ticks) (find (λ start. start.station == station) starts)) 0

-- the rates of a station's clock
abbrev pub rates_of : List Rating → ℕ → List RateFrom
rates_of rates station = map (λ rating. rating.rate) (filter (λ rating. rating.station == station) rates)

-- a station's clock
abbrev pub course_of : Draft → ℕ → Course
course_of draft station = record { start = start_of draft.starts station; rates = rates_of draft.rates station }

-- the first fault behind the settings, where `row` is the number of the first of these rows
abbrev pub body_fault : Head → ℕ → List Row → Option Fault
body_fault head row rows = first_fault row (row_faults head.given head.fields no_records rows)

-- the first fault of a scenario's rows: the settings are closed before the first row behind them is looked at
abbrev pub fault_of : List Row → Option Fault
fault_of rows =
    option_or (first_fault 1 (heading_faults known.Scenario no_settings (head_rows rows)))
    (option_or (whole_fault known.Scenario (head_of known.Scenario rows)) (body_fault (head_of known.Scenario rows) (length (head_rows rows) + 1) (body_rows rows)))

-- the records of the rows behind the settings
abbrev pub draft_of : Head → List Row → Draft
draft_of head rows = fold (with_row head.fields.drift) no_records rows

-- what settings, an end and records say together
abbrev pub setup_of : Fields → ℕ → Draft → Setup
setup_of f end draft = record {
  settings = f;
  end = end;
  clocks = course_of draft 1 ∷ course_of draft 2 ∷ course_of draft 3 ∷ [];
  shapes = draft.shapes;
  rules = draft.rules;
}

-- the scenario of some rows, or their first fault
abbrev pub scenario_of : List Row → Result Setup Fault
scenario_of rows = unless (fault_of rows) (setup_of (head_of known.Scenario rows).fields (head_of known.Scenario rows).end (draft_of (head_of known.Scenario rows) (body_rows rows)))
