-- The records behind the settings: what they say, and what is wrong with them. (This project's own.)
use Rattle.std.specs.Prelude.{◌==◌, ℕ, ◌+◌, Bool, true, false, ◌&&◌, ◌||◌, nat_le, nat_lt, if◌then◌else◌, ℤ, unsigned_abs, List, [], ◌∷◌, ◌++◌, length, drop, count_by, max, fold, Option, Some, None, unwrap_or, Result, Ok, Err}
use Rattle.std.specs.List.{list_any}
use Rattle.ld_base.specs.declared.fields.Fields.{Fields}
use Rattle.ld_base.specs.declared.reason.Reason.{Reason}
use Rattle.ld_base.specs.declared.reason.Reason.TheVariants as reason
use Rattle.ld_base.specs.declared.rule.Act.{Act}
use Rattle.ld_base.specs.declared.rule.Act.TheVariants as act
use Rattle.ld_base.specs.declared.rule.Rule.{Rule}
use Rattle.row_reader.specs.RowNumbers.{number_at, numbers_of}
use Rattle.row_reader.specs.Rows.{Row}
use Rattle.waveform_reader.specs.Columns.{are_between, columns_of}
use Rattle.row_reader.specs.RowFields.{name_of}
use Rattle.setting_rows.specs.Head.{set_fault}
use Rattle.setting_rows.specs.Keys.{is_remark, is_set}
use Rattle.setting_rows.specs.declared.setting.Known.TheVariants as known
use Rattle.setting_rows.specs.declared.setting.Setting.{Setting}
use Rattle.waveform_reader.specs.Names.{kind_of}
use Rattle.waveform_reader.specs.declared.kind.Kind.{Kind}
use Rattle.waveform_reader.specs.declared.kind.Kind.TheVariants as kind
use Rattle.waveform_reader.specs.declared.record.Record.{Record}
use Rattle.waveform_reader.specs.declared.record.Record.TheVariants as entry
use Rattle.waveform_reader.specs.declared.record.Rating.{Rating}
use Rattle.waveform_reader.specs.declared.record.Start.{Start}
use Rattle.waveform_reader.specs.declared.shape.Shape.{Shape}
use Rattle.waveform_reader.specs.declared.shape.Shape.TheVariants as shape
use Rattle.waveform_reader.specs.declared.shape.ShapeFrom.{ShapeFrom}

-- what the records so far say: starts and rates of clocks, waveforms, and the script, each in the order of the file
pub record Draft : Type 0 where
  pub starts : List Start
  pub rates : List Rating
  pub shapes : List ShapeFrom
  pub rules : List Rule

-- no record is read
abbrev pub no_records : Draft
no_records = record { starts = []; rates = []; shapes = []; rules = [] }

-- the number at a place, without its sign
abbrev pub natural_at : List ℤ → ℕ → ℕ
natural_at numbers place = unsigned_abs (number_at numbers place)

-- a shape that begins at the tick at place 0, of the station at place 1
abbrev pub shape_of : List ℤ → Shape → Record
shape_of n shape = entry.Shape (record { station = natural_at n 1; from = natural_at n 0; shape = shape })

-- three values from place 2 on
abbrev pub hold_of : List ℤ → Shape
hold_of n = shape.Hold (record { a = number_at n 2; b = number_at n 3; c = number_at n 4 })

-- three amplitudes from place 2 on, each before its step
abbrev pub amplitudes_of : List ℤ → List ℤ
amplitudes_of n = number_at n 2 ∷ number_at n 4 ∷ number_at n 6 ∷ []

-- the three steps
abbrev pub steps_of : List ℤ → List ℕ
steps_of n = natural_at n 3 ∷ natural_at n 5 ∷ natural_at n 7 ∷ []

-- a wave of three phases
abbrev pub wave_of : List ℤ → Shape
wave_of n = shape.Wave (amplitudes_of n) (steps_of n)

-- a rule from the tick at place 0 to that at place 1, of the line from the station at place 2 to that at place 3
abbrev pub rule_of : List ℤ → Act → Record
rule_of n act = entry.Script (record { from = natural_at n 2; to = natural_at n 3; first = natural_at n 0; last = natural_at n 1; act = act })

-- what a record of a kind says by its numbers
abbrev pub record_of : Kind → List ℤ → Record
record_of kind.Clock n = entry.Clock (record { station = natural_at n 0; ticks = natural_at n 1 })
record_of kind.Rate n = entry.Rate (record { station = natural_at n 1; rate = record { from = natural_at n 0; rate = number_at n 2 } })
record_of kind.Hold n = shape_of n (hold_of n)
record_of kind.Wave n = shape_of n (wave_of n)
record_of kind.Delay n = entry.Script (record { from = natural_at n 1; to = natural_at n 2; first = natural_at n 0; last = natural_at n 0; act = act.Delay (natural_at n 3) })
record_of kind.Lose n = rule_of n act.Lose
record_of kind.Flip n = rule_of n (act.Flip (natural_at n 4))
record_of kind.Repeat n = rule_of n (act.Repeat (natural_at n 4))
record_of kind.Cut n = rule_of n (act.Cut (natural_at n 4))
record_of kind.Slip n = rule_of n (act.Slip (natural_at n 4))
record_of kind.FailSend n = rule_of n act.FailSend
record_of kind.FailTake n = rule_of n act.FailTake

abbrev pub is_delay : Act → Bool
is_delay (act.Delay ticks) = true
is_delay other = false

abbrev pub is_repeat : Act → Bool
is_repeat (act.Repeat extra) = true
is_repeat other = false

-- an act by which a wire fails
abbrev pub is_failure : Act → Bool
is_failure act.FailSend = true
is_failure act.FailTake = true
is_failure other = false

-- whether a rule stands beside too many, or covers too much: it is the 1001st, the 5th repeat, or a failure of more than 1001 ticks
abbrev pub is_rule_too_many : List Rule → Rule → Bool
is_rule_too_many rules rule =
    nat_le 1000 (length rules)
    || (is_repeat rule.act && nat_le 4 (count_by (λ earlier. is_repeat earlier.act) rules))
    || (is_failure rule.act && nat_lt (rule.first + 1000) rule.last)

-- whether there are too many records like this one: a 17th rate of its station, or too many rules
abbrev pub is_too_many : Draft → Record → Bool
is_too_many draft (entry.Clock start) = false
is_too_many draft (entry.Rate rating) = nat_le 16 (count_by (λ earlier. earlier.station == rating.station) draft.rates)
is_too_many draft (entry.Shape from) = false
is_too_many draft (entry.Script rule) = is_rule_too_many draft.rules rule

-- whether a record is of a station that isn't there, or of a line from a station to itself
abbrev pub is_astray : ℕ → Record → Bool
is_astray stations (entry.Clock start) = nat_lt stations start.station
is_astray stations (entry.Rate rating) = nat_lt stations rating.station
is_astray stations (entry.Shape from) = nat_lt stations from.station
is_astray stations (entry.Script rule) = nat_lt stations rule.from || nat_lt stations rule.to || (rule.from == rule.to)

-- the greatest first tick of the waveforms of a station
abbrev pub latest : ℕ → List ShapeFrom → ℕ
latest station shapes = fold (λ tick shape. if shape.station == station then max tick shape.from else tick) 0 shapes

-- whether two rules are of one directed line
abbrev pub is_one_line : Rule → Rule → Bool
is_one_line a b = (a.from == b.from) && (a.to == b.to)

-- whether an earlier rule is a delay of the same line that begins later
abbrev pub is_later_delay : Rule → Rule → Bool
is_later_delay earlier rule = is_delay earlier.act && is_one_line earlier rule && nat_lt rule.first earlier.first

-- whether a record ends before it begins, is a second start of its clock, or begins before an earlier one of its station or line
abbrev pub is_out_of_order : Draft → Record → Bool
is_out_of_order draft (entry.Clock start) = list_any (λ earlier. earlier.station == start.station) draft.starts
is_out_of_order draft (entry.Rate rating) =
    list_any (λ earlier. (earlier.station == rating.station) && nat_lt rating.rate.from earlier.rate.from) draft.rates
is_out_of_order draft (entry.Shape from) = nat_lt from.from (latest from.station draft.shapes)
is_out_of_order draft (entry.Script rule) =
    nat_lt rule.last rule.first
    || (is_delay rule.act && list_any (λ earlier. is_later_delay earlier rule) draft.rules)

-- the least rule that a record breaks whose numbers lie in their ranges
abbrev pub record_fault : ℕ → Draft → Record → Option Reason
record_fault stations draft said =
    if is_too_many draft said then Some reason.Range
    else if is_astray stations said then Some reason.Station
    else if is_out_of_order draft said then Some reason.Order
    else None

-- what the numbers of a record say, or the least rule that they break by themselves
abbrev pub numbers_say : ℕ → Kind → Option (List ℤ) → Result Record Reason
numbers_say drift kind None = Err reason.Number
numbers_say drift kind (Some numbers) = if are_between drift 0 (columns_of kind) numbers then Ok (record_of kind numbers) else Err reason.Range

-- what a row says whose name is that of a kind, or of none
abbrev pub kind_says : ℕ → Option Kind → Row → Result Record Reason
kind_says drift None row = Err reason.Kind
kind_says drift (Some kind) row =
    if length row == 1 + length (columns_of kind) then numbers_say drift kind (numbers_of (drop 1 row)) else Err reason.Fields

-- what a row says that is neither a `set` nor a remark, or the least rule that it breaks by itself
abbrev pub row_says : ℕ → Row → Result Record Reason
row_says drift row = kind_says drift (kind_of (name_of row)) row

-- the least rule that a row breaks, by itself or beside the records before it
abbrev pub said_fault : ℕ → Draft → Result Record Reason → Option Reason
said_fault stations draft (Err reason) = Some reason
said_fault stations draft (Ok said) = record_fault stations draft said

-- the least rule that a row behind the settings breaks: a `set` comes too late, if nothing else is wrong with it
abbrev pub row_fault : List Setting → Fields → Draft → Row → Option Reason
row_fault given f draft row =
    if is_set (name_of row) then Some (unwrap_or (set_fault known.Scenario given row) reason.Late)
    else if is_remark (name_of row) then None
    else said_fault f.stations draft (row_says f.drift row)

-- the records with one more
abbrev pub with_record : Draft → Record → Draft
with_record draft (entry.Clock start) = record draft { starts = draft.starts ++ start ∷ [] }
with_record draft (entry.Rate rating) = record draft { rates = draft.rates ++ rating ∷ [] }
with_record draft (entry.Shape from) = record draft { shapes = draft.shapes ++ from ∷ [] }
with_record draft (entry.Script rule) = record draft { rules = draft.rules ++ rule ∷ [] }

-- the records with what a row says
abbrev pub with_said : Draft → Result Record Reason → Draft
with_said draft (Err reason) = draft
with_said draft (Ok said) = with_record draft said

-- the records with what a row adds
abbrev pub with_row : ℕ → Draft → Row → Draft
with_row drift draft row = if is_remark (name_of row) then draft else with_said draft (row_says drift row)

-- what each row behind the settings breaks
abbrev pub row_faults : List Setting → Fields → Draft → List Row → List (Option Reason)
row_faults given f draft [] = []
row_faults given f draft (row ∷ rows) = row_fault given f draft row ∷ row_faults given f (with_row f.drift draft row) rows
