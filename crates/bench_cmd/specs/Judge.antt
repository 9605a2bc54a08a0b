-- Judge: the rows of `judge`, their faults, and the text of their verdicts.
use Rattle.std.specs.Prelude.{ℕ, suc, ◌+◌, Bool, ◌&&◌, not, nat_lt, ◌==◌, if◌then◌else◌, ℤ, pos, negsuc, unsigned_abs, List, [], ◌∷◌, ◌++◌, map, flat_map, drop, length, Option, Some, None, unwrap_or, Result, decimal, codes}
use Rattle.std.specs.List.{list_all}
use Rattle.ld_base.specs.Settings.{usual}
use Rattle.ld_base.specs.declared.fields.Fields.{Fields}
use Rattle.ld_base.specs.declared.phases.Phases.{Phases}
use Rattle.ld_base.specs.declared.phases.SampleSet.{SampleSet}
use Rattle.ld_base.specs.declared.reason.Reason.{Reason}
use Rattle.ld_base.specs.declared.reason.Reason.TheVariants as reason
use Rattle.ld_base.specs.Phases.{no_current}
use Rattle.trip_logic.specs.TripAt.{verdicts}
use Rattle.trip_logic.specs.declared.verdict.Verdict.{Verdict}
use Rattle.row_reader.specs.RowNumbers.{is_between, number_at, numbers_of}
use Rattle.row_reader.specs.Faults.{first_fault, unless}
use Rattle.row_reader.specs.declared.fault.Fault.{Fault}
use Rattle.row_reader.specs.Rows.{Row}
use Rattle.text_lines.specs.Words.{letter}

-- a value of 16 bits
abbrev pub is_value : ℤ → Bool
is_value value = is_between (negsuc 32767, pos 32767) value

-- whether the number of the set and the values lie in their ranges
abbrev pub is_in_range : List ℤ → Bool
is_in_range numbers =
    is_between (pos 0, pos 4294967295) (number_at numbers 0)
    && list_all is_value (drop 1 numbers)

-- whether three numbers from a place on are values
abbrev pub are_values_at : List ℤ → ℕ → Bool
are_values_at numbers place = is_value (number_at numbers place) && is_value (number_at numbers (place + 1)) && is_value (number_at numbers (place + 2))

-- three values from a place on
abbrev pub phases_at : List ℤ → ℕ → Phases
phases_at numbers place = record { a = number_at numbers place; b = number_at numbers (place + 1); c = number_at numbers (place + 2) }

-- the set of seven numbers: its number, the phases of the first terminal and of the second
abbrev pub set_of_numbers : List ℤ → SampleSet
set_of_numbers numbers =
    record { number = unsigned_abs (number_at numbers 0); values = phases_at numbers 1 ∷ phases_at numbers 4 ∷ no_current ∷ [] }

-- the set of a row
abbrev pub set_of : Row → SampleSet
set_of row = set_of_numbers (unwrap_or (numbers_of row) [])

-- the least rule that numbers break, where those from `next` on come after that of the row before
abbrev pub numbers_fault : ℕ → Option (List ℤ) → Option Reason
numbers_fault next None = Some reason.Number
numbers_fault next (Some numbers) =
    if not (is_in_range numbers) then Some reason.Range
    else if nat_lt (set_of_numbers numbers).number next then Some reason.Order
    else None

-- the least rule that a row breaks
abbrev pub row_fault : ℕ → Row → Option Reason
row_fault next row = if not (length row == 7) then Some reason.Fields else numbers_fault next (numbers_of row)

-- the fault of each row
abbrev pub row_faults : ℕ → List Row → List (Option Reason)
row_faults next [] = []
row_faults next (row ∷ rows) = row_fault next row ∷ row_faults (suc (set_of row).number) rows

-- the settings of `judge`: two stations, five channels, and the defaults with that count
abbrev pub judge_settings : ℕ → Fields
judge_settings count = record (usual 2 5) { count = count }

-- the line of a set: its number, a comma, and the letters of its phases
abbrev pub line_of : ℕ → List Verdict → List ℕ
line_of number verdicts = decimal number ++ codes "," ++ flat_map letter verdicts ++ codes "\n"

-- the line of a set among those judged
abbrev pub judge_line : Fields → List SampleSet → SampleSet → List ℕ
judge_line f judged set = line_of set.number (verdicts f judged set.number)

-- the lines of some sets among those judged
abbrev pub judge_lines : Fields → List SampleSet → List SampleSet → List ℕ
judge_lines f judged sets = flat_map (judge_line f judged) sets

-- the text of the verdicts of all rows
abbrev pub judge_text : ℕ → List Row → List ℕ
judge_text count rows = judge_lines (judge_settings count) (map set_of rows) (map set_of rows)

-- what `judge` makes of its rows: the text, or the first fault
abbrev pub judge_rows : ℕ → List Row → Result (List ℕ) Fault
judge_rows count rows = unless (first_fault 1 (row_faults 0 rows)) (judge_text count rows)
