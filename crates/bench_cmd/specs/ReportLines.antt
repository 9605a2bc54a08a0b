-- The lines of a report.
use Rattle.std.specs.Prelude.{ℕ, ◌+◌, List, [], ◌∷◌, ◌++◌, map, codes, decimal}
use Rattle.std.specs.Fmt.{signed_decimal}
use Rattle.std.specs.List.{flat_map}
use Rattle.line_journal.specs.declared.line.Line.{Line}
use Rattle.line_journal.specs.declared.line.Line.TheVariants as line
use Rattle.line_journal.specs.declared.line.Total.{Total}
use Rattle.text_lines.specs.Lines.{row}
use Rattle.text_lines.specs.Words.{alarm_name, bound_word, letter, turn_word}

-- a line of a report: an exchange in force, a set judged, an alarm that turned
abbrev pub line_text : Line → List ℕ
line_text (line.Est time station peer estimate2 round_trip error bound) =
    row (codes "est") (
    decimal time ∷ decimal station ∷ decimal peer ∷ signed_decimal estimate2 ∷ signed_decimal round_trip ∷ decimal error ∷ bound_word bound ∷ []
    )
line_text (line.Judged time station number verdicts) =
    row (codes "set") (decimal time ∷ decimal station ∷ decimal number ∷ flat_map letter verdicts ∷ [])
line_text (line.Alarm time station peer turn) =
    row (codes "alarm") (decimal time ∷ decimal station ∷ decimal peer ∷ alarm_name turn.alarm ∷ turn_word turn.on ∷ [])

-- the counts of a total, in the order of its line
abbrev pub counts_of : Total → List ℕ
counts_of total =
    total.accepted ∷ total.sets ∷ total.trips ∷ total.refused ∷ total.strange ∷ total.repeats ∷ total.slow ∷ total.bad ∷ []

-- the line of what a station counted
abbrev pub total_text : ℕ → Total → List ℕ
total_text station total = row (codes "total") (map decimal (station ∷ counts_of total))

-- the lines of what the stations from one on counted
abbrev pub totals_from : ℕ → List Total → List ℕ
totals_from station [] = []
totals_from station (total ∷ totals) = total_text station total ++ totals_from (station + 1) totals

-- the last lines: how many accepted messages are forged, and the tick at which the run ended
abbrev pub last_lines : ℕ → ℕ → List ℕ
last_lines forged end = row (codes "forged") (decimal forged ∷ []) ++ row (codes "end") (decimal end ∷ [])
