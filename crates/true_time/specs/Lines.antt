-- The lines of a report that tell an estimate. (This project's own.)
use Rattle.std.specs.Prelude.{◌≤◌, Some, None}
use Rattle.line_journal.specs.declared.line.Line.{Line}
use Rattle.line_journal.specs.declared.line.Line.TheVariants as line

-- where a line has a bound, its error is within it
abbrev pub ErrsWithin : Line → Type 0
ErrsWithin (line.Est time station peer estimate2 round_trip error (Some bound)) = error ≤ bound
ErrsWithin other = Unit {0}

-- no line of an estimate lacks its bound
abbrev pub HasBound : Line → Type 0
HasBound (line.Est time station peer estimate2 round_trip error None) = ⊥
HasBound other = Unit {0}
