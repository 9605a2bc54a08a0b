use Rattle.std.proofs.Common.{◌≡◌, drop}
use Rattle.waveform_reader.specs.Columns.{are_between}
use Rattle.waveform_reader.proofs.column.are_between.Given as goal

-- the numbers so far lie in their ranges
abbrev pub invariant-loop-place : goal.invariant-loop-place
invariant-loop-place l = are_between l.drift 0 l.columns l.numbers ≡ are_between l.drift l.place (drop l.place l.columns) l.numbers
