use Rattle.std.proofs.Common.{◌≡◌, ◌+◌, length}
use Rattle.bench_cmd.proofs.Judging.{Judged}
use Rattle.row_reader.specs.Rows.{rows_of}
use Rattle.bench_cmd.proofs.judge.judge.Given as goal

-- the rows so far are judged, and they and the rest are all
abbrev pub invariant-judging : goal.invariant-judging
invariant-judging l = Judged l.count (rows_of l.input) l.trip l.rows l.text.items l.at l.next × (l.at + length l.rows ≡ length (rows_of l.input))

abbrev pub decreases-judging : goal.decreases-judging
decreases-judging l = length l.rows
