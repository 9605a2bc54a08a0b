use Rattle.std.proofs.Common.{length}
use Rattle.row_reader.proofs.rows.tests.marked.Given as goal

abbrev pub decreases-loop-all : goal.decreases-loop-all
decreases-loop-all l = length l.rows
