use Rattle.c3794_frame.proofs.Tables.{line_pair_at}
use Rattle.c3794_frame.proofs.nibbles.line_pair.Goals as goal

pub returns-clause-high : goal.returns-clause-high
returns-clause-high c = rw c.to_le_bytes.ensures ((line_pair_at c.args.byte c.ranges.byte.fits).0)

pub returns-clause-low : goal.returns-clause-low
returns-clause-low c = rw c.to_le_bytes.ensures ((line_pair_at c.args.byte c.ranges.byte.fits).1)
