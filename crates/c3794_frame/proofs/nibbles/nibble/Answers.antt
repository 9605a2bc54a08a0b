use Rattle.c3794_frame.proofs.Tables.{nibble_at}
use Rattle.c3794_frame.proofs.nibbles.nibble.Goals as goal

pub returns : goal.returns
returns c = λ pairs. nibble_at _ c.ranges.byte.fits pairs
