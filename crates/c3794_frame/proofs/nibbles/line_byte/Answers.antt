use Rattle.c3794_frame.proofs.Tables.{line_byte_at}
use Rattle.c3794_frame.proofs.nibbles.line_byte.Goals as goal

pub returns : goal.returns
returns c = line_byte_at _ c.requires
