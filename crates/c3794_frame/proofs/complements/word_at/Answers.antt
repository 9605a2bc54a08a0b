use Rattle.c3794_frame.proofs.Words.{word_bit}
use Rattle.c3794_frame.proofs.complements.word_at.Goals as goal

pub returns : goal.returns
returns c i below = word_bit _ c.args.from _ i c.fits-bits c.from_be_bytes.ensures below
