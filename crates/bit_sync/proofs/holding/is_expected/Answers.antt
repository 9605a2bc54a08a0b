use Rattle.std.proofs.Common.{sym, ◌∙◌}
use Rattle.c3794_frame.proofs.Lines.{header_is}
use Rattle.bit_sync.proofs.holding.is_expected.Goals as goal

pub returns : goal.returns
returns c = rw (c.from_be_bytes.ensures ∙ sym (header_is c.args.frame.now c.told-frame (c.fits-frame 0) (c.fits-frame 1)), c.header_word.ensures.word)
