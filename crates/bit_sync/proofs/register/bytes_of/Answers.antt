use Rattle.bit_sync.proofs.FrameBytes.{two_words}
use Rattle.bit_sync.proofs.Registers.{newest_below}
use Rattle.bit_sync.proofs.register.bytes_of.Goals as goal

pub returns-clause-number : goal.returns-clause-number
returns-clause-number c = (two_words _ _ _ _ _ c.ranges.high.fits c.ranges.low.fits c.to_be_bytes.ensures c.to_be_bytes-2.ensures c.joined.ensures).0

pub returns-clause-small : goal.returns-clause-small
returns-clause-small c = newest_below _ _ c.ranges.high.fits c.ranges.low.fits

pub returns-clause-long : goal.returns-clause-long
returns-clause-long c = (two_words _ _ _ _ _ c.ranges.high.fits c.ranges.low.fits c.to_be_bytes.ensures c.to_be_bytes-2.ensures c.joined.ensures).1
