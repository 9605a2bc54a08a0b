use Rattle.bit_sync.proofs.Registers.{oldest_pushed}
use Rattle.bit_sync.proofs.register.extended.Goals as goal

pub returns : goal.returns
returns c = rw (c.from.ensures, c.from-2.ensures) (oldest_pushed c.args.oldest c.args.value c.args.count c.ranges.oldest.fits c.requires.few.1 c.requires.small)
