-- What the test over the whole table says of one byte.
use Rattle.message_check.proofs.Entries.{REMAINDERS-at}
use Rattle.message_check.proofs.table.remainder_of.Goals as goal

pub returns : goal.returns
returns c = REMAINDERS-at c.args.byte c.from.result c.from.ensures c.ranges.byte.fits
