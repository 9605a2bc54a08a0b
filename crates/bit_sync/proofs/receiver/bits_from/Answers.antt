use Rattle.bit_sync.proofs.Fills.{bits_number, bits_small}
use Rattle.bit_sync.proofs.receiver.bits_from.Goals as goal

pub returns-clause-number : goal.returns-clause-number
returns-clause-number c = bits_number c.args.bytes.now c.args.at c.args.count c.from.result c.requires.count.1 c.from.ensures

pub returns-clause-small : goal.returns-clause-small
returns-clause-small c = bits_small c.args.bytes.now c.args.at c.args.count c.from.result c.requires.count.1 c.from.ensures
