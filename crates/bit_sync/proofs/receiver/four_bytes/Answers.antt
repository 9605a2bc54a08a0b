use Rattle.bit_sync.proofs.Fills.{word_number}
use Rattle.bit_sync.proofs.receiver.four_bytes.Goals as goal

pub returns : goal.returns
returns c = word_number c.args.bytes.now c.args.from _ c.fits-bytes c.from_be_bytes.ensures
