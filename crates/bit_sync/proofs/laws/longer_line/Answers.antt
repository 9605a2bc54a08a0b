use Rattle.bit_sync.proofs.Walks.{longer_first}
use Rattle.bit_sync.proofs.laws.longer_line.Goals as goal

pub returns : goal.returns
returns c r line more = longer_first r line more
