use Rattle.bit_sync.proofs.Gains.{places}
use Rattle.bit_sync.proofs.laws.places_on_a_line.Goals as goal

pub returns : goal.returns
returns c r line = places r line
