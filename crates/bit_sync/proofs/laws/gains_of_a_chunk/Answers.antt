use Rattle.bit_sync.proofs.Gains.{gains}
use Rattle.bit_sync.proofs.laws.gains_of_a_chunk.Goals as goal

pub returns : goal.returns
returns c r line more frame misses few told = gains r line more frame misses few told
