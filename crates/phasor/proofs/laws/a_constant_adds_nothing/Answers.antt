use Rattle.phasor.proofs.Offsets.{Sum-moved}
use Rattle.phasor.proofs.laws.a_constant_adds_nothing.Goals as goal

pub returns : goal.returns
returns c = Sum-moved
