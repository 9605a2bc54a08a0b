use Rattle.pingpong.proofs.Gains.{WithinDrift-phase}
use Rattle.pingpong.proofs.laws.a_clock_keeps_its_drift.Goals as goal

pub returns : goal.returns
returns c = WithinDrift-phase
