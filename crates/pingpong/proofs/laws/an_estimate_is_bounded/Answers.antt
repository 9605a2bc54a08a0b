use Rattle.pingpong.proofs.Bounds.{Bounded-passage}
use Rattle.pingpong.proofs.laws.an_estimate_is_bounded.Goals as goal

pub returns : goal.returns
returns c = Bounded-passage
