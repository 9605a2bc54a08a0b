use Rattle.resample.proofs.Nearness.{mixed-near}
use Rattle.resample.proofs.laws.mixed_instants_are_near.Goals as goal

pub returns : goal.returns
returns c = mixed-near
