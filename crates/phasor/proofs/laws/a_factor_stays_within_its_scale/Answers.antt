use Rattle.phasor.proofs.Entries.{IsWithin-factor}
use Rattle.phasor.proofs.laws.a_factor_stays_within_its_scale.Goals as goal

pub returns : goal.returns
returns c = IsWithin-factor
