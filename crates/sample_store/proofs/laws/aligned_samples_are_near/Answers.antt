use Rattle.sample_store.proofs.Instances.{AreNear-aligned}
use Rattle.sample_store.proofs.laws.aligned_samples_are_near.Goals as goal

pub returns : goal.returns
returns c = AreNear-aligned
