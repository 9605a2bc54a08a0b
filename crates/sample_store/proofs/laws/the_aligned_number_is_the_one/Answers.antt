use Rattle.sample_store.specs.Aligned.{Aligned}
use Rattle.sample_store.proofs.Alone.{IsAligned-alone, IsAligned-Aligned}
use Rattle.sample_store.proofs.laws.the_aligned_number_is_the_one.Goals as goal

pub returns-clause-is : goal.returns-clause-is
returns-clause-is c = IsAligned-Aligned

pub returns-clause-alone : goal.returns-clause-alone
returns-clause-alone c = λ spacing number e n some aligned.
    IsAligned-alone spacing number e n (Aligned spacing number e) some aligned (IsAligned-Aligned spacing number e some)
