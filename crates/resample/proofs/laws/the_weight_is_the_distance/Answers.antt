use Rattle.resample.proofs.OwnNumbers.{weight-distance, weight-below}
use Rattle.resample.proofs.laws.the_weight_is_the_distance.Goals as goal

pub returns-clause-is : goal.returns-clause-is
returns-clause-is c = weight-distance

pub returns-clause-size : goal.returns-clause-size
returns-clause-size c = weight-below
