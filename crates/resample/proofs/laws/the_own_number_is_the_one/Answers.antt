use Rattle.resample.proofs.OwnNumbers.{IsBetween-own_number, IsBetween-alone}
use Rattle.resample.proofs.laws.the_own_number_is_the_one.Goals as goal

pub returns-clause-is : goal.returns-clause-is
returns-clause-is c = IsBetween-own_number

pub returns-clause-alone : goal.returns-clause-alone
returns-clause-alone c = IsBetween-alone
