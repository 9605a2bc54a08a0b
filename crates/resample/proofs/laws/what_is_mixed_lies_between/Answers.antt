use Rattle.resample.proofs.Parts.{own-between, values-between, values-first}
use Rattle.resample.proofs.laws.what_is_mixed_lies_between.Goals as goal

pub returns-clause-values : goal.returns-clause-values
returns-clause-values c = values-between

pub returns-clause-first : goal.returns-clause-first
returns-clause-first c = values-first

pub returns-clause-number : goal.returns-clause-number
returns-clause-number c = own-between
