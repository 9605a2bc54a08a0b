use Rattle.resample.proofs.Weighing.{mixed_value-rounded, mixed_value-between, mixed_value-first}
use Rattle.resample.proofs.laws.a_mixed_value_lies_between.Goals as goal

pub returns-clause-rounded : goal.returns-clause-rounded
returns-clause-rounded c = mixed_value-rounded

pub returns-clause-between : goal.returns-clause-between
returns-clause-between c = mixed_value-between

pub returns-clause-first : goal.returns-clause-first
returns-clause-first c = mixed_value-first
