use Rattle.trip_logic.proofs.Through.{Out-through}
use Rattle.trip_logic.proofs.laws.through_current_is_not_outside.Goals as goal

pub returns : goal.returns
returns c = Out-through
