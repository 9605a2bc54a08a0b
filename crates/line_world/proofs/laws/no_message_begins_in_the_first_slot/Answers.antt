use Rattle.ld_base.proofs.Accepted.{AreInRange-from_no_fault}
use Rattle.line_world.proofs.FirstSlots.{world-idle}
use Rattle.line_world.proofs.laws.no_message_begins_in_the_first_slot.Goals as goal

pub returns : goal.returns
returns c s these journal station peer is first leads pair =
    world-idle s station peer these journal pair.one_there (AreInRange-from_no_fault s.settings is.settings).stations.1 is.end.0 first leads
