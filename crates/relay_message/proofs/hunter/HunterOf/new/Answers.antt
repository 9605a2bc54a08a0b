use Rattle.relay_message.proofs.Kept.{stands-empty}
use Rattle.relay_message.proofs.hunter.HunterOf.new.Goals as goal

pub returns : goal.returns
returns g c = stands-empty g.L.Format.layout c.new.result c.new.ensures
