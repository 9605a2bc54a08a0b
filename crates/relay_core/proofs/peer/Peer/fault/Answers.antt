use Rattle.relay_core.proofs.Following.{Follows-faults}
use Rattle.relay_core.proofs.peer.Peer.fault.Goals as goal

pub returns-clause-follows : goal.returns-clause-follows
returns-clause-follows c = λ f me at calls follows. Follows-faults f me at calls c.args.self.now _ follows
