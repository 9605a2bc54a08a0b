use Rattle.std.proofs.Common.{refl, ap}
use Rattle.relay_core.proofs.Following.{Follows-new}
use Rattle.relay_core.proofs.peer.Peer.new.Goals as goal

pub returns-clause-follows : goal.returns-clause-follows
returns-clause-follows c = λ me.
    let held = c.new-3.ensures.track in
    Follows-new c.args.s.now me _ (ap (λ t. t.slow) held, ap (λ t. t.age) held) c.new.ensures c.new-2.ensures c.new-3.ensures.stands refl refl
