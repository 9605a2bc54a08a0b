use Rattle.relay_core.proofs.Standing.{StandsFor-new}
use Rattle.relay_core.proofs.terminal.Terminal.new.Goals as goal

pub returns-clause-stands : goal.returns-clause-stands
returns-clause-stands c =
    let peers = c.in_ok-peers_of.ensures in
    StandsFor-new c.args.s.now c.args.me c.in_ok-new.field-0 c.in_ok-peers_of.field-0.items c.in_ok-new.ensures.decides peers.stations peers.follow peers.signal
