use Rattle.std.proofs.Common.{[]}
use Rattle.relay_core.specs.Follows.{Follows, Signals}
use Rattle.relay_core.specs.Turned.{IsCalmTrue}
use Rattle.relay_core.proofs.InPlace.{All-none}
use Rattle.relay_core.proofs.terminal.peers_of.Goals as goal

pub returns-clause-follow : goal.returns-clause-follow
returns-clause-follow c =
    let none = All-none (Follows c.args.s.now c.args.me []) _ c.in_ok-peers.ensures.items in
    c.in_ok-add_peer-3.ensures.follow (c.in_ok-add_peer-2.ensures.follow (c.in_ok-add_peer.ensures.follow none))

pub returns-clause-signal : goal.returns-clause-signal
returns-clause-signal c =
    let none = All-none (Signals c.args.s.now c.args.me []) _ c.in_ok-peers.ensures.items in
    c.in_ok-add_peer-3.ensures.signal (c.in_ok-add_peer-2.ensures.signal (c.in_ok-add_peer.ensures.signal none))

pub returns-clause-calm : goal.returns-clause-calm
returns-clause-calm c =
    let none = All-none IsCalmTrue _ c.in_ok-peers.ensures.items in
    c.in_ok-add_peer-3.ensures.calm (c.in_ok-add_peer-2.ensures.calm (c.in_ok-add_peer.ensures.calm none))
