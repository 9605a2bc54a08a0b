use Rattle.std.proofs.Common.{[]}
use Rattle.relay_core.specs.Follows.{Follows, Signals}
use Rattle.relay_core.specs.Turned.{IsCalmTrue}
use Rattle.relay_core.proofs.InPlace.{All-push}
use Rattle.relay_core.proofs.terminal.add_peer.Goals as goal

pub returns-clause-follow : goal.returns-clause-follow
returns-clause-follow c = λ all.
    rw (c.in_ok-push.ensures.items) (All-push (Follows c.args.s.now c.args.me []) c.args.peers.now.items c.new-2.result all (c.new-2.ensures.follows c.args.me))

pub returns-clause-signal : goal.returns-clause-signal
returns-clause-signal c = λ all.
    rw (c.in_ok-push.ensures.items) (All-push (Signals c.args.s.now c.args.me []) c.args.peers.now.items c.new-2.result all (c.new-2.ensures.signals c.args.me))

pub returns-clause-calm : goal.returns-clause-calm
returns-clause-calm c = λ all. rw (c.in_ok-push.ensures.items) (All-push IsCalmTrue c.args.peers.now.items c.new-2.result all c.new-2.ensures.calm)
