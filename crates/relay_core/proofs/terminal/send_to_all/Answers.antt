use Rattle.std.proofs.Common.{◌≢◌, ◌<◌, arith, length, rules, subst, sym}
use Rattle.relay_core.specs.Follows.{SendsSlot}
use Rattle.relay_core.specs.Turned.{IsCalmTrue}
use Rattle.relay_core.proofs.Lists.{written-last}
use Rattle.relay_core.proofs.SendingAll.{HaveServed-all, HaveServed-more, next-holds}
use Rattle.relay_core.proofs.terminal.send_to_all.Goals as goal

pub slot-requires-clause-other : goal.slot-requires-clause-other
slot-requires-clause-other c =
    let within : c.loop-peer.peer-index < length c.loop-peer.peers = omega (arith, c.loop-peer-test.true, c.loop-peer.invariant.as_long) in
    next-holds (λ p. p.station ≢ c.args.me) c.args.me c.args.since c.args.now c.args.newest.now c.loop-peer.peer-index c.args.peers.now c.loop-peer.peers _ _ c.peer-item.result
    within c.peer-item.is c.loop-peer.invariant c.requires.others

pub turn-requires-clause-calm : goal.turn-requires-clause-calm
turn-requires-clause-calm c =
    let within : c.loop-peer.peer-index < length c.loop-peer.peers = omega (arith, c.loop-peer-test.true, c.loop-peer.invariant.as_long) in
    c.slot.ensures.calm
    (next-holds IsCalmTrue c.args.me c.args.since c.args.now c.args.newest.now c.loop-peer.peer-index c.args.peers.now c.loop-peer.peers _ _ c.peer-item.result
    within c.peer-item.is c.loop-peer.invariant c.requires.calm)

pub loop-peer-preserved : goal.loop-peer-preserved
loop-peer-preserved c =
    let i = c.loop-peer.peer-index in
    let new = c.loop-peer.peers in
    let outs = c.loop-peer.slotted.frames.items in
    let x = c.peer-item.result in
    let y = c.slot.new.self in
    let out = c.slot.new.out in
    let within : i < length new = omega (arith, c.loop-peer-test.true, c.loop-peer.invariant.as_long) in
    let last = written-last outs c.push.new.self.items c.deref_mut.result.now _ out c.len-place.result c.len-place.ensures.value c.push.ensures.items c.deref_mut.ensures.value in
    rw (last, c.turn.ensures.changes)
    (HaveServed-more c.args.me c.args.since c.args.now c.args.newest.now i c.args.peers.now new outs c.loop-peer.slotted.changes.items x y c.turn.new.self out within c.peer-item.is
    (subst (λ z. SendsSlot c.args.me c.args.now c.args.newest.now z y out) (sym c.peer-item.is) c.slot.ensures) c.turn.ensures.turned c.loop-peer.invariant)

pub returns : goal.returns
returns c =
    HaveServed-all c.args.me c.args.since c.args.now c.args.newest.now c.loop-peer.peer-index c.args.peers.now c.loop-peer.peers _ _ (search (rules, arith)) c.loop-peer.invariant
