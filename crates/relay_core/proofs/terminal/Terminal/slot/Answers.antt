use Rattle.std.proofs.Common.{◌≡◌, List, ◌∙◌, ap, length, map}
use Rattle.std.specs.Vec.{with_items}
use Rattle.std.proofs.lemmas.List.{length-map}
use Rattle.relay_core.specs.Log as log
use Rattle.relay_core.specs.declared.call.Call.{Call}
use Rattle.relay_core.specs.declared.call.Call.TheVariants as made
use Rattle.relay_core.specs.Sends.{AllSend}
use Rattle.relay_core.specs.StandsFor.{StandsFor, kept_of}
use Rattle.relay_core.specs.Turned.{turned}
use Rattle.relay_core.specs.declared.peer.Peer.{Peer}
use Rattle.relay_core.proofs.Lists.{written}
use Rattle.relay_core.proofs.Slotting.{Served-sends, calm-sent, outgo-sends, peers-others, stations-sent}
use Rattle.relay_core.proofs.Standing.{IsServed, StandsFor-turned, calm-turned, changes-turned, decided-later, stations-turned}
use Rattle.relay_core.proofs.terminal.Terminal.slot.Goals as goal

pub send_to_all-requires-clause-others : goal.send_to_all-requires-clause-others
send_to_all-requires-clause-others c =
    rw (c.deref_mut.ensures.value) (peers-others c.self.inside.settings c.self.inside.me c.self.inside.peers.items c.self.invariant.peers)

-- each peer has had its slot
abbrev left : goal.After-self-2-1 → List Peer
left c = c.send_to_all.ensures.left

sent : (c : goal.After-self-2-1)
    → AllSend c.self.inside.me c.span_with-span.result.now c.self.inside.newest c.self.inside.peers.items (left c) c.send_to_all.new.slotted.frames.items
sent c = rw (c.deref_mut.ensures.value) at c.send_to_all.ensures.sent

served : (c : goal.After-self-2-1) (calls : List Call) → StandsFor c.args.self.now calls
    → IsServed (kept_of c.self.inside) calls (made.Slot c.args.now) c.span_with-span.result c.self.inside.newest c.self.inside.decider (left c)
served c calls stands =
    Served-sends (kept_of c.self.inside) calls c.args.now c.span_with-span.result (left c) c.send_to_all.new.slotted.frames.items
    (rw (← c.self.view_is) at stands) c.span_with-span.ensures (sent c)

-- and its alarms were turned
turned_all : (c : goal.After-self-2-1)
    → (with_items c.self.inside.peers c.send_to_all.new.peers).items ≡ map (turned c.span_with-span.result.since c.span_with-span.result.now) (left c)
turned_all c =
    let is = c.send_to_all.ensures.is_turned in
    let long = ap length is ∙ length-map (left c) (turned c.span_with-span.result.since c.span_with-span.result.now) ∙ (sent c).long in
    written c.self.inside.peers c.send_to_all.new.peers long ∙ is

pub returns-clause-answer : goal.returns-clause-answer
returns-clause-answer c = λ calls stands.
    let t = kept_of c.self.inside in
    let span = c.span_with-span.result in
    rw (← c.self.view_is)
    (record {
      frames = outgo-sends t calls c.args.now span (left c) c.send_to_all.new.slotted.frames.items (rw (← c.self.view_is) at stands) c.span_with-span.ensures (sent c);
      changes = c.send_to_all.ensures.is_told ∙ changes-turned t calls (made.Slot c.args.now) span t.newest t.decider (left c) (served c calls stands);
    })

pub returns-clause-stands : goal.returns-clause-stands
returns-clause-stands c = λ calls stands.
    let t = kept_of c.self.inside in
    StandsFor-turned t calls (made.Slot c.args.now) c.span_with-span.result t.newest t.decider (left c) _ (served c calls stands) (turned_all c)

pub invariant_of-self : goal.invariant_of-self
invariant_of-self c =
    let t = kept_of c.self.inside in
    let span = c.span_with-span.result in
    let outs = c.send_to_all.new.slotted.frames.items in
    record {
      me = c.self.invariant.me;
      peers = stations-turned span.since span.now (left c) _ (log.peers t.settings t.me) (turned_all c)
          (stations-sent t.me span.now t.newest t.peers (left c) outs (sent c) ∙ c.self.invariant.peers);
      calm = calm-turned span.since span.now (left c) _ (turned_all c) (calm-sent t.me span.now t.newest t.peers (left c) outs (sent c) c.self.invariant.calm);
      decider = c.self.invariant.decider;
      decided = decided-later c.self.inside.span c.args.now c.self.inside.decider.store.now span c.span_with-span.ensures c.self.invariant.decided;
    }
