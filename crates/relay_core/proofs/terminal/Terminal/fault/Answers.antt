use Rattle.std.proofs.Common.{List, [], ◌∷◌, ◌++◌, ◌∙◌, ap, set, subst, sym}
use Rattle.std.specs.List.{flat_map}
use Rattle.std.specs.Vec.{with_item}
use Rattle.relay_core.specs.Follows.{Follows}
use Rattle.relay_core.specs.Log as log
use Rattle.relay_core.specs.declared.call.Call.{Call}
use Rattle.relay_core.specs.declared.call.Call.TheVariants as made
use Rattle.relay_core.specs.StandsFor.{StandsFor, kept_of}
use Rattle.relay_core.specs.Turned.{told, turned}
use Rattle.relay_core.proofs.Changing.{IsAt-place, calm-set, station-at, stations-set}
use Rattle.relay_core.proofs.Lists.{written-mapped}
use Rattle.relay_core.proofs.Receiving.{Served-faults}
use Rattle.relay_core.proofs.Standing.{IsServed, StandsFor-turned, calm-turned, changes-turned, decided-later, stations-turned}
use Rattle.relay_core.proofs.terminal.Terminal.fault.Goals as goal

pub turn_all-requires-clause-calm : goal.turn_all-requires-clause-calm
turn_all-requires-clause-calm c = rw (c.deref_mut.ensures.value)
    (calm-set c.self.inside.peers.items c.place_of-place.result c.fault.new.self c.self.invariant.calm c.fault.ensures.calm)

pub invariant_of-self : goal.invariant_of-self
invariant_of-self c =
    let t = kept_of c.self.inside in
    let span = c.span_with-span.result in
    let place = c.place_of-place.result in
    let requires = rw (← c.self.view_is) at c.requires.station in
    let at = IsAt-place t.settings t.me t.peers place c.args.peer c.index_mut.result.now c.self.invariant.peers (c.place_of-place.ensures t.settings requires) c.index_mut.ensures.value in
    let peers = written-mapped (turned span.since span.now) (with_item c.self.inside.peers place c.fault.new.self) _ c.turn_all.new.peers c.deref_mut.ensures.value c.turn_all.ensures.turned in
    record {
      me = c.self.invariant.me;
      peers = stations-turned span.since span.now (set t.peers place c.fault.new.self) _ (log.peers t.settings t.me) peers
          (stations-set t.settings t.me t.peers place c.args.peer c.index_mut.result.now c.fault.new.self at c.fault.ensures.station ∙ c.self.invariant.peers);
      calm = calm-turned span.since span.now (set t.peers place c.fault.new.self) _ peers (calm-set t.peers place c.fault.new.self c.self.invariant.calm c.fault.ensures.calm);
      decider = c.self.invariant.decider;
      decided = decided-later c.self.inside.span c.args.now c.self.inside.decider.store.now span c.span_with-span.ensures c.self.invariant.decided;
    }

-- the terminal with the peer whose wire failed
served : (c : goal.After-self-3-1) (calls : List Call) → StandsFor c.args.self.now calls
    → IsServed (kept_of c.self.inside) calls (made.Fault c.args.now c.args.peer) c.span_with-span.result c.self.inside.newest c.self.inside.decider
    (set c.self.inside.peers.items c.place_of-place.result c.fault.new.self)
served c calls stands =
    let t = kept_of c.self.inside in
    let place = c.place_of-place.result in
    let x = c.index_mut.result.now in
    let y = c.fault.new.self in
    let held = rw (← c.self.view_is) at stands in
    let requires = rw (← c.self.view_is) at c.requires.station in
    let at = IsAt-place t.settings t.me t.peers place c.args.peer x c.self.invariant.peers (c.place_of-place.ensures t.settings requires) c.index_mut.ensures.value in
    let old = subst (Follows t.settings t.me calls) (sym at.is) (held.follow place x at.inside) in
    let follows = subst (λ peer. Follows t.settings t.me (calls ++ made.Fault c.args.now peer ∷ []) y) (station-at t.settings t.me t.peers place c.args.peer x at)
    (c.fault.ensures.follows t.settings t.me c.args.now calls old) in
    Served-faults t calls c.args.now c.args.peer c.span_with-span.result place x y held c.span_with-span.ensures at follows c.fault.ensures.station c.fault.ensures.alarms

pub returns-clause-changes : goal.returns-clause-changes
returns-clause-changes c = λ calls stands.
    let t = kept_of c.self.inside in
    let span = c.span_with-span.result in
    rw (← c.self.view_is)
    (c.turn_all.ensures.changes
    ∙ ap (flat_map (told span.since span.now)) c.deref_mut.ensures.value
    ∙ changes-turned t calls (made.Fault c.args.now c.args.peer) span t.newest t.decider (set t.peers c.place_of-place.result c.fault.new.self) (served c calls stands))

pub returns-clause-stands : goal.returns-clause-stands
returns-clause-stands c = λ calls stands.
    let t = kept_of c.self.inside in
    let span = c.span_with-span.result in
    let place = c.place_of-place.result in
    StandsFor-turned t calls (made.Fault c.args.now c.args.peer) span t.newest t.decider (set t.peers place c.fault.new.self) _ (served c calls stands)
    (written-mapped (turned span.since span.now) (with_item c.self.inside.peers place c.fault.new.self) _ c.turn_all.new.peers c.deref_mut.ensures.value c.turn_all.ensures.turned)
