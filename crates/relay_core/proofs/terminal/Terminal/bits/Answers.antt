use Rattle.std.proofs.Common.{◌≡◌, ℕ, ◌≤◌, List, Option, ◌∙◌, ap, arith, set, sym}
use Rattle.std.specs.List.{flat_map}
use Rattle.std.specs.Option.{ForSome, option_to_list}
use Rattle.std.specs.Vec.{with_item}
use Rattle.offset_track.specs.Track.{Chosen}
use Rattle.relay_core.specs.Answers.{news_in, placed_of}
use Rattle.relay_core.specs.Decided.{Offers}
use Rattle.relay_core.specs.Follows.{Brought, brought_in, values_in}
use Rattle.relay_core.specs.Log as log
use Rattle.relay_core.specs.declared.call.Call.{Call}
use Rattle.relay_core.specs.declared.call.Call.TheVariants as made
use Rattle.relay_core.specs.StandsFor.{StandsFor, kept_of}
use Rattle.relay_core.specs.Turned.{told, turned}
use Rattle.relay_core.specs.declared.answers.Heard.{Heard}
use Rattle.relay_core.proofs.Changing.{IsAt-place, calm-set, stations-set}
use Rattle.relay_core.proofs.Lists.{written-mapped}
use Rattle.relay_core.proofs.Receiving.{IsReceived, Offers-hears, Received, Served-hears, chosen-brought}
use Rattle.relay_core.proofs.Standing.{IsServed, StandsFor-turned, calm-turned, changes-turned, decided-later, judged_by-offers, stations-turned}
use Rattle.relay_core.proofs.terminal.Terminal.bits.Goals as goal

-- what the bits bring
abbrev brought : goal.After-self-3-1 → Brought
brought c = brought_in c.hear-fresh.new.heard c.hear-fresh.result

-- the peer that the bits come from, and what it brings
received : (c : goal.After-self-3-1) (calls : List Call) → StandsFor c.args.self.now calls
    → IsReceived (kept_of c.self.inside) calls c.args.now c.args.peer c.args.chunk.now c.span_with-span.result c.place_of-place.result c.index_mut.result.now
    c.hear-fresh.new.self (brought c)
received c calls stands =
    let t = kept_of c.self.inside in
    let held = rw (← c.self.view_is) at stands in
    let requires = rw (← c.self.view_is) at c.requires.station in
    let at = IsAt-place t.settings t.me t.peers c.place_of-place.result c.args.peer c.index_mut.result.now c.self.invariant.peers
    (c.place_of-place.ensures t.settings requires) c.index_mut.ensures.value in
    Received t calls c.args.now c.args.peer c.args.chunk.now c.span_with-span.result c.place_of-place.result c.index_mut.result.now c.hear-fresh.new.self (brought c)
    held c.span_with-span.ensures at c.hear-fresh.ensures.follows c.hear-fresh.ensures.brings

-- the terminal with what the peer brings
served : (c : goal.After-self-3-1) (calls : List Call) → StandsFor c.args.self.now calls
    → IsServed (kept_of c.self.inside) calls (made.Bits c.args.now c.args.peer c.args.chunk.now) c.span_with-span.result c.self.inside.newest c.put.new.decider
    (set c.self.inside.peers.items c.place_of-place.result c.hear-fresh.new.self)
served c calls stands =
    let t = kept_of c.self.inside in
    let got = received c calls stands in
    Served-hears t calls c.args.now c.args.peer c.args.chunk.now c.span_with-span.result c.put.new.decider c.place_of-place.result c.index_mut.result.now
    c.hear-fresh.new.self (brought c) got
    (c.put.ensures.decides t.settings t.me (Offers t.settings t.me calls) got.stands.decides) c.hear-fresh.ensures.station c.hear-fresh.ensures.alarms

pub returns-clause-answer : goal.returns-clause-answer
returns-clause-answer c = λ calls stands.
    let t = kept_of c.self.inside in
    let call = made.Bits c.args.now c.args.peer c.args.chunk.now in
    let span = c.span_with-span.result in
    let got = received c calls stands in
    let before = Offers t.settings t.me calls in
    let offers = Offers-hears t.settings t.me c.args.now c.args.peer calls c.args.chunk.now (brought c) got.brings in
    let rest = c.put.ensures.rest in
    rw (← c.self.view_is)
    (record {
      frame = got.brings.frame ∙ ap (λ (h : Heard). option_to_list h.frame) (sym rest);
      news = got.brings.news ∙ ap (λ (h : Heard). news_in h.news) (sym rest);
      refused = ap (λ (h : Heard). h.refused) rest ∙ got.brings.refused;
      taken = got.brings.taken ∙ ap (λ (h : Heard). option_to_list h.taken) (sym rest);
      chosen = chosen-brought t.settings t.me calls c.args.peer call (brought c) got.brings ∙ ap option_to_list (sym c.put.ensures.chosen);
      placed = ap (flat_map (placed_of t.settings before)) got.brings.values ∙ c.put.ensures.placed t.settings t.me before got.stands.decides;
      judged = judged_by-offers t.settings t.me calls call (values_in c.args.peer c.hear-fresh.new.heard.news c.hear-fresh.result) offers
          ∙ c.put.ensures.judged t.settings t.me before got.stands.decides;
      changes = c.turn_all.ensures.changes ∙ ap (flat_map (told span.since span.now)) c.deref_mut.ensures.value
          ∙ changes-turned t calls call span t.newest c.put.new.decider (set t.peers c.place_of-place.result c.hear-fresh.new.self) (served c calls stands);
    })

pub returns-clause-stands : goal.returns-clause-stands
returns-clause-stands c = λ calls stands.
    let t = kept_of c.self.inside in
    let span = c.span_with-span.result in
    let place = c.place_of-place.result in
    let y = c.hear-fresh.new.self in
    StandsFor-turned t calls (made.Bits c.args.now c.args.peer c.args.chunk.now) span t.newest c.put.new.decider (set t.peers place y) _ (served c calls stands)
    (written-mapped (turned span.since span.now) (with_item c.self.inside.peers place y) _ c.turn_all.new.peers c.deref_mut.ensures.value c.turn_all.ensures.turned)

pub turn_all-requires-clause-calm : goal.turn_all-requires-clause-calm
turn_all-requires-clause-calm c = rw (c.deref_mut.ensures.value)
    (calm-set c.self.inside.peers.items c.place_of-place.result c.hear-fresh.new.self c.self.invariant.calm c.hear-fresh.ensures.calm)

pub invariant_of-self : goal.invariant_of-self
invariant_of-self c =
    let t = kept_of c.self.inside in
    let span = c.span_with-span.result in
    let place = c.place_of-place.result in
    let x = c.index_mut.result.now in
    let y = c.hear-fresh.new.self in
    let requires = rw (← c.self.view_is) at c.requires.station in
    let at = IsAt-place t.settings t.me t.peers place c.args.peer x c.self.invariant.peers (c.place_of-place.ensures t.settings requires) c.index_mut.ensures.value in
    let peers = written-mapped (turned span.since span.now) (with_item c.self.inside.peers place y) _ c.turn_all.new.peers c.deref_mut.ensures.value c.turn_all.ensures.turned in
    let early = decided-later c.self.inside.span c.args.now c.self.inside.decider.store.now span c.span_with-span.ensures c.self.invariant.decided in
    record {
      me = c.self.invariant.me;
      peers = stations-turned span.since span.now (set t.peers place y) _ (log.peers t.settings t.me) peers
          (stations-set t.settings t.me t.peers place c.args.peer x y at c.hear-fresh.ensures.station ∙ c.self.invariant.peers);
      calm = calm-turned span.since span.now (set t.peers place y) _ peers (calm-set t.peers place y c.self.invariant.calm c.hear-fresh.ensures.calm);
      decider = (c.put.ensures.settings.0 ∙ c.self.invariant.decider.0, c.put.ensures.settings.1 ∙ c.self.invariant.decider.1);
      decided = c.put.ensures.now span.now early (at-most c.hear-fresh.result span.now c.hear-fresh.ensures.at);
    }
  where
    at-most : (fresh : Option Chosen) (time : ℕ) → ForSome fresh (λ chosen. chosen.at ≡ time) → ForSome fresh (λ chosen. chosen.at ≤ time)
    at-most fresh time is chosen found = omega (arith, is chosen found)
