use Rattle.std.proofs.Common.{List, [], ◌∷◌, ◌∙◌, ap}
use Rattle.std.specs.List.{flat_map}
use Rattle.sample_store.specs.Offers.{Own}
use Rattle.relay_core.specs.Answers.{own_at}
use Rattle.relay_core.specs.Decided.{Offers}
use Rattle.relay_core.specs.Log as log
use Rattle.relay_core.specs.declared.call.Call.{Call}
use Rattle.relay_core.specs.declared.call.Call.TheVariants as made
use Rattle.relay_core.specs.StandsFor.{StandsFor, kept_of}
use Rattle.relay_core.specs.Turned.{told, turned}
use Rattle.relay_core.proofs.Lists.{written-mapped}
use Rattle.relay_core.proofs.Sampling.{Offers-samples, Served-samples}
use Rattle.relay_core.proofs.Standing.{IsServed, StandsFor-turned, calm-turned, changes-turned, judged_by-offers, span-served, stations-turned}
use Rattle.relay_core.proofs.terminal.Terminal.sample.Goals as goal

pub invariant_of-self : goal.invariant_of-self
invariant_of-self c =
    let span = c.span_with-span.result in
    let peers = written-mapped (turned span.since span.now) c.self.inside.peers _ c.turn_all.new.peers c.deref_mut.ensures.value c.turn_all.ensures.turned in
    record {
      me = c.self.invariant.me;
      peers = stations-turned span.since span.now c.self.inside.peers.items _ (log.peers c.self.inside.settings c.self.inside.me) peers c.self.invariant.peers;
      calm = calm-turned span.since span.now c.self.inside.peers.items _ peers c.self.invariant.calm;
      decider = (c.own-own.ensures.settings.0 ∙ c.self.invariant.decider.0, c.own-own.ensures.settings.1 ∙ c.self.invariant.decider.1);
      decided = c.own-own.ensures.now;
    }

-- the terminal with the sample
served : (c : goal.After-self-3-1) (calls : List Call) → StandsFor c.args.self.now calls
    → IsServed (kept_of c.self.inside) calls (made.Sample c.args.now c.args.v) c.span_with-span.result c.newest_after-self-inside.result c.own-own.new.self c.self.inside.peers.items
served c calls stands =
    let t = kept_of c.self.inside in
    let held = rw (← c.self.view_is) at stands in
    Served-samples t calls c.args.now c.args.v c.span_with-span.result c.own-own.result.0 c.newest_after-self-inside.result c.own-own.new.self held c.span_with-span.ensures
    (c.own-own.ensures.taken t.settings t.me (Offers t.settings t.me calls) held.decides) c.newest_after-self-inside.ensures
    (c.own-own.ensures.decides t.settings t.me (Offers t.settings t.me calls) held.decides)

pub returns-clause-answer : goal.returns-clause-answer
returns-clause-answer c = λ calls stands.
    let t = kept_of c.self.inside in
    let call = made.Sample c.args.now c.args.v in
    let span = c.span_with-span.result in
    let held = rw (← c.self.view_is) at stands in
    let at = span-served t calls call span held c.span_with-span.ensures in
    let offers = Offers-samples t.settings t.me c.args.now span.now calls c.args.v at.time in
    let before = Offers t.settings t.me calls in
    rw (← c.self.view_is)
    (record {
      own = c.own-own.ensures.taken t.settings t.me before held.decides ∙ ap (own_at t.settings t.me calls) at.time;
      judged = judged_by-offers t.settings t.me calls call (Own span.now c.args.v ∷ []) offers ∙ c.own-own.ensures.judged t.settings t.me before held.decides;
      changes = c.turn_all.ensures.changes ∙ ap (flat_map (told span.since span.now)) c.deref_mut.ensures.value
          ∙ changes-turned t calls call span c.newest_after-self-inside.result c.own-own.new.self t.peers (served c calls stands);
    })

pub returns-clause-stands : goal.returns-clause-stands
returns-clause-stands c = λ calls stands.
    let t = kept_of c.self.inside in
    let span = c.span_with-span.result in
    StandsFor-turned t calls (made.Sample c.args.now c.args.v) span c.newest_after-self-inside.result c.own-own.new.self t.peers _ (served c calls stands)
    (written-mapped (turned span.since span.now) c.self.inside.peers _ c.turn_all.new.peers c.deref_mut.ensures.value c.turn_all.ensures.turned)
