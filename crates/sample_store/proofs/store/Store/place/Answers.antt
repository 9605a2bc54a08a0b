use Rattle.std.proofs.Common.{◌≡◌, ◌-◌, ◌<◌, ◌≤◌, length, refl, ◌∙◌, sym, rules, arith}
use Rattle.pingpong.specs.Exchange.{estimate2}
use Rattle.sample_store.specs.Aligned.{Aligned}
use Rattle.sample_store.specs.Answers.{place_answer}
use Rattle.sample_store.specs.Stock.{Stock, held_at, ring_of}
use Rattle.sample_store.proofs.Owns.{limit-accepted}
use Rattle.sample_store.proofs.Places.{IsStored-answer, place_answer-over_all, StandsFor-stored, StandsFor-unplaced}
use Rattle.sample_store.proofs.store.Store.place.Goals as goal

pub returns-in-Stored-clause-stands : goal.returns-in-Stored-clause-stands
returns-in-Stored-clause-stands c = λ calls stands.
    let stock : Stock = record {
      fields = c.self.inside.settings;
      me = c.self.inside.me;
      now = c.self.inside.now;
      own_next = c.self.inside.own_next;
      given_next = c.self.inside.given_next;
      rings = c.self.inside.rings;
    } in
    let n = c.in-Stored.n in
    let answer = rw (c.fields-fields.ensures.same, c.from-place.ensures, c.get.ensures.number) at c.place_number-placed.ensures in
    let stored = IsStored-answer stock.fields.spacing stock.fields.limit c.args.fresh.at (ring_of stock c.args.peer)
    (Aligned stock.fields.spacing c.args.number (estimate2 c.args.fresh.exchange)) n (sym answer ∙ c.in-Stored.is) in
    let few = limit-accepted stock.fields (rw c.fields-fields.ensures.same at c.fields-fields.ensures.accepted) in
    let puts = rw (c.from-place.ensures, c.get.ensures.number) at c.put.ensures in
    let later = rw (← c.self.view_is) at c.requires.at in
    let is_peer = rw (← c.self.view_is) at c.requires.peer in
    let held = rw (← c.self.view_is) at stands in
    let peer = c.get.ensures in
    let long : length stock.rings ≡ 3 = search rules in
    let inside : c.args.peer - 1 < length stock.rings = omega (arith, peer.number, peer.in_range, long) in
    let me = c.self.invariant in
    let station : 1 ≤ stock.me = me.0 in
    rw (c.get-self-inside.ensures.count, c.now.ensures, c.from-place.ensures, c.get.ensures.number)
    (StandsFor-stored stock calls c.args.fresh c.args.peer c.args.number n c.args.v c.put.new.self few inside station later is_peer stored puts held)

pub returns-in-Stored-clause-over_all_calls : goal.returns-in-Stored-clause-over_all_calls
returns-in-Stored-clause-over_all_calls c = λ calls stands.
    let answer : c.place_number-placed.result
    ≡ place_answer c.args.self.now.fields.spacing c.args.self.now.fields.limit c.args.fresh.at (held_at (ring_of c.args.self.now c.args.peer))
    (Aligned c.args.self.now.fields.spacing c.args.number (estimate2 c.args.fresh.exchange)) =
    rw (← c.self.view_is) (rw (c.fields-fields.ensures.same, c.from-place.ensures, c.get.ensures.number) at c.place_number-placed.ensures) in
    sym c.in-Stored.is
    ∙ answer
    ∙ place_answer-over_all c.args.self.now calls c.args.fresh.at c.args.peer
    (Aligned c.args.self.now.fields.spacing c.args.number (estimate2 c.args.fresh.exchange)) c.requires.at c.requires.peer stands

pub returns-in_default : goal.returns-in_default
returns-in_default c =
    let answer : c.place_number-placed.result
    ≡ place_answer c.args.self.now.fields.spacing c.args.self.now.fields.limit c.args.fresh.at (held_at (ring_of c.args.self.now c.args.peer))
    (Aligned c.args.self.now.fields.spacing c.args.number (estimate2 c.args.fresh.exchange)) =
    rw (← c.self.view_is) (rw (c.fields-fields.ensures.same, c.from-place.ensures, c.get.ensures.number) at c.place_number-placed.ensures) in
    record {
      settings = (refl, refl, c.requires.at);
      given_next = refl;
      placed = answer;
      over_all_calls = λ calls stands.
          answer
          ∙ place_answer-over_all c.args.self.now calls c.args.fresh.at c.args.peer
          (Aligned c.args.self.now.fields.spacing c.args.number (estimate2 c.args.fresh.exchange)) c.requires.at c.requires.peer stands;
      refused = λ refused. refl;
      stands = λ calls stands. StandsFor-unplaced c.args.self.now calls c.args.fresh c.args.peer c.args.number c.args.v c.requires.at c.requires.peer
          (λ n is. c.in_default.not-Stored n (answer ∙ is)) stands;
    }
