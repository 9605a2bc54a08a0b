use Rattle.std.proofs.Common.{◌≡◌, ◌-◌, ◌<◌, ◌≤◌, length, refl, ◌∙◌, sym, rules, arith}
use Rattle.sample_store.specs.Answers.{own_answer}
use Rattle.sample_store.specs.Stock.{Stock}
use Rattle.sample_store.proofs.Owns.{IsTook-answer, IsTook-since, StandsFor-left, StandsFor-took, limit-accepted}
use Rattle.sample_store.proofs.store.Store.own.Goals as goal

pub returns-in-Took-clause-stands : goal.returns-in-Took-clause-stands
returns-in-Took-clause-stands c = λ calls stands.
    let stock : Stock = record {
      fields = c.self.inside.settings;
      me = c.self.inside.me;
      now = c.self.inside.now;
      own_next = c.self.inside.own_next;
      given_next = c.self.inside.given_next;
      rings = c.self.inside.rings;
    } in
    let n = c.in-Took.number in
    let answer = rw (c.fields.ensures.same, c.get.ensures.count) at c.own_number-taken.ensures in
    let took = IsTook-answer stock.fields.spacing stock.own_next c.args.now n (sym answer ∙ c.in-Took.is) in
    let few = limit-accepted stock.fields (rw c.fields.ensures.same at c.fields.ensures.accepted) in
    let puts = rw c.from.ensures at c.put.ensures in
    let later = rw (← c.self.view_is) at c.requires in
    let held = rw (← c.self.view_is) at stands in
    let me = c.self.invariant in
    let long : length stock.rings ≡ 3 = search rules in
    let station : 1 ≤ stock.me = me.0 in
    let inside : stock.me - 1 < length stock.rings = omega (arith, me.0, me.1, long) in
    rw (c.get-self-inside.ensures.count, c.from-in-Took.ensures, c.from.ensures)
    (StandsFor-took stock calls c.args.now n c.args.v c.put.new.self few inside later took
    (IsTook-since stock.fields.spacing stock.own_next c.args.now n took) puts station held)

pub returns-in_default : goal.returns-in_default
returns-in_default c =
    let answer : c.own_number-taken.result ≡ own_answer c.args.self.now.fields.spacing c.args.self.now.own_next c.args.now =
    rw (← c.self.view_is) (rw (c.fields.ensures.same, c.get.ensures.count) at c.own_number-taken.ensures) in
    record {
      settings = (refl, refl, c.requires);
      given_next = refl;
      taken = answer;
      refused = λ refused. refl;
      stands = λ calls stands. StandsFor-left c.args.self.now calls c.args.now c.args.v (λ n is. c.in_default.not-Took n (answer ∙ is)) stands;
    }
