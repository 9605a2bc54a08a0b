use Rattle.std.specs.Prelude.{Some, None, option_to_list}
use Rattle.std.proofs.Common.{◌≡◌, ◌++◌, ap, ◌∙◌, sym}
use Rattle.sample_store.specs.Answers.{set_answer}
use Rattle.sample_store.specs.Calls.{Given}
use Rattle.sample_store.specs.Stock.{Stock}
use Rattle.sample_store.proofs.Sets.{Given-asked, StandsFor-given, StandsFor-not_given}
use Rattle.sample_store.proofs.store.Store.complete.Goals as goal

pub returns-in_err-set-clause-given : goal.returns-in_err-set-clause-given
returns-in_err-set-clause-given c = λ calls stands.
    let store = c.args.self.now in
    let answer : set_answer store.fields store.given_next store.rings c.args.now c.args.n ≡ None =
    rw (← c.self.view_is) (sym (rw c.get.ensures.count at c.set_to_give.ensures) ∙ c.in_err-set.was) in
    Given-asked store calls c.args.now c.args.n c.requires stands
    ∙ ap (λ set. Given store.fields store.me calls ++ option_to_list set) (answer ∙ sym c.from_residual.ensures)

pub returns-in_err-set-clause-stands : goal.returns-in_err-set-clause-stands
returns-in_err-set-clause-stands c = λ calls stands.
    let store = c.args.self.now in
    let answer : set_answer store.fields store.given_next store.rings c.args.now c.args.n ≡ None =
    rw (← c.self.view_is) (sym (rw c.get.ensures.count at c.set_to_give.ensures) ∙ c.in_err-set.was) in
    StandsFor-not_given store calls c.args.now c.args.n c.requires answer stands

pub returns-clause-given : goal.returns-clause-given
returns-clause-given c = λ calls stands.
    let store = c.args.self.now in
    let answer : set_answer store.fields store.given_next store.rings c.args.now c.args.n ≡ Some c.in_ok-set.set =
    rw (← c.self.view_is) (sym (rw c.get.ensures.count at c.set_to_give.ensures) ∙ c.in_ok-set.was) in
    Given-asked store calls c.args.now c.args.n c.requires stands
    ∙ ap (λ set. Given store.fields store.me calls ++ option_to_list set) answer

pub returns-clause-stands : goal.returns-clause-stands
returns-clause-stands c = λ calls stands.
    let stock : Stock = record {
      fields = c.self.inside.settings;
      me = c.self.inside.me;
      now = c.self.inside.now;
      own_next = c.self.inside.own_next;
      given_next = c.self.inside.given_next;
      rings = c.self.inside.rings;
    } in
    let answer : set_answer stock.fields stock.given_next stock.rings c.args.now c.args.n ≡ Some c.in_ok-set.set =
    sym (rw c.get.ensures.count at c.set_to_give.ensures) ∙ c.in_ok-set.was in
    let later = rw (← c.self.view_is) at c.requires in
    let held = rw (← c.self.view_is) at stands in
    rw c.from.ensures (StandsFor-given stock calls c.args.now c.args.n c.in_ok-set.set later answer held)
