use Rattle.std.specs.Option.{option_to_list}
use Rattle.std.proofs.Common.{ℕ, List, ap, refl, ◌∙◌}
use Rattle.ld_base.specs.declared.fields.Fields.{Fields}
use Rattle.sample_store.specs.Calls.{as_a_terminal, question}
use Rattle.sample_store.specs.Offers.{Offer, Own, Taken}
use Rattle.relay_core.specs.Decides.{Decides}
use Rattle.relay_core.proofs.Deciding.{DecidesMore, DecidesMore-offered, own_answer-over_all}
use Rattle.relay_core.proofs.decider.Decider.own.Goals as goal
use Rattle.relay_core.proofs.decider.Decider.own.Goals.{After-judge-judged}

pub returns-clause-taken : goal.returns-clause-taken
returns-clause-taken c = λ f me offers decides. c.own-taken.ensures.taken ∙ own_answer-over_all f me c.args.self.now offers c.args.now decides

after : (c : After-judge-judged) (f : Fields) (me : ℕ) (offers : List Offer) → Decides f me c.args.self.now offers
    → DecidesMore f me c.judge-judged.new.self offers (Own c.args.now c.args.v) (option_to_list c.judge-judged.result)
after c f me offers decides =
    let same = c.own-taken.ensures.settings in
    let taken = c.own-taken.ensures.taken ∙ own_answer-over_all f me c.args.self.now offers c.args.now decides in
    let put = c.number_taken.ensures f.spacing c.args.now (Taken f.spacing offers) taken in
    DecidesMore-offered f me c.args.self.now _ c.judge-judged.new.self offers (Own c.args.now c.args.v) (question c.args.now c.number_taken.result)
    (option_to_list c.judge-judged.result) (same.0, same.1) refl (c.own-taken.ensures.stands (as_a_terminal f offers) decides.store)
    (ap (question c.args.now) put) (c.judge-judged.ensures.judged f me) (c.judge-judged.ensures.judges f me) decides

pub returns-clause-judged : goal.returns-clause-judged
returns-clause-judged c = λ f me offers decides. (after c f me offers decides).judged_are

pub returns-clause-decides : goal.returns-clause-decides
returns-clause-decides c = λ f me offers decides. (after c f me offers decides).decides
