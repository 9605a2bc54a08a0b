use Rattle.std.specs.Option.{option_to_list}
use Rattle.std.proofs.Common.{ℕ, List, [], ◌∷◌, ap, refl, ◌∙◌}
use Rattle.ld_base.specs.declared.fields.Fields.{Fields}
use Rattle.pingpong.specs.Exchange.{estimate2}
use Rattle.sample_store.specs.Aligned.{Aligned}
use Rattle.sample_store.specs.Calls.{as_a_terminal, question}
use Rattle.sample_store.specs.Offers.{Offer, Placed, Value}
use Rattle.relay_core.specs.Decides.{Decides}
use Rattle.relay_core.proofs.Deciding.{DecidesMore, DecidesMore-offered, place_answer-over_all}
use Rattle.relay_core.proofs.decider.Decider.place.Goals as goal
use Rattle.relay_core.proofs.decider.Decider.place.Goals.{After-judge-judged}

pub returns-clause-placed : goal.returns-clause-placed
returns-clause-placed c = λ f me offers decides.
    ap (λ placed. placed ∷ [])
    (c.place-placed.ensures.over_all_calls (as_a_terminal f offers) decides.store
    ∙ place_answer-over_all f me c.args.self.now offers c.args.peer c.args.fresh.at c.args.number (estimate2 c.args.fresh.exchange) decides)

after : (c : After-judge-judged) (f : Fields) (me : ℕ) (offers : List Offer) → Decides f me c.args.self.now offers
    → DecidesMore f me c.judge-judged.new.self offers (Value c.args.fresh c.args.peer c.args.number c.args.v) (option_to_list c.judge-judged.result)
after c f me offers decides =
    let same = c.place-placed.ensures.settings in
    let placed = c.place-placed.ensures.over_all_calls (as_a_terminal f offers) decides.store
    ∙ place_answer-over_all f me c.args.self.now offers c.args.peer c.args.fresh.at c.args.number (estimate2 c.args.fresh.exchange) decides in
    let put = c.number_stored.ensures f.spacing f.limit c.args.fresh.at (Placed f.spacing f.limit c.args.peer offers)
    (Aligned f.spacing c.args.number (estimate2 c.args.fresh.exchange)) placed in
    DecidesMore-offered f me c.args.self.now _ c.judge-judged.new.self offers (Value c.args.fresh c.args.peer c.args.number c.args.v)
    (question c.now-now.result c.number_stored.result) (option_to_list c.judge-judged.result) (same.0, same.1) refl
    (c.place-placed.ensures.stands (as_a_terminal f offers) decides.store)
    (ap (λ now. question now c.number_stored.result) c.now-now.ensures ∙ ap (question c.args.fresh.at) put)
    (c.judge-judged.ensures.judged f me) (c.judge-judged.ensures.judges f me) decides

pub returns-clause-judged : goal.returns-clause-judged
returns-clause-judged c = λ f me offers decides. (after c f me offers decides).judged_are

pub returns-clause-decides : goal.returns-clause-decides
returns-clause-decides c = λ f me offers decides. (after c f me offers decides).decides
