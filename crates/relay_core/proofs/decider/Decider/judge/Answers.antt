use Rattle.std.proofs.Common.{[], ◌∷◌, refl, ◌∙◌, append-nil}
use Rattle.sample_store.specs.Calls.{Asked, Given}
use Rattle.relay_core.proofs.Deciding.{Judges-more}
use Rattle.relay_core.proofs.decider.Decider.judge.Goals as goal

pub returns-in_err-set-clause-judges : goal.returns-in_err-set-clause-judges
returns-in_err-set-clause-judges c = λ f me calls judges.
    let n = c.in_ok-put.field-0 in
    let given = rw (judges.fields.0, judges.station, c.in_err-set.was) at (c.complete.ensures.given calls judges.store) in
    let same = c.complete.ensures.settings in
    rw c.in_ok-put.was
    (Judges-more f me c.args.self.now _ calls (Asked c.args.now n ∷ []) (Given f me calls) (same.0, same.1) refl
    (c.complete.ensures.stands calls judges.store) (given ∙ append-nil (Given f me calls)) judges.trip judges)
