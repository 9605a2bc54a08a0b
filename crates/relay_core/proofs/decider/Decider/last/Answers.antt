use Rattle.std.proofs.Common.{ap, ◌∙◌, reverse, slice_get}
use Rattle.sample_store.specs.Calls.{Given, as_a_terminal}
use Rattle.sample_store.proofs.JudgedSets.{Given-as_a_terminal}
use Rattle.trip_logic.specs.Cause.{cause}
use Rattle.relay_core.proofs.Deciding.{cause-last}
use Rattle.relay_core.proofs.decider.Decider.last.Goals as goal

pub returns : goal.returns
returns c = λ f me offers some decides.
    let sets = Given f me (as_a_terminal f offers) in
    c.cause.ensures sets decides.trip
    ∙ ap (λ g. cause g sets 0) decides.fields.1
    ∙ cause-last f sets some
    ∙ ap (λ sets. slice_get (reverse sets) 0) (Given-as_a_terminal f me offers)
