use Rattle.std.specs.Prelude.{is_some}
use Rattle.std.proofs.Common.{◌∙◌, ap}
use Rattle.pingpong.specs.Exchange.{round_trip}
use Rattle.offset_track.specs.InForce.{chosen, is_candidate}
use Rattle.offset_track.proofs.Choices.{first_least-find}
use Rattle.offset_track.proofs.track.Track.is_aligned.Goals as goal

pub returns-clause-chosen : goal.returns-clause-chosen
returns-clause-chosen c =
    rw (← c.self.view_is, ← c.as_slice.ensures.value)
    (c.is_some.ensures ∙ ap is_some (rw c.get.ensures.count at c.newest_candidate.ensures)
    ∙ first_least-find round_trip (is_candidate c.self.inside.age c.args.now) c.as_slice.result.now)

pub returns-clause-in_force : goal.returns-clause-in_force
returns-clause-in_force c = λ offered stands.
    returns-clause-chosen c ∙ ap (λ es. is_some (chosen (λ e. e) c.args.self.now.age c.args.now es)) stands.kept
