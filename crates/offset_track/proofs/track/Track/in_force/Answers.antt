use Rattle.std.proofs.Common.{◌∙◌, sym}
use Rattle.offset_track.proofs.Choices.{chosen-candidate}
use Rattle.offset_track.proofs.track.Track.in_force.Goals as goal

pub invariant_of-result : goal.invariant_of-result
invariant_of-result c = chosen-candidate c.self.inside.age c.args.now c.as_slice.result.now c.in_ok-exchange.exchange (sym (rw c.get.ensures.count at c.chosen.ensures) ∙ c.in_ok-exchange.was)
