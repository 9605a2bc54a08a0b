use Rattle.std.proofs.Common.{◌∙◌}
use Rattle.trip_logic.proofs.Recents.{cause_read}
use Rattle.trip_logic.proofs.trip.Trip.cause.Goals as goal

pub returns : goal.returns
returns c = λ judged stands.
    let held = rw (← c.self.view_is) at stands in
    rw (← c.self.view_is) (c.nth_back.ensures ∙ cause_read c.self.inside.settings judged c.self.inside.recent.items c.args.back held.recent)
