use Rattle.std.proofs.Common.{refl}
use Rattle.phasor.proofs.Rings.{length-sets_below}
use Rattle.phasor.proofs.ring.Ring.is_full.Goals as goal

pub returns-clause-full : goal.returns-clause-full
returns-clause-full c =
    let ring = c.self.inside in
    rw (← c.self.view_is) (rw (length-sets_below ring.cycle ring.places ring.held ring.next c.self.invariant.2) refl)

pub returns-clause-few : goal.returns-clause-few
returns-clause-few c =
    let ring = c.self.inside in
    rw (← c.self.view_is) (rw (length-sets_below ring.cycle ring.places ring.held ring.next c.self.invariant.2) c.self.invariant.1)
