use Rattle.std.proofs.Common.{arith, ◌<◌}
use Rattle.phasor.proofs.Cycles.{cycle_positive}
use Rattle.phasor.proofs.Rings.{Leaves-full, Leaves-room, no_current_from}
use Rattle.phasor.proofs.ring.Ring.leaving.Goals as goal

pub returns-then-self : goal.returns-then-self
returns-then-self c =
    let ring = c.self.inside in
    let some : 0 < ring.cycle = cycle_positive ring.cycle c.self.invariant.0 in
    let leaves = Leaves-full ring.cycle ring.places ring.held ring.next some c.self.invariant.1 c.self.invariant.2 (omega arith) in
    let place = rw (← c.self.view_is) at c.requires.place in
    rw (← c.self.view_is, place) leaves

pub returns-else-self : goal.returns-else-self
returns-else-self c =
    let ring = c.self.inside in
    let some : 0 < ring.cycle = cycle_positive ring.cycle c.self.invariant.0 in
    let none = no_current_from c.default.result c.default.ensures.0 c.default.ensures.1.0 c.default.ensures.1.1 in
    rw (← c.self.view_is, none) (Leaves-room ring.cycle ring.places ring.held ring.next some c.self.invariant.1 c.self.invariant.2 (λ whole. absurd (omega arith)))
