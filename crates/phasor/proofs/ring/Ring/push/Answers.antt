use Rattle.std.proofs.Common.{◌≡◌, ◌<◌, length, rules}
use Rattle.phasor.proofs.Cycles.{cycle_positive, cycle_short}
use Rattle.phasor.proofs.Rings.{IsPushed-set}
use Rattle.phasor.proofs.ring.Ring.push.Goals as goal

pub returns : goal.returns
returns c =
    let ring = c.self.inside in
    let some : 0 < ring.cycle = cycle_positive ring.cycle c.self.invariant.0 in
    let follows = rw (← c.self.view_is) at c.requires in
    let leaves = rw (← c.self.view_is) at c.leaving-leaving.ensures in
    let all : length ring.places ≡ 20 = search rules in
    rw (← c.self.view_is, c.from-2.ensures, c.from.ensures, c.min-self-inside.ensures, follows)
    (IsPushed-set ring.cycle ring.places ring.held ring.next some c.self.invariant.1 c.self.invariant.2 c.args.values.now
    c.leaving-leaving.result all (cycle_short ring.cycle c.self.invariant.0) leaves)
