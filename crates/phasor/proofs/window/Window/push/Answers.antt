-- The ring's clause says which sets stay, and the sums change with them.
use Rattle.std.specs.Prelude.{◌≤◌, length}
use Rattle.std.proofs.Common.{option_map, ap, arith}
use Rattle.phasor.specs.Sum.{sums_of}
use Rattle.phasor.proofs.Cycles.{cycle_positive, cycle_short}
use Rattle.phasor.proofs.Lookups.{sets_before-push}
use Rattle.phasor.proofs.Pushes.{length-pushed, All-pushed, sums_next}
use Rattle.phasor.proofs.Sizes.{AreWithin-sums_of}
use Rattle.phasor.proofs.Windows.{StandsFor-push}
use Rattle.phasor.proofs.window.Window.push.Goals as goal

pub changed-self-inside-requires-clause-size : goal.changed-self-inside-requires-clause-size
changed-self-inside-requires-clause-size g c =
    let ring = c.self.inside.ring in
    let short = cycle_short ring.cycle c.self.invariant.0 in
    let few : length ring.sets ≤ 20 = omega (arith, c.self.invariant.1) in
    rw c.self.invariant.3 (AreWithin-sums_of ring.cycle ring.sets few c.self.invariant.2)

pub invariant_of-self : goal.invariant_of-self
invariant_of-self g c =
    let ring = c.self.inside.ring in
    let new = c.push-oldest.new.self in
    let few = c.self.invariant.1 in
    let some = cycle_positive ring.cycle c.self.invariant.0 in
    let follows = rw (← c.self.view_is) at c.go_on_at.ensures.next in
    let pushed = c.push-oldest.ensures in (
      rw pushed.cycle c.self.invariant.0,
      rw pushed.cycle (length-pushed ring new _ _ pushed few some),
      All-pushed ring new _ _ pushed few some c.self.invariant.2 c.changed-self-inside.ensures.in_range,
      sums_next ring new _ _ _ _ _ _ pushed few some follows c.self.invariant.3 c.cycle.ensures c.factor-factor.ensures.factor c.changed-self-inside.ensures.sums,
    )

pub returns-clause-stands : goal.returns-clause-stands
returns-clause-stands g c = λ pushed stands.
    let ring = c.self.inside.ring in
    let some = cycle_positive ring.cycle c.self.invariant.0 in
    let follows = rw (← c.self.view_is) at c.go_on_at.ensures.next in
    let held = rw (← c.self.view_is) at (c.go_on_at.ensures.stands pushed stands) in
    StandsFor-push ring c.push-oldest.new.self pushed _ _ c.push-oldest.ensures c.self.invariant.1 some follows held

pub returns-clause-earlier : goal.returns-clause-earlier
returns-clause-earlier g c = λ pushed stop below. ap (option_map (sums_of c.args.self.now.cycle)) (sets_before-push pushed _ c.args.self.now.cycle stop below)
