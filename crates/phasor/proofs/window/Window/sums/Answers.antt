-- The sums are those of the kept sets, which are less than a cycle or a full one.
use Rattle.std.proofs.Common.{sym, arith, ap, ◌∙◌, Some, ◌≡◌, ◌≤◌, ◌<◌, length}
use Rattle.std.proofs.lemmas.Bool.{eqb-true, eqb-false}
use Rattle.phasor.proofs.Cycles.{cycle_short}
use Rattle.phasor.proofs.Sizes.{AreWithin-sums_of}
use Rattle.phasor.proofs.Windows.{sums_before-short, sums_before-full}
use Rattle.phasor.proofs.window.Window.sums.Goals as goal

pub returns-then-is_full-clause-size : goal.returns-then-is_full-clause-size
returns-then-is_full-clause-size c =
    let ring = c.self.inside.ring in
    let short = cycle_short ring.cycle c.self.invariant.0 in
    let few : length ring.sets ≤ 20 = omega (arith, c.self.invariant.1) in
    rw c.self.invariant.3 (AreWithin-sums_of ring.cycle ring.sets few c.self.invariant.2)

pub returns-then-is_full-clause-sums : goal.returns-then-is_full-clause-sums
returns-then-is_full-clause-sums c = λ pushed stands.
    let held = rw (← c.self.view_is) at stands in
    let ring = c.self.inside.ring in
    let full : length ring.sets ≡ ring.cycle = eqb-true _ _ (sym c.is_full.ensures.full ∙ c.if-is_full.true) in
    rw (← c.self.view_is) (ap Some c.self.invariant.3 ∙ sym (sums_before-full ring pushed held full))

pub returns-else-is_full-clause-sums : goal.returns-else-is_full-clause-sums
returns-else-is_full-clause-sums c = λ pushed stands.
    let held = rw (← c.self.view_is) at stands in
    let ring = c.self.inside.ring in
    let other = eqb-false (length ring.sets) ring.cycle (sym c.is_full.ensures.full ∙ c.if-is_full.false) in
    let short : length ring.sets < ring.cycle = omega (arith, other, c.self.invariant.1) in
    rw (← c.self.view_is) (sym (sums_before-short ring pushed held short))
