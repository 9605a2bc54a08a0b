use Rattle.std.proofs.Common.{◌∙◌, sym, true, false}
use Rattle.alpha_plane.proofs.Outsides.{each_outside_judged, each_outside_two}
use Rattle.alpha_plane.proofs.region.Region.each_outside.Goals as goal

pub returns-then-currents-eq2 : goal.returns-then-currents-eq2
returns-then-currents-eq2 c =
    each_outside_two c.args.self.now c.args.currents.now c.index-currents-0.result c.index-currents-1.result c.contains.result
    c.if-currents-eq2.true c.index-currents-0.is c.index-currents-1.is c.contains.ensures

pub returns-then-contains : goal.returns-then-contains
returns-then-contains c =
    let contains = sym c.if-contains.true ∙ c.contains-in-loop-current.ensures in
    sym (sym c.loop-current.invariant
    ∙ each_outside_judged _ _ _ _ _ _ true c.loop-current-test.true c.current-item.is c.requires.total c.minus.ensures contains)

pub loop-current-preserved : goal.loop-current-preserved
loop-current-preserved c =
    let outside = sym c.if-contains.false ∙ c.contains-in-loop-current.ensures in
    sym (each_outside_judged _ _ _ _ _ _ false c.loop-current-test.true c.current-item.is c.requires.total c.minus.ensures outside) ∙ c.loop-current.invariant
