use Rattle.std.proofs.Common.{refl}
use Rattle.phasor.proofs.Values.{changed_kept}
use Rattle.phasor.proofs.changes.changed_sum.Goals as goal

pub returns-clause-sum : goal.returns-clause-sum
returns-clause-sum g c =
    let size = rw (← c.sum.view_is) at c.requires.size in
    let small = rw (← c.factor.view_is) at c.requires.factor in
    let re = changed_kept c.sum.inside.re c.args.newest c.args.oldest c.factor.inside.re _ _ _ c.from.ensures c.from-2.ensures
    c.product.ensures.product c.ranges.newest c.ranges.oldest small.0 c.product.ensures.size size.0 in
    let im = changed_kept c.sum.inside.im c.args.newest c.args.oldest c.factor.inside.im _ _ _ c.from.ensures c.from-2.ensures
    c.product-2.ensures.product c.ranges.newest c.ranges.oldest small.1 c.product-2.ensures.size size.1 in
    rw (← c.sum.view_is, ← c.factor.view_is, re, im) refl
