use Rattle.std.proofs.Common.{◌≡◌, unsigned_abs, sym, arith}
use Rattle.std.proofs.lemmas.Int.{ints}
use Rattle.alpha_plane.proofs.Pickups.{low_pickup}
use Rattle.alpha_plane.proofs.region.passes.Goals as goal

pub returns-then-unsigned_abs-limit : goal.returns-then-unsigned_abs-limit
returns-then-unsigned_abs-limit c =
    let re : c.unsigned_abs.result ≡ unsigned_abs c.total.inside.re = omega (arith, ints, c.total.invariant.0, c.unsigned_abs.ensures.value) in
    let im : c.unsigned_abs-2.result ≡ unsigned_abs c.total.inside.im = omega (arith, ints, c.total.invariant.1, c.unsigned_abs-2.ensures.value) in
    let low = rw (re, im) at c.if-unsigned_abs-limit.true in
    rw (← c.total.view_is) (sym (low_pickup (unsigned_abs c.total.inside.re) (unsigned_abs c.total.inside.im) c.args.limit low))
