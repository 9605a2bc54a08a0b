use Rattle.std.proofs.Common.{◌≡◌, arith}
use Rattle.std.proofs.lemmas.Int.{ints}
use Rattle.alpha_plane.proofs.Ranges.{HasSizes-from_no_fault}
use Rattle.alpha_plane.proofs.region.Region.is_at_most_angle.Goals as goal

pub times-sideways-requires-clause-left : goal.times-sideways-requires-clause-left
times-sideways-requires-clause-left c = grind (arith, ints, (HasSizes-from_no_fault _ c.self.invariant).p)

pub times-opposite-requires-clause-left : goal.times-opposite-requires-clause-left
times-opposite-requires-clause-left c = grind (arith, ints, (HasSizes-from_no_fault _ c.self.invariant).q)

pub returns : goal.returns
returns c =
    let r = HasSizes-from_no_fault _ c.self.invariant in
    let p : c.from-2.result ≡ c.self.inside.p = omega (arith, ints, r.p) in
    let q : c.from-4.result ≡ c.self.inside.q = omega (arith, ints, r.q) in
    rw (← c.self.view_is) cc
