use Rattle.std.proofs.Common.{◌≤◌, ◌^◌, arith}
use Rattle.alpha_plane.proofs.Radii.{greater_decides}
use Rattle.alpha_plane.proofs.Ranges.{HasSizes-from_no_fault, scaled_norm}
use Rattle.alpha_plane.proofs.region.Region.is_within_radius.Goals as goal

pub overflow_mul-result : goal.overflow_mul-result
overflow_mul-result c =
    let r = HasSizes-from_no_fault _ c.self.invariant in
    let small : c.max.result ≤ 2 ^ 97 = omega arith in
    let side : c.self.inside.rd ≤ 2 ^ 14 = omega (arith, r.ratio, r.rn) in
    rw (c.from.ensures, c.from-rd.ensures) (record { fits = scaled_norm c.self.inside.rd c.max.result side small })

pub overflow_mul-result-2 : goal.overflow_mul-result-2
overflow_mul-result-2 c =
    let r = HasSizes-from_no_fault _ c.self.invariant in
    let small : c.min.result ≤ 2 ^ 97 = omega arith in
    rw (c.from-2.ensures, c.from-rn.ensures) (record { fits = scaled_norm c.self.inside.rn c.min.result r.rn small })

pub returns : goal.returns
returns c =
    let r = HasSizes-from_no_fault _ c.self.invariant in
    rw (← c.self.view_is, c.from.ensures, c.from-rd.ensures, c.max.ensures, c.from-2.ensures, c.from-rn.ensures, c.min.ensures)
    (greater_decides c.self.inside.rd c.self.inside.rn c.args.local c.args.remote r.ratio)
