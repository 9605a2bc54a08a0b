-- The region of accepted settings has no fault, so it is never refused.
use Rattle.std.proofs.Common.{arith, w32, FitsSigned}
use Rattle.std.proofs.lemmas.Int.{ints, to_z-of_z}
use Rattle.trip_logic.proofs.Regions.{region_fault-in_range}
use Rattle.trip_logic.proofs.counting.region_of.Goals as goal

pub unreachable-requires : goal.unreachable-requires
unreachable-requires c =
    let f = c.fields-fields.result in
    let p_fits : FitsSigned w32 f.p = omega (arith, ints) in
    let q_fits : FitsSigned w32 f.q = omega (arith, ints) in
    let none = region_fault-in_range f c.fields-fields.ensures.in_range in
    let fault = rw (to_z-of_z w32 f.p p_fits, to_z-of_z w32 f.q q_fits) at c.in_default.ensures in
    cc
