use Rattle.std.proofs.Common.{◌≡◌, FitsSigned, w16, w32, ◌∙◌, arith, rules}
use Rattle.std.proofs.lemmas.Int.{ints, to_z-of_z}
use Rattle.resample.specs.Values.{mixed_value}
use Rattle.resample.proofs.Weighing.{fits-between, mixed_value-between, mixed_value-read}
use Rattle.resample.proofs.values.mixed_value.Goals as goal

is_mixed : (c : goal.After-div_euclid) → c.div_euclid.result ≡ mixed_value c.args.spacing c.args.weight c.args.x c.args.y
is_mixed c =
    let x = to_z-of_z w16 c.args.x c.ranges.x in
    let y = to_z-of_z w16 c.args.y c.ranges.y in
    let fits : FitsSigned w32 c.weighed-sum.result = search rules in
    mixed_value-read c.args.spacing c.args.weight c.args.x c.args.y _ _ c.div_euclid.result c.div_euclid.ensures
    (to_z-of_z w32 c.weighed-sum.result fits ∙ rw (x, y) at c.weighed-sum.ensures) (omega (arith, ints))

fits : (c : goal.After-div_euclid) → FitsSigned w16 c.div_euclid.result
fits c =
    fits-between c.args.x c.args.y c.div_euclid.result c.ranges.x c.ranges.y
    (rw (is_mixed c) (mixed_value-between c.args.spacing c.args.weight c.args.x c.args.y (omega arith) (omega arith)))

pub overflow_cast-result : goal.overflow_cast-result
overflow_cast-result c =
    let long : FitsSigned w32 c.div_euclid.result = search rules in
    rw (to_z-of_z w32 c.div_euclid.result long) (fits c)

pub returns : goal.returns
returns c =
    let long : FitsSigned w32 c.div_euclid.result = search rules in
    rw (to_z-of_z w32 c.div_euclid.result long, to_z-of_z w16 c.div_euclid.result (fits c)) (is_mixed c)
