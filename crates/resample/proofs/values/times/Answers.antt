use Rattle.std.specs.Prelude.{pos, ◌*ℤ◌}
use Rattle.std.proofs.Common.{◌≡◌, w32, to_z, of_z, arith, rules}
use Rattle.std.proofs.lemmas.Int.{to_z-of_z, to_z_pos, fits_signed_from_abs}
use Rattle.resample.proofs.Weighing.{product-small}
use Rattle.resample.proofs.values.times.Goals as goal

pub overflow_mul-result : goal.overflow_mul-result
overflow_mul-result c =
    let value : to_z w32 (of_z w32 c.from.result) ≡ c.args.value = search rules in
    let weight = to_z_pos w32 c.args.weight (omega arith) in
    let small = product-small c.args.value c.args.weight c.ranges.value c.requires in
    rw (value, weight) (fits_signed_from_abs w32 (c.args.value *ℤ pos c.args.weight) (omega arith))

pub returns-clause-product : goal.returns-clause-product
returns-clause-product c =
    let value : to_z w32 (of_z w32 c.from.result) ≡ c.args.value = search rules in
    let weight = to_z_pos w32 c.args.weight (omega arith) in
    let small = product-small c.args.value c.args.weight c.ranges.value c.requires in
    rw (value, weight) (to_z-of_z w32 (c.args.value *ℤ pos c.args.weight) (fits_signed_from_abs w32 (c.args.value *ℤ pos c.args.weight) (omega arith)))

pub returns-clause-size : goal.returns-clause-size
returns-clause-size c = rw (returns-clause-product c) (product-small c.args.value c.args.weight c.ranges.value c.requires)
