use Rattle.std.proofs.Common.{arith, sym}
use Rattle.ld_base.proofs.Accepted.{fault_of_range, AreInRange-from_keys}
use Rattle.ld_base.proofs.settings.Settings.new.Goals as goal

pub returns-in-Some : goal.returns-in-Some
returns-in-Some c = fault_of_range c.args.fields c.in-Some.key (sym c.in-Some.ensures)

pub div_ceil-needed-requires : goal.div_ceil-needed-requires
div_ceil-needed-requires c = omega (arith, AreInRange-from_keys c.args.fields (sym c.in_default.ensures))

pub overflow_mul-most : goal.overflow_mul-most
overflow_mul-most c = omega (arith, AreInRange-from_keys c.args.fields (sym c.in_default.ensures))
