use Rattle.std.proofs.Common.{arith}
use Rattle.ld_base.proofs.Sizes.{sizes, in_128, unsigned_abs-mul_bits}
use Rattle.ld_base.proofs.wide.Wide.times.Goals as goal

-- `grind` does not find the two sizes by itself, so each answer names the lemma at them.
pub overflow_mul-result : goal.overflow_mul-result
overflow_mul-result g c = grind (arith, sizes, in_128, unsigned_abs-mul_bits c.args.self c.args.other g.row.M g.row.N c.requires.left c.requires.right)

pub returns-clause-value : goal.returns-clause-value
returns-clause-value g c = grind (arith, sizes, in_128, unsigned_abs-mul_bits c.args.self c.args.other g.row.M g.row.N c.requires.left c.requires.right)
