use Rattle.std.proofs.Common.{arith}
use Rattle.std.proofs.lemmas.Int.{ints}
use Rattle.resample.proofs.OwnNumbers.{weight-below, weight-short}
use Rattle.resample.proofs.between.weight.Goals as goal

pub overflow_cast-result-3 : goal.overflow_cast-result-3
overflow_cast-result-3 c =
    let short = weight-short c.args.spacing c.args.first c.args.estimate2 c.args.n c.half_ticks.result c.half_ticks-2.result
    (omega arith) c.requires.between c.half_ticks.ensures.instant c.half_ticks-2.ensures.instant in
    omega (arith, ints, short.since, short.until, short.short)

pub returns-clause-weight : goal.returns-clause-weight
returns-clause-weight c =
    let short = weight-short c.args.spacing c.args.first c.args.estimate2 c.args.n c.half_ticks.result c.half_ticks-2.result
    (omega arith) c.requires.between c.half_ticks.ensures.instant c.half_ticks-2.ensures.instant in
    omega (arith, ints, short.since, short.until, short.short)

pub returns-clause-size : goal.returns-clause-size
returns-clause-size c = rw (returns-clause-weight c) (weight-below c.args.spacing c.args.first c.args.estimate2 c.args.n c.requires.between)
