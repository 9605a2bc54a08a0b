use Rattle.std.proofs.Common.{arith}
use Rattle.line_world.proofs.Leasts.{next_more}
use Rattle.line_world.proofs.world.with_samples.Goals as goal

pub loop-sample-preserved : goal.loop-sample-preserved
loop-sample-preserved c =
    next_more c.args.due c.loop-sample.least c.min-least.result c.args.samples.now c.loop-sample.sample-index (omega arith) c.loop-sample.invariant (omega (arith, c.min-least.ensures))
