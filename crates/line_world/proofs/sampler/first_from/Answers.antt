use Rattle.std.proofs.Common.{arith}
use Rattle.line_world.proofs.Sampling.{comes_before}
use Rattle.line_world.proofs.sampler.first_from.Goals as goal

pub loop-late-init : goal.loop-late-init
loop-late-init c =
    (comes_before c.args.clock.now c.args.early c.args.late (omega arith), omega arith, c.requires.early, c.requires.late)

pub returns-clause-least : goal.returns-clause-least
returns-clause-least c =
    λ t h. omega (arith, comes_before c.args.clock.now c.loop-late.early t (omega (arith, c.loop-late.invariant.2)))
