use Rattle.std.proofs.Common.{take}
use Rattle.line_world.specs.Worlds.{IsLeast}
use Rattle.line_world.proofs.world.with_samples.Given as goal

abbrev pub invariant-loop-sample : goal.invariant-loop-sample
invariant-loop-sample l = IsLeast l.due (take l.sample-index l.samples) l.least
