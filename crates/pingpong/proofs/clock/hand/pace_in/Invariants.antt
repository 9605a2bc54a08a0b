use Rattle.std.proofs.Common.{◌-◌, length}
use Rattle.pingpong.specs.Hand.{IsPace}
use Rattle.pingpong.proofs.clock.hand.pace_in.Given as goal

abbrev pub invariant-loop-passed : goal.invariant-loop-passed
invariant-loop-passed l = IsPace l.rates l.time l.passed l.gain

abbrev pub decreases-loop-passed : goal.decreases-loop-passed
decreases-loop-passed l = length l.rates - l.passed
