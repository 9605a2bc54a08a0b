use Rattle.std.proofs.Common.{◌<◌, ◌≤◌, ◌-◌}
use Rattle.pingpong.specs.Clock.{phase as clock_phase}
use Rattle.line_world.proofs.sampler.first_from.Given as goal

abbrev pub invariant-loop-late : goal.invariant-loop-late
invariant-loop-late l = (l.early < l.late) × (l.late ≤ l.fn.late) × (clock_phase l.clock l.early < l.phase) × (l.phase ≤ clock_phase l.clock l.late)

abbrev pub decreases-loop-late : goal.decreases-loop-late
decreases-loop-late l = l.late - l.early
