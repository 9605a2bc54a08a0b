use Rattle.std.proofs.Common.{◌≤◌}
use Rattle.phasor.proofs.window.tests.around_a_step.Given as goal

-- the numbers come in order
abbrev pub invariant-loop-number : goal.invariant-loop-number
invariant-loop-number g l = l.window.next ≤ l.number
