use Rattle.std.proofs.Common.{◌≤◌}
use Rattle.trip_logic.proofs.trip.tests.judged.Given as goal

-- the numbers come in order
abbrev pub invariant-loop-number : goal.invariant-loop-number
invariant-loop-number l = l.trip.window.next ≤ l.number
