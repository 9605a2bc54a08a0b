use Rattle.std.proofs.Common.{◌≤◌}
use Rattle.trip_logic.proofs.trip.tests.the_cause_of_a_trip_is_kept.Given as goal

-- the numbers come in order
abbrev pub invariant-loop-number : goal.invariant-loop-number
invariant-loop-number g l = l.trip.window.next ≤ l.number
