use Rattle.std.proofs.Common.{◌≤◌}
use Rattle.sequence_element.proofs.element.tests.judged.Given as goal

-- the numbers come in order
abbrev pub invariant-loop-number : goal.invariant-loop-number
invariant-loop-number l = l.element.window.next ≤ l.number
