use Rattle.std.proofs.Common.{◌≤◌}
use Rattle.sequence_element.proofs.element.tests.load_restrains_both_sequences.Given as goal

-- the numbers come in order
abbrev pub invariant-loop-number : goal.invariant-loop-number
invariant-loop-number g l = l.element.window.next ≤ l.number
