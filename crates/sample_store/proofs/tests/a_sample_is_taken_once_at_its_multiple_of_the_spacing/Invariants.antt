use Rattle.std.proofs.Common.{◌≤◌}
use Rattle.sample_store.proofs.tests.a_sample_is_taken_once_at_its_multiple_of_the_spacing.Given as goal

abbrev pub invariant-loop-sample : goal.invariant-loop-sample
invariant-loop-sample g l = l.store.now ≤ l.last
