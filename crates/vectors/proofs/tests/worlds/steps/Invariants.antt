use Rattle.std.proofs.Common.{◌≡◌}
use Rattle.vectors.proofs.tests.worlds.steps.Given as goal

abbrev pub invariant-loop : goal.invariant-loop
invariant-loop g l = l.world.setup ≡ l.initial.world.setup
