use Rattle.std.proofs.Common.{◌≡◌, ◌-◌}
use Rattle.line_world.specs.Worlds.{FollowsScript, Grows}
use Rattle.bench_cmd.proofs.reports.run_to_end.Given as goal

-- the world is still one of the scenario, follows its script where it did, and has grown
abbrev pub invariant-running : goal.invariant-running
invariant-running g l =
    (l.world.setup ≡ l.fn.world.setup) × (FollowsScript l.fn.world → FollowsScript l.world) × Grows l.fn.world l.world

-- the ticks that are left
abbrev pub decreases-running : goal.decreases-running
decreases-running g l = l.world.setup.end - l.world.next
