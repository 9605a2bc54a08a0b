use Rattle.std.proofs.Common.{◌≡◌, length, map, take}
use Rattle.line_journal.specs.Stations.{ways}
use Rattle.line_world.specs.Tick.{way_of}
use Rattle.line_world.proofs.world.cables_of.Given as goal

abbrev pub invariant-loop-wire : goal.invariant-loop-wire
invariant-loop-wire g l =
    (map way_of l.cables.items ≡ take (length l.yielded) (ways l.s)) × (map (λ cable. cable.wire) l.cables.items ≡ l.yielded)
