use Rattle.std.specs.List.{All}
use Rattle.std.proofs.Common.{◌≤◌, map, take}
use Rattle.line_world.specs.Tick.{TellsNext}
use Rattle.line_world.specs.Worlds.{IsLeast}
use Rattle.line_world.proofs.world.with_wires.Given as goal

abbrev pub invariant-loop-cable : goal.invariant-loop-cable
invariant-loop-cable g l =
    IsLeast l.due (map (λ cable. g.W.Wire.next_tick cable.wire l.next) (take l.cable-index l.cables)) l.least × (l.next ≤ l.due → l.next ≤ l.least)
    × All (TellsNext g.W.Wire.script g.W.Wire.next_tick l.next) (take l.cable-index l.cables)
