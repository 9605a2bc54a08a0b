use Rattle.std.proofs.Common.{◌≡◌, ◌+◌, ◌*◌, ◌≤◌, take}
use Rattle.std.specs.List.{flat_map}
use Rattle.line_world.specs.Occasions.{at_tick, slot_of}
use Rattle.line_journal.specs.Stations.{stations}
use Rattle.line_world.specs.Passes.{Passes, scene_of}
use Rattle.line_world.specs.Tick.{AreLines}
use Rattle.line_world.proofs.tick.speak.Given as goal

-- the stations so far had their slots
abbrev pub invariant-loop-station : goal.invariant-loop-station
invariant-loop-station g l =
    (l.terminals.setup ≡ l.fn.terminals.setup)
    × (l.fn.terminals.room ≤ l.terminals.room + 3 * l.station-index)
    × AreLines l.fn.terminals.setup.settings l.cables
    × Passes l.fn.terminals.setup (at_tick l.now.tick (flat_map (slot_of l.fn.terminals.setup.settings) (take l.station-index (stations l.fn.terminals.setup.settings))))
    (scene_of g.W.Wire.faults g.W.Wire.script l.fn.terminals l.fn.cables) (scene_of g.W.Wire.faults g.W.Wire.script l.terminals l.cables)
