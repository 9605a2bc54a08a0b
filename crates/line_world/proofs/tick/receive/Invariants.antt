use Rattle.std.proofs.Common.{◌≡◌, ◌+◌, ◌≤◌, take}
use Rattle.std.specs.List.{flat_map}
use Rattle.line_journal.specs.Stations.{ways}
use Rattle.line_world.specs.Passes.{Passes, scene_of}
use Rattle.line_world.specs.Tick.{AreLines}
use Rattle.line_world.proofs.Cabling.{asked_at}
use Rattle.line_world.proofs.tick.receive.Given as goal

-- the lines so far were asked
abbrev pub invariant-loop-cable : goal.invariant-loop-cable
invariant-loop-cable g l =
    (l.terminals.setup ≡ l.fn.terminals.setup)
    × (l.fn.terminals.room ≤ l.terminals.room + l.cable-index)
    × AreLines l.fn.terminals.setup.settings l.cables
    × Passes l.fn.terminals.setup (flat_map (asked_at l.now.tick) (take l.cable-index (ways l.fn.terminals.setup.settings)))
    (scene_of g.W.Wire.faults g.W.Wire.script l.fn.terminals l.fn.cables) (scene_of g.W.Wire.faults g.W.Wire.script l.terminals l.cables)
