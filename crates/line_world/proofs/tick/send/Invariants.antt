use Rattle.std.proofs.Common.{◌≡◌, ℕ, ◌+◌, ◌≤◌, length, take}
use Rattle.std.specs.List.{flat_map}
use Rattle.ld_base.specs.declared.fields.Fields.{Fields}
use Rattle.line_journal.specs.Stations.{ways}
use Rattle.line_world.specs.Passes.{Passes, scene_of}
use Rattle.line_world.specs.Run.{newest_frame}
use Rattle.line_world.specs.Tick.{AreLines}
use Rattle.line_world.proofs.Cabling.{sent_at}
use Rattle.line_world.proofs.tick.send.Given as goal

-- the frames on the lines so far went out
abbrev pub invariant-loop-cable : goal.invariant-loop-cable
invariant-loop-cable g l =
    (l.terminals.setup ≡ l.fn.terminals.setup)
    × (l.fn.terminals.room ≤ l.terminals.room + length (flat_map (sent_at l.now.tick l.sender) (take l.cable-index (ways l.fn.terminals.setup.settings))))
    × ((f : Fields) (from to : ℕ) → newest_frame f from to l.terminals.journal ≡ newest_frame f from to l.fn.terminals.journal)
    × AreLines l.fn.terminals.setup.settings l.cables
    × Passes l.fn.terminals.setup (flat_map (sent_at l.now.tick l.sender) (take l.cable-index (ways l.fn.terminals.setup.settings)))
    (scene_of g.W.Wire.faults g.W.Wire.script l.fn.terminals l.fn.cables) (scene_of g.W.Wire.faults g.W.Wire.script l.terminals l.cables)
