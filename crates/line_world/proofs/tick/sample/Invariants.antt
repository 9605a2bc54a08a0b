use Rattle.std.proofs.Common.{◌≡◌, ℕ, suc, ◌+◌, ◌<◌, ◌≤◌, map, slice_index, take}
use Rattle.line_world.specs.Occasions.{at_tick}
use Rattle.line_journal.specs.Stations.{stations}
use Rattle.line_world.specs.Occasions.Occasion.{sampling}
use Rattle.line_world.specs.Tick.{IsNextSample}
use Rattle.line_world.specs.World.{Leads}
use Rattle.line_world.proofs.tick.sample.Given as goal

-- the stations so far took their samples
abbrev pub invariant-loop-station : goal.invariant-loop-station
invariant-loop-station l =
    (l.terminals.setup ≡ l.fn.terminals.setup)
    × (l.fn.terminals.room ≤ l.terminals.room + l.station-index)
    × ((k : ℕ) → k < l.station-index → suc k ≤ l.fn.terminals.setup.settings.stations → IsNextSample l.fn.terminals.setup (suc k) (suc l.now.tick) (slice_index l.samples k))
    × ((k : ℕ) → l.station-index ≤ k → suc k ≤ l.fn.terminals.setup.settings.stations → IsNextSample l.fn.terminals.setup (suc k) l.now.tick (slice_index l.samples k))
    × Leads l.fn.terminals.setup (at_tick l.now.tick (map sampling (take l.station-index (stations l.fn.terminals.setup.settings)))) l.fn.terminals.journal l.terminals.journal
