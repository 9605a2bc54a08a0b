-- What a world keeps.
use Rattle.std.specs.Prelude.{◌≡◌, ◌≤◌, ℕ, suc, false, map, slice_index, Option}
use Rattle.ld_base.specs.Script.{Script}
use Rattle.line_world.specs.Passes.{told}
use Rattle.line_world.specs.Tick.{AreLines, IsNextSample}
use Rattle.line_world.specs.Worlds.{IsWorld, World}
use Rattle.line_world.specs.declared.world.World.TheInside.{Inside}

-- a world by what its wires tell
abbrev pub world_of : {W : Type 0} → (W → ℕ) → (W → Option Script) → (W → ℕ → ℕ) → Inside W → World
world_of faults script next_tick w = record {
  setup = w.terminals.setup;
  next = w.next;
  journal = w.terminals.journal;
  wires = map (told faults script) w.cables.items;
  due = map (λ cable. next_tick cable.wire w.next) w.cables.items;
  halted = w.halted;
}

-- one cable for each line, the ticks of the next samples, and a journal to which the moments led that were carried out
pub record IsKept {W : Type 0} (faults : W → ℕ) (script : W → Option Script) (next_tick : W → ℕ → ℕ) (w : Inside W) : Type 0 where
  pub lines : AreLines w.terminals.setup.settings w.cables.items
  pub samples : w.halted ≡ false → (k : ℕ) → suc k ≤ w.terminals.setup.settings.stations → IsNextSample w.terminals.setup (suc k) w.next (slice_index w.samples k)
  pub world : IsWorld (world_of faults script next_tick w)
