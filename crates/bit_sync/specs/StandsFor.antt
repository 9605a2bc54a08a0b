-- When a receiver stands for a line: all bits that it was fed.
use Rattle.std.specs.Prelude.{◌≡◌, ℕ, ◌+◌, ◌-◌, ◌%◌, ◌^◌, ◌≤◌, List, length, drop, Option, Some, None}
use Rattle.c3794_frame.specs.Numbers.{AreBits, number}
use Rattle.bit_sync.specs.Frames.{Place, Rules, frames}
use Rattle.bit_sync.specs.Frames.Place.{hunts, locked}
use Rattle.bit_sync.specs.declared.lock.Lock.{Lock}
use Rattle.bit_sync.specs.declared.told.SyncState.{SyncState}
use Rattle.bit_sync.specs.declared.told.SyncState.TheVariants.{Hunting, Locked}

-- what a receiver keeps: its rules, its lock, and a register of 272 bits
pub record Kept : Type 0 where
  pub rules : Rules
  pub lock : Option Lock
  pub register : ℕ

-- the lock and the register, by where the reading of the line stands: hunting, the register has the last 272 of the bits
-- since hunting began; locked, it has the bits of the present frame
abbrev pub Keeps : Option Lock → ℕ → List ℕ → Place → Type 0
Keeps None register line (hunts h) = (h ≤ length line) × (register ≡ number (drop h line) % 2 ^ 272)
Keeps (Some lock) register line (locked at odd missed) =
    (lock.odd ≡ odd) × (lock.missed ≡ missed) × (at + lock.held ≡ length line)
    × (register % 2 ^ lock.held ≡ number (drop at line) % 2 ^ lock.held)
Keeps None register line (locked at odd missed) = ⊥
Keeps (Some lock) register line (hunts h) = ⊥

-- a receiver stands for a line
pub record StandsFor (kept : Kept) (line : List ℕ) : Type 0 where
  pub bits : AreBits line
  pub keeps : Keeps kept.lock kept.register line (frames kept.rules line).place

-- the state after a line, by where its reading stands
abbrev pub state_of : List ℕ → Place → SyncState
state_of line (hunts h) = Hunting
state_of line (locked at odd missed) = Locked missed (length line - at)
