-- Clocks as true time sees them. True time is a whole number of ticks, a phase counts millionths of a tick. (This project's own.)
use Rattle.std.specs.Prelude.{ℕ, ◌+◌, ◌-◌, ◌*◌, ◌/◌, ◌≤◌, ◌⊎◌, ℤ, pos, ◌-ℤ◌}

-- a clock read at a true time
pub record Reading : Type 0 where
  pub time : ℕ
  pub phase : ℕ

-- the stamp that the clock shows there, in ticks
abbrev pub stamp : Reading → ℕ
stamp reading = reading.phase / 1000000

-- the true offset of the peer's clock for the own one, in millionths of a tick, where both are read at one time
abbrev pub offset : Reading → Reading → ℤ
offset own peer = pos peer.phase -ℤ pos own.phase

-- two readings of one clock, which gains a million millionths in a tick and at most `drift` more or less
pub record WithinDrift (drift : ℕ) (earlier later : Reading) : Type 0 where
  pub order : earlier.time ≤ later.time
  pub most : later.phase ≤ earlier.phase + (1000000 + drift) * (later.time - earlier.time)
  pub least : earlier.phase + 1000000 * (later.time - earlier.time) ≤ later.phase + drift * (later.time - earlier.time)

-- two readings of one clock, in either order
abbrev pub SameClock : ℕ → Reading → Reading → Type 0
SameClock drift a b = WithinDrift drift a b ⊎ WithinDrift drift b a
