-- The stamps of clocks.
use Rattle.std.specs.Prelude.{ℕ}

-- the last stamp that a clock shows, in ticks
abbrev pub last_stamp : ℕ
last_stamp = 2000000000000

-- the last true tick at which a wire or a clock is asked
abbrev pub last_asked : ℕ
last_asked = 60000000
