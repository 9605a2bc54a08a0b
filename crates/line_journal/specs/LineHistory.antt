-- The history of a directed line.
use Rattle.std.specs.Prelude.{ℕ, ◌<◌, Bool, ◌&&◌, ◌==◌, List, AllPairs, Option}
use Rattle.pingpong.specs.Exchange.{Stamps}
use Rattle.line_journal.specs.declared.crossing.Arrival.{Arrival}
use Rattle.line_journal.specs.declared.crossing.Beginning.{Beginning}
use Rattle.line_journal.specs.declared.crossing.Crossing.{Crossing}

-- what is kept of a directed line: the messages that began on it, when its receiver accepted the last one, and the last eight exchanges
-- that its receiver kept, the newest first; and for how many messages there is room
pub record LineHistory : Type 0 where
  pub from : ℕ
  pub to : ℕ
  pub begun : List Beginning
  pub last : Option Arrival
  pub newest_first : List Crossing
  pub room : ℕ

-- whether two exchanges have the same stamps
abbrev pub is_same_exchange : Stamps → Stamps → Bool
is_same_exchange one other = (one.a1 == other.a1) && (one.b2 == other.b2) && (one.b3 == other.b3) && (one.a4 == other.a4)

-- the numbers of the messages that began rise
abbrev pub AreRising : List Beginning → Type 0
AreRising begun = AllPairs (λ earlier later. earlier.message.number < later.message.number) begun
