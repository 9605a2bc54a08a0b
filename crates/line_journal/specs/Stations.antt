-- The stations of a line, the directed lines between them, and the stations that an entry of a journal names. (This project's own.)
use Rattle.std.specs.Prelude.{◌≢◌, ℕ, nat_le, List, [], ◌∷◌, map, filter}
use Rattle.std.specs.List.{flat_map}
use Rattle.ld_base.specs.declared.fields.Fields.{Fields}
use Rattle.pingpong.specs.declared.journal.What.{What}
use Rattle.pingpong.specs.declared.journal.What.TheVariants.{Came, SendFailed, Slot, TakeFailed, Took}
use Rattle.relay_core.specs.Log.{peers}
use Rattle.waveform_reader.specs.Sound.{IsStation}

-- the stations of a line
abbrev pub stations : Fields → List ℕ
stations f = filter (λ station. nat_le station f.stations) (1 ∷ 2 ∷ 3 ∷ [])

-- a directed line from one station to another
pub record Way : Type 0 where
  pub from : ℕ
  pub to : ℕ

-- the one from a sender to a receiver
abbrev pub way_between : ℕ × ℕ → Way
way_between line = record { from = line.0; to = line.1 }

-- the directed lines, by receiver and then by sender
abbrev pub ways : Fields → List Way
ways f = flat_map (λ receiver. map (λ sender. record { from = sender; to = receiver }) (peers f receiver)) (stations f)

-- two stations of so many, one and another
pub record ArePair (stations one other : ℕ) : Type 0 where
  pub one_there : IsStation stations one
  pub other_there : IsStation stations other
  pub differ : one ≢ other

-- what happened names stations of so many, and none as its own peer
abbrev pub Names : ℕ → What → Type 0
Names stations (Took station values) = IsStation stations station
Names stations (Slot station first second) = IsStation stations station
Names stations (Came station peer bits) = ArePair stations station peer
Names stations (SendFailed station peer) = ArePair stations station peer
Names stations (TakeFailed station peer) = ArePair stations station peer
