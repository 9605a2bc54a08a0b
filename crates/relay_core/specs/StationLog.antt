-- StationLog: the calls that a station's terminal was handed, by the journal. (This project's own.)
use Rattle.std.specs.Prelude.{ℕ, ◌==◌, if◌then◌else◌, List, [], ◌∷◌}
use Rattle.std.specs.List.{flat_map}
use Rattle.pingpong.specs.Journal.{read_at}
use Rattle.pingpong.specs.Reading.{stamp}
use Rattle.pingpong.specs.declared.journal.Entry.{Entry}
use Rattle.pingpong.specs.declared.journal.What.{What}
use Rattle.pingpong.specs.declared.journal.What.TheVariants.{Came, SendFailed, Slot, TakeFailed, Took}
use Rattle.relay_core.specs.declared.call.Call.{Call}
use Rattle.relay_core.specs.declared.call.Call.TheVariants as made

-- the stamp of a station's clock at an entry
abbrev pub stamp_at : ℕ → Entry → ℕ
stamp_at station entry = stamp (read_at station entry)

-- what happened, as the call that station `me` was handed at a stamp; none where it happened to another station
abbrev pub calls_of : ℕ → ℕ → What → List Call
calls_of me at (Took station values) = if station == me then made.Sample at values ∷ [] else []
calls_of me at (Slot station first second) = if station == me then made.Slot at ∷ [] else []
calls_of me at (Came station peer bits) = if station == me then made.Bits at peer bits ∷ [] else []
calls_of me at (SendFailed station peer) = if station == me then made.Fault at peer ∷ [] else []
calls_of me at (TakeFailed station peer) = if station == me then made.Fault at peer ∷ [] else []

-- the call of an entry
abbrev pub calls_by : ℕ → Entry → List Call
calls_by me entry = calls_of me (stamp_at me entry) entry.what

-- StationLog: the log of station `me` in a journal
abbrev pub StationLog : ℕ → List Entry → List Call
StationLog me journal = flat_map (calls_by me) journal
