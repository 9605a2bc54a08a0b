-- Echoes: each is that of a message which really came. (This project's own.)
use Rattle.std.specs.Prelude.{◌≡◌, ℕ, ◌<◌, List, Some, take}
use Rattle.ld_base.specs.Message.{Contents}
use Rattle.ld_base.specs.declared.fields.Fields.{Fields}
use Rattle.ld_base.specs.declared.message.Echo.{Echo}
use Rattle.pingpong.specs.declared.journal.Entry.{Entry}
use Rattle.relay_core.specs.Accepted.{Accepted, last_of}
use Rattle.relay_core.specs.declared.receipt.Receipt.{Receipt}
use Rattle.line_journal.specs.Stations.{ArePair}
use Rattle.relay_core.specs.StationLog.{StationLog, stamp_at}
use Rattle.true_time.specs.Places.{Began, WasAccepted}

-- an echo in a message that began at a place names a real receipt: at an earlier entry the sender had accepted, from the receiver, a
-- message with the echoed send stamp, at the echoed stamp of its own clock, and none since
pub record IsRealEcho (f : Fields) (from to : ℕ) (journal : List Entry) (place : ℕ) (echo : Echo) : Type 0 where
  pub came_at : ℕ
  pub came : Entry
  pub receipt : Receipt
  pub earlier : came_at < place
  pub accepted : WasAccepted f from to journal came_at came receipt
  pub sent_stamp : echo.sent ≡ receipt.message.sent
  pub came_stamp : echo.came ≡ stamp_at from came
  pub last : last_of (Accepted f from to (StationLog from (take place journal))) ≡ Some receipt

-- the receipt law: each message that began with an echo names a real receipt
abbrev pub EchoesAreReal : Fields → List Entry → Type 0
EchoesAreReal f journal =
    (from to place : ℕ) (entry : Entry) (m : Contents) (echo : Echo) → ArePair f.stations from to → Began f from to journal place entry m
    → m.echo ≡ Some echo → IsRealEcho f from to journal place echo
