-- Accepted: the messages of a peer that count, and the exchanges that they complete.
use Rattle.std.specs.Prelude.{ℕ, ◌+◌, max, Bool, nat_le, ◌&&◌, ◌==◌, if◌then◌else◌, List, [], ◌∷◌, ◌++◌, map, filter_map, reverse, slice_get, Option}
use Rattle.ld_base.specs.Message.{Contents}
use Rattle.ld_base.specs.declared.fields.Fields.{Fields}
use Rattle.pingpong.specs.Exchange.{Stamps, exchange_of}
use Rattle.offset_track.specs.InForce.{InForce}
use Rattle.relay_message.specs.Messages.{added}
use Rattle.sample_store.specs.Along.{along}
use Rattle.relay_core.specs.Line.{Messages}
use Rattle.relay_core.specs.Log.{now}
use Rattle.relay_core.specs.declared.call.Call.{Call}
use Rattle.relay_core.specs.declared.receipt.Receipt.{Receipt}

-- the messages that a call completes
abbrev pub completed_by : Fields → ℕ → List Call → Call → List Receipt
completed_by f peer before call = map (λ m. record { message = m; at = now (before ++ call ∷ []) }) (added (Messages f peer) before (call ∷ []))

-- all messages of the line from a peer, with the times at which they were complete
abbrev pub Completed : Fields → ℕ → List Call → List Receipt
Completed f peer log = along (λ before completed call. completed_by f peer before call) log

-- the least number above those of all these
abbrev pub next_number : List Receipt → ℕ
next_number [] = 0
next_number (r ∷ receipts) = max (r.message.number + 1) (next_number receipts)

-- the last one
abbrev pub last_of : List Receipt → Option Receipt
last_of receipts = slice_get (reverse receipts) 0

-- whether a message goes from one station to another
abbrev pub is_addressed : ℕ → ℕ → Contents → Bool
is_addressed from to m = (m.from == from) && (m.to == to)

-- a message counts where its address is right and its number is above that of every earlier one
abbrev pub accepted_of : ℕ → ℕ → List Receipt → Receipt → List Receipt
accepted_of me peer accepted r = if is_addressed peer me r.message && nat_le (next_number accepted) r.message.number then r ∷ [] else []

-- of some messages those that count
abbrev pub accepted_among : ℕ → ℕ → List Receipt → List Receipt
accepted_among me peer completed = along (λ before accepted r. accepted_of me peer accepted r) completed

-- Accepted: the messages of station `me` from a peer
abbrev pub Accepted : Fields → ℕ → ℕ → List Call → List Receipt
Accepted f me peer log = accepted_among me peer (Completed f peer log)

-- Exchange: those that the accepted messages complete
abbrev pub Exchanges : Fields → ℕ → ℕ → List Call → List Stamps
Exchanges f me peer log = filter_map (λ r. exchange_of r.message r.at) (Accepted f me peer log)

-- InForce: the exchange with a peer that decides at the terminal's time
abbrev pub InForceWith : Fields → ℕ → ℕ → List Call → Option Stamps
InForceWith f me peer log = InForce (λ e. e) f.slow f.age (now log) (Exchanges f me peer log)
