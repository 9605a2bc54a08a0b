-- Which messages of a journal came as they were sent, when they were on their way, and the exchanges that they make. (This project's
-- own.)
use Rattle.std.specs.Prelude.{ℕ, Bool, true, false, ◌&&◌, ◌==◌, List, [], count_by, find, is_none, map, reverse, Option, None, Some, option_map, slice_get}
use Rattle.std.specs.List.{flat_map}
use Rattle.std.specs.Option.{option_and_then, option_to_list}
use Rattle.std.specs.Ordering.{int_eq}
use Rattle.ld_base.specs.Message.{Contents}
use Rattle.ld_base.specs.declared.fields.Fields.{Fields}
use Rattle.ld_base.specs.declared.message.Echo.{Echo}
use Rattle.ld_base.specs.declared.phases.Phases.{Phases}
use Rattle.pingpong.specs.Exchange.{exchange_of}
use Rattle.pingpong.specs.declared.journal.Entry.{Entry}
use Rattle.pingpong.specs.declared.journal.What.{What}
use Rattle.pingpong.specs.declared.journal.What.TheVariants.{Came, SendFailed, Slot, TakeFailed, Took}
use Rattle.relay_core.specs.Decided.{accepted_by}
use Rattle.relay_core.specs.Sent.{Begun}
use Rattle.relay_core.specs.declared.receipt.Receipt.{Receipt}
use Rattle.relay_message.specs.Messages.{added}
use Rattle.sample_store.specs.Along.{along}
use Rattle.relay_core.specs.StationLog.{StationLog, calls_by}
use Rattle.line_journal.specs.Totals.{counted}
use Rattle.line_journal.specs.declared.crossing.Arrival.{Arrival}
use Rattle.line_journal.specs.declared.crossing.Beginning.{Beginning}
use Rattle.line_journal.specs.declared.crossing.Crossing.{Crossing}
use Rattle.line_journal.specs.declared.crossing.Legs.{Legs}

abbrev pub is_same_echo : Option Echo → Option Echo → Bool
is_same_echo None None = true
is_same_echo (Some one) (Some other) = (one.sent == other.sent) && (one.came == other.came)
is_same_echo one other = false

abbrev pub are_same_phases : Phases → Phases → Bool
are_same_phases one other = int_eq one.a other.a && int_eq one.b other.b && int_eq one.c other.c

-- whether two messages say the same in every field
abbrev pub is_same : Contents → Contents → Bool
is_same one other =
    (one.from == other.from) && (one.to == other.to) && (one.number == other.number) && (one.sent == other.sent)
    && is_same_echo one.echo other.echo && are_same_phases one.phases other.phases

-- the messages that begin on a line with an entry
abbrev pub begun_with : Fields → ℕ → ℕ → List Entry → Entry → List Contents
begun_with f from to before entry = added (Begun f from to) (StationLog from before) (calls_by from entry)

-- the messages of a peer that station `me` accepts with an entry
abbrev pub accepted_with : Fields → ℕ → ℕ → List Entry → Entry → List Receipt
accepted_with f me peer before entry = flat_map (accepted_by f me peer (StationLog me before)) (calls_by me entry)

-- a message that began on a line, and the true time of its slot
pub record Start : Type 0 where
  pub message : Contents
  pub time : ℕ

-- the messages that began on the line from one station to another
abbrev pub Starts : Fields → ℕ → ℕ → List Entry → List Start
Starts f from to journal = along (λ before so_far entry. map (λ m. record { message = m; time = entry.time }) (begun_with f from to before entry)) journal

-- the slot of a message on the line from one station to another
abbrev pub slot_time : Fields → ℕ → ℕ → List Entry → Contents → Option ℕ
slot_time f from to before message = option_map (λ start. start.time) (find (λ start. is_same message start.message) (Starts f from to before))

abbrev pub arrivals_with : Fields → ℕ → ℕ → List Entry → Entry → List Arrival
arrivals_with f me peer before entry =
    map (λ r. record { came = entry.time; began = slot_time f peer me before r.message }) (accepted_with f me peer before entry)

-- when station `me` accepted the messages of a peer, and when they began
abbrev pub Arrivals : Fields → ℕ → ℕ → List Entry → List Arrival
Arrivals f me peer journal = along (λ before so_far entry. arrivals_with f me peer before entry) journal

-- what arrives with an entry, at whichever station
abbrev pub arrivals_of : Fields → List Entry → Entry → What → List Arrival
arrivals_of f before entry (Came station peer bits) = arrivals_with f station peer before entry
arrivals_of f before entry (Took station values) = []
arrivals_of f before entry (Slot station first second) = []
arrivals_of f before entry (SendFailed station peer) = []
arrivals_of f before entry (TakeFailed station peer) = []

-- how many accepted messages aren't honest
abbrev pub Forged : Fields → List Entry → ℕ
Forged f journal = counted (count_by (λ arrival. is_none arrival.began) (along (λ before so_far entry. arrivals_of f before entry entry.what) journal))

-- the messages that begin on a line with an entry, each with its slot, and with when its sender had accepted the last one from the
-- receiver, which it echoes
abbrev pub beginnings_with : Fields → ℕ → ℕ → List Entry → Entry → List Beginning
beginnings_with f from to before entry =
    map (λ m. record { message = m; time = entry.time; heard = slice_get (reverse (Arrivals f from to before)) 0 }) (begun_with f from to before entry)

abbrev pub Beginnings : Fields → ℕ → ℕ → List Entry → List Beginning
Beginnings f from to journal = along (λ before so_far entry. beginnings_with f from to before entry) journal

-- the legs of the exchange that an accepted message completes at a true time, where both its messages are honest
abbrev pub legs_from : ℕ → Option Beginning → Option Legs
legs_from back beginning =
    option_and_then (λ turn. option_and_then (λ heard. option_map (λ sent. record { sent = sent; came = heard.came; turned = turn.time; back = back }) heard.began) turn.heard) beginning

abbrev pub legs_of : Fields → ℕ → ℕ → List Entry → ℕ → Contents → Option Legs
legs_of f me peer before back message = legs_from back (find (λ beginning. is_same message beginning.message) (Beginnings f peer me before))

abbrev pub crossing_by : Fields → ℕ → ℕ → List Entry → Entry → Receipt → List Crossing
crossing_by f me peer before entry r =
    map (λ e. record { exchange = e; legs = legs_of f me peer before entry.time r.message }) (option_to_list (exchange_of r.message r.at))

-- the exchanges of station `me` with a peer
abbrev pub Crossings : Fields → ℕ → ℕ → List Entry → List Crossing
Crossings f me peer journal = along (λ before so_far entry. flat_map (crossing_by f me peer before entry) (accepted_with f me peer before entry)) journal
