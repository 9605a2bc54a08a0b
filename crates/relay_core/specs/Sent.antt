-- Sent: the slots of a terminal on its line to a peer, the messages that begin in them, and their frames.
use Rattle.std.specs.Prelude.{ℕ, ◌+◌, ◌-◌, Bool, nat_le, not, ◌&&◌, if◌then◌else◌, List, [], ◌∷◌, ◌++◌, take, reverse, filter_map, Option, Some, None, is_none, option_map, slice_get}
use Rattle.std.specs.Int.{div_ceil}
use Rattle.std.specs.List.{list_all}
use Rattle.ld_base.specs.Message.{Contents}
use Rattle.ld_base.specs.declared.fields.Fields.{Fields}
use Rattle.ld_base.specs.declared.message.Echo.{Echo}
use Rattle.sample_store.specs.Along.{along}
use Rattle.sample_store.specs.declared.ring.Numbered.{Numbered}
use Rattle.payload_map.specs.Messages.{relay_slots}
use Rattle.payload_map.specs.Sent.{Slot, sent}
use Rattle.relay_core.specs.Accepted.{Accepted, last_of}
use Rattle.relay_core.specs.Decided.{Newest}
use Rattle.relay_core.specs.Line.{is_locked_from, rules_of}
use Rattle.relay_core.specs.Log.{now}
use Rattle.relay_core.specs.declared.call.Call.{Call}
use Rattle.relay_core.specs.declared.call.Call.TheVariants as made
use Rattle.relay_core.specs.declared.receipt.Receipt.{Receipt}

-- the messages that began in some slots
abbrev pub begun_in : List (Slot Contents) → List Contents
begun_in slots = filter_map (λ slot. slot.loaded) slots

-- the last message that was accepted, as an echo of it
abbrev pub echo_of : Option Receipt → Option Echo
echo_of last = option_map (λ r. record { sent = r.message.sent; came = r.at }) last

-- the message that tells a peer of a sample
abbrev pub message_of : ℕ → ℕ → ℕ → Option Echo → Numbered → Contents
message_of me peer at echo sample = record { from = me; to = peer; number = sample.number; sent = at; echo = echo; phases = sample.values }

-- no message of 36 bytes is in flight: none began in the slots that it takes, less the coming one
abbrev pub is_free : ℕ → List (Slot Contents) → Bool
is_free channels slots = list_all (λ slot. is_none slot.loaded) (take (div_ceil 36 channels - 1) (reverse slots))

-- the least number above that of the last message that began
abbrev pub number_behind : Option Contents → ℕ
number_behind None = 0
number_behind (Some m) = m.number + 1

-- whether a message of a number can begin: none is in flight, and the number is above that of the last one begun
abbrev pub can_begin : ℕ → List (Slot Contents) → ℕ → Bool
can_begin channels slots number = is_free channels slots && nat_le (number_behind (slice_get (reverse (begun_in slots)) 0)) number

-- the message that begins: none where one is in flight or the newest sample's number isn't above that of the last one begun
abbrev pub begins : ℕ → List (Slot Contents) → Option Contents → Option Contents
begins channels slots None = None
begins channels slots (Some m) = if can_begin channels slots m.number then Some m else None

-- the message that a slot could carry to a peer: that of the newest sample
abbrev pub ready : Fields → ℕ → ℕ → List Call → ℕ → Option Contents
ready f me peer before at = option_map (message_of me peer at (echo_of (last_of (Accepted f me peer before)))) (Newest f me before)

-- the slot of a call on the line to a peer
abbrev pub slot_by : Fields → ℕ → ℕ → List Call → List (Slot Contents) → Call → List (Slot Contents)
slot_by f me peer before slots (made.Sample at values) = []
slot_by f me peer before slots (made.Slot at) =
    record { loaded = begins f.channels slots (ready f me peer before (now (before ++ made.Slot at ∷ []))); yellow = not (is_locked_from f peer before) } ∷ []
slot_by f me peer before slots (made.Bits at from bits) = []
slot_by f me peer before slots (made.Fault at from) = []

-- the slots on the line to a peer
abbrev pub Slots : Fields → ℕ → ℕ → List Call → List (Slot Contents)
Slots f me peer log = along (λ before slots call. slot_by f me peer before slots call) log

-- the messages that began
abbrev pub Begun : Fields → ℕ → ℕ → List Call → List Contents
Begun f me peer log = begun_in (Slots f me peer log)

-- the frames of some slots, as bits
abbrev pub frames_sent : Fields → List (Slot Contents) → List (List ℕ)
frames_sent f slots = sent (rules_of f).words f.channels (relay_slots slots)

-- Sent: the frames that were sent to a peer
abbrev pub Sent : Fields → ℕ → ℕ → List Call → List (List ℕ)
Sent f me peer log = frames_sent f (Slots f me peer log)
