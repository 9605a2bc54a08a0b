-- Relay messages that are sent.
use Rattle.std.specs.Prelude.{List, ℕ, map}
use Rattle.ld_base.specs.Message.{Contents, IsMessage}
use Rattle.relay_message.specs.FitPhases.{FitPhases}
use Rattle.relay_message.specs.MessageOf.{spelled}
use Rattle.payload_map.specs.Sent.{Slot, spelled_slot}

-- a message has bytes
abbrev pub CanBeSent : Contents → Type 0
CanBeSent m = IsMessage m × FitPhases m.phases

-- the slots of relay messages, with their bytes
abbrev pub relay_slots : List (Slot Contents) → List (Slot (List ℕ))
relay_slots slots = map (spelled_slot spelled) slots
