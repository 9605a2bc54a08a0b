-- What came over the line from a peer: its bits, its frames, and the messages in their payload.
use Rattle.std.specs.Prelude.{ℕ, Bool, ◌==◌, if◌then◌else◌, List, [], Option}
use Rattle.std.specs.List.{flat_map}
use Rattle.ld_base.specs.Message.{Contents}
use Rattle.ld_base.specs.declared.fields.Fields.{Fields}
use Rattle.bit_sync.specs.Frames.{Rules, frames, gots, is_locked}
use Rattle.bit_sync.specs.declared.told.Got.{Got}
use Rattle.relay_message.specs.Messages.{line_of, messages, refusals}
use Rattle.relay_message.specs.Reading.{relay_layout}
use Rattle.relay_message.specs.declared.fault.MessageFault.{MessageFault}
use Rattle.payload_map.specs.Pieces.{pieces}
use Rattle.relay_core.specs.declared.call.Call.{Call}
use Rattle.relay_core.specs.declared.call.Call.TheVariants as made

-- the bits of the line from a peer that came with a call
abbrev pub bits_from : ℕ → Call → List ℕ
bits_from peer (made.Sample at values) = []
bits_from peer (made.Slot at) = []
bits_from peer (made.Bits at from bits) = if from == peer then bits else []
bits_from peer (made.Fault at from) = []

-- Line: all bits that came from a peer, joined in order
abbrev pub Line : ℕ → List Call → List ℕ
Line peer log = flat_map (bits_from peer) log

-- how a line is read by the settings
abbrev pub rules_of : Fields → Rules
rules_of f = record { words = record { a = f.worda; b = f.wordb }; misses = f.misses; channels = f.channels }

-- what was got at the end of each frame of a line
abbrev pub gots_on : Fields → List ℕ → List Got
gots_on f line = gots (frames (rules_of f) line).events

-- whether a line has a lock
abbrev pub has_lock : Fields → List ℕ → Bool
has_lock f line = is_locked (frames (rules_of f) line).place

-- the payload of a line: bytes, and a gap for each bad frame
abbrev pub payload_on : Fields → List ℕ → List (Option ℕ)
payload_on f line = line_of (pieces (rules_of f) line)

-- the messages of a line
abbrev pub messages_on : Fields → List ℕ → List Contents
messages_on f line = messages relay_layout (payload_on f line)

-- and the faults for which places of its payload are refused
abbrev pub refusals_on : Fields → List ℕ → List MessageFault
refusals_on f line = refusals relay_layout (payload_on f line)

-- Frames of the line from a peer: what was got at their ends
abbrev pub Gots : Fields → ℕ → List Call → List Got
Gots f peer log = gots_on f (Line peer log)

-- and whether there is a lock
abbrev pub is_locked_from : Fields → ℕ → List Call → Bool
is_locked_from f peer log = has_lock f (Line peer log)

-- Messages of the line from a peer
abbrev pub Messages : Fields → ℕ → List Call → List Contents
Messages f peer log = messages_on f (Line peer log)

-- and the refusals
abbrev pub Refusals : Fields → ℕ → List Call → List MessageFault
Refusals f peer log = refusals_on f (Line peer log)
