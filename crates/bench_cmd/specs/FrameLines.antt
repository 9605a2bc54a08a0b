-- The lines of `frames`.
use Rattle.std.specs.Prelude.{ℕ, ◌+◌, ◌*◌, ◌/◌, Bool, true, false, if◌then◌else◌, List, [], ◌∷◌, ◌++◌, take, Option, Some, None, codes, decimal}
use Rattle.hex.specs.Hex.{encode_lower}
use Rattle.c3794_frame.specs.declared.decoding.FrameFault.{FrameFault}
use Rattle.c3794_frame.specs.declared.decoding.FrameFault.TheVariants.{Header, Pair, Count}
use Rattle.ld_base.specs.Message.{Contents}
use Rattle.ld_base.specs.declared.message.Echo.{Echo}
use Rattle.relay_message.specs.declared.fault.MessageFault.{MessageFault}
use Rattle.relay_message.specs.declared.fault.MessageFault.TheVariants.{Marker, Check, Address, Flags, EchoFields}
use Rattle.bit_sync.specs.declared.told.Got.{Got}
use Rattle.bit_sync.specs.declared.told.Got.TheVariants.{Good, Bad}
use Rattle.text_lines.specs.Lines.{row}
use Rattle.text_lines.specs.Words.{phases_fields}

-- so many bits, and the rest of their last byte
abbrev pub whole_bytes : ℕ → ℕ
whole_bytes bits = (bits + 7) / 8 * 8

-- a bit as a digit
abbrev pub digit : Bool → List ℕ
digit true = codes "1"
digit false = codes "0"

-- the fields for a fault of a frame
abbrev pub fault_fields : FrameFault → List (List ℕ)
fault_fields Header = codes "header" ∷ []
fault_fields (Pair at) = codes "pair" ∷ decimal at ∷ []
fault_fields (Count count) = codes "count" ∷ decimal count ∷ []

-- the bytes of a piece in lower-case hexadecimal
abbrev pub hex_words : Option (List ℕ) → List ℕ
hex_words None = []
hex_words (Some bytes) = encode_lower bytes

-- the line of a frame that ended with so many bits: its yellow bit and so many bytes of payload, or its fault
abbrev pub frame_line : ℕ → ℕ → Got → List ℕ
frame_line channels end (Good f) = row (codes "frame") (decimal end ∷ digit f.yellow ∷ encode_lower (take channels f.payload) ∷ [])
frame_line channels end (Bad fault) = row (codes "bad") (decimal end ∷ fault_fields fault)

-- the line of a lock
abbrev pub lock_line : ℕ → List ℕ
lock_line end = row (codes "lock") (decimal end ∷ [])

-- the line of the loss of a lock
abbrev pub lost_line : ℕ → List ℕ
lost_line end = row (codes "lost") (decimal end ∷ [])

-- the last line
abbrev pub end_line : ℕ → Bool → List ℕ
end_line end locked = row (codes "end") (decimal end ∷ (if locked then codes "locked" else codes "hunting") ∷ [])

-- the stations of a message, the number of its sample, and its send stamp
abbrev pub heading_fields : ℕ → ℕ → ℕ → ℕ → List (List ℕ)
heading_fields from to number sent = decimal from ∷ decimal to ∷ decimal number ∷ decimal sent ∷ []

-- the stamps of its echo, where there is one
abbrev pub echo_fields : Option Echo → List (List ℕ)
echo_fields None = codes "-" ∷ codes "-" ∷ []
echo_fields (Some echo) = decimal echo.sent ∷ decimal echo.came ∷ []

-- the line of a message that ended with so many bits
abbrev pub message_line : ℕ → Contents → List ℕ
message_line end m = row (codes "message") (decimal end ∷ heading_fields m.from m.to m.number m.sent ++ echo_fields m.echo ++ phases_fields m.phases)

-- the number of a fault of a message
abbrev pub fault_number : MessageFault → ℕ
fault_number Marker = 1
fault_number Check = 2
fault_number (Address address) = 3
fault_number (Flags flags) = 4
fault_number EchoFields = 5

-- the line of the first place at which a message was refused, if there is one
abbrev pub refused_line : ℕ → Option MessageFault → List ℕ
refused_line end None = []
refused_line end (Some fault) = row (codes "refused") (decimal end ∷ decimal (fault_number fault) ∷ [])
