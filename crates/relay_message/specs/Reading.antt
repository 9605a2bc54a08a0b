-- What 36 bytes tell: the message that they spell, or their first fault.
use Rattle.std.specs.Prelude.{ℕ, ◌/◌, ◌%◌, Bool, ◌&&◌, not, ◌==◌, nat_lt, nat_le, if◌then◌else◌, List, take, slice_index, Option, Some, None, Result, Ok, Err}
use Rattle.std.specs.Int.{w16, cast_signed}
use Rattle.ld_base.specs.Message.{Contents}
use Rattle.ld_base.specs.declared.message.Echo.{Echo}
use Rattle.ld_base.specs.declared.phases.Phases.{Phases}
use Rattle.message_check.specs.Check.{check_of}
use Rattle.relay_message.specs.Fields.{number_at}
use Rattle.relay_message.specs.Messages.{Layout}
use Rattle.relay_message.specs.declared.fault.MessageFault.{MessageFault}
use Rattle.relay_message.specs.declared.fault.MessageFault.TheVariants.{Marker, Check, Address, Flags, EchoFields}

-- the first two bytes are the marker
abbrev pub is_marked : List ℕ → Bool
is_marked bytes = slice_index bytes 0 == 0xD5 && slice_index bytes 1 == 0x94

-- the last four bytes are the check of those before
abbrev pub is_checked : List ℕ → Bool
is_checked bytes = number_at 32 4 bytes == check_of (take 32 bytes)

-- a number is that of a station
abbrev pub is_station : ℕ → Bool
is_station number = nat_le 1 number && nat_le number 3

-- the nibbles of an address are the numbers of two stations
abbrev pub is_address : ℕ → Bool
is_address address = is_station (address / 16) && is_station (address % 16) && not (address / 16 == address % 16)

-- the echo fields are zeros
abbrev pub has_no_echo : List ℕ → Bool
has_no_echo bytes = number_at 14 6 bytes == 0 && number_at 20 6 bytes == 0

-- the echo where it is flagged
abbrev pub echo_at : List ℕ → Option Echo
echo_at bytes =
    if slice_index bytes 3 == 0 then None
    else Some (record { sent = number_at 14 6 bytes; came = number_at 20 6 bytes })

-- the phases
abbrev pub phases_at : List ℕ → Phases
phases_at bytes = record {
  a = cast_signed w16 (number_at 26 2 bytes);
  b = cast_signed w16 (number_at 28 2 bytes);
  c = cast_signed w16 (number_at 30 2 bytes);
}

-- what the fields are
abbrev pub contents_at : List ℕ → Contents
contents_at bytes = record {
  from = slice_index bytes 2 / 16;
  to = slice_index bytes 2 % 16;
  number = number_at 4 4 bytes;
  sent = number_at 8 6 bytes;
  echo = echo_at bytes;
  phases = phases_at bytes;
}

-- the message, or the fault by the least number
unfoldable pub read_message : List ℕ → Result Contents MessageFault
read_message bytes =
    if not (is_marked bytes) then Err Marker
    else if not (is_checked bytes) then Err Check
    else if not (is_address (slice_index bytes 2)) then Err (Address (slice_index bytes 2))
    else if nat_lt 1 (slice_index bytes 3) then Err (Flags (slice_index bytes 3))
    else if slice_index bytes 3 == 0 && not (has_no_echo bytes) then Err EchoFields
    else Ok (contents_at bytes)

-- the layout of relay messages: bytes without the marker tell nothing
abbrev pub relay_layout : Layout Contents MessageFault
relay_layout = record { size = 36; read = λ bytes. if is_marked bytes then Some (read_message bytes) else None }
