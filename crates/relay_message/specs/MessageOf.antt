-- MessageOf: the layout of a relay message, and the bytes of a message. (This project's own.)
use Rattle.std.specs.Prelude.{◌≡◌, ℕ, ◌+◌, ◌*◌, List, ◌∷◌, ◌++◌, length, take, slice_index, Option, Some, None}
use Rattle.std.specs.Int.{w16, bytes_high_first, cast_signed, cast_unsigned}
use Rattle.ld_base.specs.Message.{Contents}
use Rattle.ld_base.specs.declared.message.Echo.{Echo}
use Rattle.message_check.specs.Check.{check_of}
use Rattle.relay_message.specs.Fields.{number_at}

-- the address: the sender in the high nibble, the receiver in the low one
abbrev pub address_of : Contents → ℕ
address_of m = 16 * m.from + m.to

-- the flags: bit 0 is set where an echo is present
abbrev pub flags_of : Option Echo → ℕ
flags_of (Some echo) = 1
flags_of None = 0

-- the stamps of an echo, zeros where there is none
abbrev pub echo_sent : Option Echo → ℕ
echo_sent (Some echo) = echo.sent
echo_sent None = 0

abbrev pub echo_came : Option Echo → ℕ
echo_came (Some echo) = echo.came
echo_came None = 0

-- the 36 bytes spell this message
pub record MessageOf (bytes : List ℕ) (m : Contents) : Type 0 where
  pub long : length bytes ≡ 36
  pub marker : (slice_index bytes 0 ≡ 0xD5) × (slice_index bytes 1 ≡ 0x94)
  pub address : slice_index bytes 2 ≡ address_of m
  pub flags : slice_index bytes 3 ≡ flags_of m.echo
  pub number : number_at 4 4 bytes ≡ m.number
  pub sent : number_at 8 6 bytes ≡ m.sent
  pub echo_sent : number_at 14 6 bytes ≡ echo_sent m.echo
  pub echo_came : number_at 20 6 bytes ≡ echo_came m.echo
  pub a : cast_signed w16 (number_at 26 2 bytes) ≡ m.phases.a
  pub b : cast_signed w16 (number_at 28 2 bytes) ≡ m.phases.b
  pub c : cast_signed w16 (number_at 30 2 bytes) ≡ m.phases.c
  pub check : number_at 32 4 bytes ≡ check_of (take 32 bytes)

-- the bytes of a message in front of its check
abbrev pub unchecked : Contents → List ℕ
unchecked m =
    0xD5 ∷ 0x94 ∷ address_of m ∷ flags_of m.echo ∷ (bytes_high_first 4 m.number
    ++ bytes_high_first 6 m.sent ++ bytes_high_first 6 (echo_sent m.echo) ++ bytes_high_first 6 (echo_came m.echo)
    ++ bytes_high_first 2 (cast_unsigned w16 m.phases.a) ++ bytes_high_first 2 (cast_unsigned w16 m.phases.b)
    ++ bytes_high_first 2 (cast_unsigned w16 m.phases.c))

-- all bytes of a message
abbrev pub spelled : Contents → List ℕ
spelled m = unchecked m ++ bytes_high_first 4 (check_of (unchecked m))
