-- The bytes of a message spell it.
use Rattle.std.proofs.Common.{◌≡◌, ℕ, ◌^◌, ◌<◌, ℤ, FitsSigned, Option, Some, None, arith, refl, ap, ◌∙◌}
use Rattle.std.specs.Int.{w16, bytes_high_first, cast_signed, cast_unsigned}
use Rattle.std.specs.Option.{ForSome}
use Rattle.std.proofs.Math.Facts.{Fits-of_z}
use Rattle.std.proofs.lemmas.Int.{to_z-of_z}
use Rattle.std.proofs.lemmas.Nat.{from_be_bytes-to_be_bytes_2, from_be_bytes-to_be_bytes_4}
use Rattle.ld_base.specs.Message.{Contents, IsMessage, IsEcho}
use Rattle.ld_base.specs.declared.message.Echo.{Echo}
use Rattle.message_check.specs.Check.{check_of}
use Rattle.relay_message.specs.Fields.{number_at}
use Rattle.relay_message.specs.FitPhases.{FitPhases}
use Rattle.relay_message.specs.MessageOf.{MessageOf, echo_sent, echo_came, spelled, unchecked}

-- a stamp is read from its six bytes
stamp-spelled : (n : ℕ) → n < 2 ^ 48 → number_at 0 6 (bytes_high_first 6 n) ≡ n
stamp-spelled n h = omega arith

-- a value from its two
value-spelled : (z : ℤ) → FitsSigned w16 z → cast_signed w16 (number_at 0 2 (bytes_high_first 2 (cast_unsigned w16 z))) ≡ z
value-spelled z h = ap (cast_signed w16) (from_be_bytes-to_be_bytes_2 (cast_unsigned w16 z) (Fits-of_z {w = w16} {z = z} h).fits) ∙ to_z-of_z w16 z h

-- the stamps of an echo that may be missing
echo_sent-lt : (echo : Option Echo) → ForSome echo IsEcho → echo_sent echo < 2 ^ 48
echo_sent-lt None h = omega arith
echo_sent-lt (Some echo) h = (h echo refl).sent

echo_came-lt : (echo : Option Echo) → ForSome echo IsEcho → echo_came echo < 2 ^ 48
echo_came-lt None h = omega arith
echo_came-lt (Some echo) h = (h echo refl).came

pub MessageOf-spelled : (m : Contents) → IsMessage m → FitPhases m.phases → check_of (unchecked m) < 2 ^ 32 → MessageOf (spelled m) m
MessageOf-spelled m h fit check = record {
  long = refl;
  marker = (refl, refl);
  address = refl;
  flags = refl;
  number = from_be_bytes-to_be_bytes_4 m.number h.number;
  sent = stamp-spelled m.sent h.sent;
  echo_sent = stamp-spelled (echo_sent m.echo) (echo_sent-lt m.echo h.echo);
  echo_came = stamp-spelled (echo_came m.echo) (echo_came-lt m.echo h.echo);
  a = value-spelled m.phases.a fit.a;
  b = value-spelled m.phases.b fit.b;
  c = value-spelled m.phases.c fit.c;
  check = from_be_bytes-to_be_bytes_4 (check_of (unchecked m)) check;
}
