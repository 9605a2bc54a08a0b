-- What is decoded is the one message of the bytes.
use Rattle.std.proofs.Common.{◌≡◌, ◌≢◌, ℕ, ℤ, ◌+◌, ◌*◌, ◌%◌, ◌/◌, ◌≤◌, zero, suc, Bool, true, false, ◌&&◌, not, cond, eqb, ltb, List, length, slice_index, Option, Some, None, Result, Ok, Err, IfOk, arith, refl, sym, ap, ◌∙◌, subst}
use Rattle.std.proofs.Math.Dec.{eqb-suc-zero}
use Rattle.std.proofs.lemmas.Bool.{and_parts, eqb-true, eq-eqb, le-leb, ltb-false, le-ltb}
use Rattle.ld_base.specs.Message.{Contents, IsMessage}
use Rattle.ld_base.specs.declared.message.Echo.{Echo}
use Rattle.relay_message.specs.declared.fault.MessageFault.{MessageFault}
use Rattle.relay_message.specs.Fields.{number_at}
use Rattle.relay_message.specs.MessageOf.{MessageOf, flags_of, echo_sent, echo_came}
use Rattle.relay_message.specs.Marked.{differ-eqb}
use Rattle.relay_message.specs.Reading.{is_marked, is_checked, is_address, has_no_echo, contents_at, read_message}

-- a guard that was passed
passed : {A E : Type 0} (b : Bool) (e : E) (rest : Result A E) (x : A) → cond b (Err e) rest ≡ Ok x → (b ≡ false) × (rest ≡ Ok x)
passed true e rest x h = absurd (cc)
passed false e rest x h = (refl, h)

not-false : (b : Bool) → not b ≡ false → b ≡ true
not-false true h = refl
not-false false h = absurd (cc)

-- what the guards of the reading say where it gives a message
record Passes (bytes : List ℕ) : Type 0 where
  marked : is_marked bytes ≡ true
  checked : is_checked bytes ≡ true
  address : is_address (slice_index bytes 2) ≡ true
  flags : ltb 1 (slice_index bytes 3) ≡ false
  echo : (eqb (slice_index bytes 3) 0 && not (has_no_echo bytes)) ≡ false

Passes-read : (bytes : List ℕ) (m : Contents) → read_message bytes ≡ Ok m → Passes bytes × (contents_at bytes ≡ m)
unfolding read_message
Passes-read bytes m e =
    let one = passed (not (is_marked bytes)) _ _ m e in
    let two = passed (not (is_checked bytes)) _ _ m one.1 in
    let three = passed (not (is_address (slice_index bytes 2))) _ _ m two.1 in
    let four = passed (ltb 1 (slice_index bytes 3)) _ _ m three.1 in
    let five = passed (eqb (slice_index bytes 3) 0 && not (has_no_echo bytes)) _ _ m four.1 in (
      record {
        marked = not-false _ one.0;
        checked = not-false _ two.0;
        address = not-false _ three.0;
        flags = four.0;
        echo = five.0;
      },
      cc five.1,
    )

read-passes : (bytes : List ℕ) → Passes bytes → read_message bytes ≡ Ok (contents_at bytes)
unfolding read_message
read-passes bytes p = rw (p.marked, p.checked, p.address, p.flags, p.echo) refl

-- an echo of two stamps
abbrev echo_with : ℕ → ℕ → Echo
echo_with sent came = record { sent = sent; came = came }

-- the flags and the echo where they pass
flags-read : (f : ℕ) (echo : Echo) → f ≤ 1 → f ≡ flags_of (cond (eqb f 0) None (Some echo))
flags-read zero echo h = refl
flags-read (suc zero) echo h = refl
flags-read (suc (suc f)) echo h = absurd (omega arith)

echo-read : (f : ℕ) (echo : Echo) → (eqb f 0 && not (eqb echo.sent 0 && eqb echo.came 0)) ≡ false
    → (echo.sent ≡ echo_sent (cond (eqb f 0) None (Some echo))) × (echo.came ≡ echo_came (cond (eqb f 0) None (Some echo)))
echo-read zero echo h =
    let none = and_parts (eqb echo.sent 0) (eqb echo.came 0) (not-false _ h) in
    (eqb-true echo.sent 0 none.0, eqb-true echo.came 0 none.1)
echo-read (suc f) echo h = (rw (eqb-suc-zero f) refl, rw (eqb-suc-zero f) refl)

-- what passes is spelled
MessageOf-passes : (bytes : List ℕ) → length bytes ≡ 36 → Passes bytes → MessageOf bytes (contents_at bytes)
MessageOf-passes bytes long p =
    let marks = and_parts (eqb (slice_index bytes 0) 0xD5) (eqb (slice_index bytes 1) 0x94) p.marked in
    let echo : Echo = record { sent = number_at 14 6 bytes; came = number_at 20 6 bytes } in
    let stamps = echo-read (slice_index bytes 3) echo p.echo in
    record {
      long = long;
      marker = (eqb-true _ _ marks.0, eqb-true _ _ marks.1);
      address = omega arith;
      flags = flags-read (slice_index bytes 3) echo (ltb-false 1 (slice_index bytes 3) p.flags);
      number = refl;
      sent = refl;
      echo_sent = stamps.0;
      echo_came = stamps.1;
      a = refl;
      b = refl;
      c = refl;
      check = eqb-true _ _ p.checked;
    }

-- so what is decoded is spelled
pub MessageOf-read : (bytes : List ℕ) (m : Contents) → length bytes ≡ 36 → read_message bytes ≡ Ok m → MessageOf bytes m
MessageOf-read bytes m long e =
    let p = Passes-read bytes m e in
    subst (MessageOf bytes) p.1 (MessageOf-passes bytes long p.0)

-- the address of two stations passes
address-passes : (from to : ℕ) → (1 ≤ from) × (from ≤ 3) → (1 ≤ to) × (to ≤ 3) → from ≢ to → is_address (16 * from + to) ≡ true
address-passes from to f t differ =
    let high : (16 * from + to) / 16 ≡ from = omega arith in
    let low : (16 * from + to) % 16 ≡ to = omega arith in
    rw (high, low, le-leb 1 from f.0, le-leb from 3 f.1, le-leb 1 to t.0, le-leb to 3 t.1, differ-eqb from to differ) refl

-- so do the flags and the echo of a message
flags_of-le : (echo : Option Echo) → flags_of echo ≤ 1
flags_of-le None = omega arith
flags_of-le (Some echo) = omega arith

echo-passes : (echo : Option Echo) (f sent came : ℕ) → f ≡ flags_of echo → sent ≡ echo_sent echo → came ≡ echo_came echo
    → (eqb f 0 && not (eqb sent 0 && eqb came 0)) ≡ false
echo-passes None f sent came e s c = rw (e, s, c) refl
echo-passes (Some echo) f sent came e s c = rw e refl

echo-same : (echo : Option Echo) (f sent came : ℕ) → f ≡ flags_of echo → sent ≡ echo_sent echo → came ≡ echo_came echo
    → cond (eqb f 0) None (Some (echo_with sent came)) ≡ echo
echo-same None f sent came e s c = rw e refl
echo-same (Some echo) f sent came e s c = rw (e, s, c) refl

Passes-spelled : (bytes : List ℕ) (m : Contents) → IsMessage m → MessageOf bytes m → Passes bytes
Passes-spelled bytes m h p = record {
  marked = rw (eq-eqb _ _ p.marker.0, eq-eqb _ _ p.marker.1) refl;
  checked = eq-eqb _ _ p.check;
  address = rw p.address (address-passes m.from m.to h.from h.to h.differ);
  flags = le-ltb 1 (slice_index bytes 3) (omega (arith, p.flags, flags_of-le m.echo));
  echo = echo-passes m.echo _ _ _ p.flags p.echo_sent p.echo_came;
}

-- contents with these fields
abbrev made : ℕ → ℕ → ℕ → ℕ → Option Echo → ℤ → ℤ → ℤ → Contents
made from to number sent echo a b c = record {
  from = from;
  to = to;
  number = number;
  sent = sent;
  echo = echo;
  phases = record { a = a; b = b; c = c };
}

made-same : (from to number sent from' to' number' sent' : ℕ) (echo echo' : Option Echo) (a b c a' b' c' : ℤ) → from ≡ from' → to ≡ to' → number ≡ number' → sent ≡ sent' → echo ≡ echo'
    → a ≡ a' → b ≡ b' → c ≡ c' → made from to number sent echo a b c ≡ made from' to' number' sent' echo' a' b' c'
made-same from to number sent from' to' number' sent' echo echo' a b c a' b' c' e1 e2 e3 e4 e5 e6 e7 e8 = cc

-- and what is spelled is decoded
pub read-MessageOf : (bytes : List ℕ) (m : Contents) → IsMessage m → MessageOf bytes m → read_message bytes ≡ Ok m
read-MessageOf bytes m h p =
    let from : slice_index bytes 2 / 16 ≡ m.from = omega (arith, p.address, h.from.0, h.to.1) in
    let to : slice_index bytes 2 % 16 ≡ m.to = omega (arith, p.address, h.to.1) in
    let echo = echo-same m.echo _ _ _ p.flags p.echo_sent p.echo_came in
    read-passes bytes (Passes-spelled bytes m h p)
    ∙ ap Ok (made-same _ _ _ _ _ _ _ _ _ _ _ _ _ _ _ _ from to p.number p.sent echo p.a p.b p.c)

-- the same of an answer
pub IfOk-read : (r : Result Contents MessageFault) (bytes : List ℕ) → length bytes ≡ 36 → r ≡ read_message bytes → IfOk r (λ m. MessageOf bytes m)
IfOk-read (Ok m) bytes long e = MessageOf-read bytes m long (sym e)
IfOk-read (Err fault) bytes long e = tt
