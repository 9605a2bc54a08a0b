-- The frames of slots are frames, whose header words alternate.
use Rattle.std.proofs.Common.{◌≡◌, ℕ, zero, suc, ◌-◌, ◌<◌, ◌≤◌, Bool, not, List, [], ◌∷◌, ◌++◌, length, take, drop, get_or, replicate, Option, Some, None, unwrap_or, option_map, refl, arith, ap, ◌∙◌, length-append}
use Rattle.std.specs.Int.{w16, byte_at, bytes_high_first, cast_unsigned}
use Rattle.std.specs.List.{AllByRecursion, flat_map}
use Rattle.std.specs.Option.{ForSome}
use Rattle.std.proofs.lemmas.List.{get_or-append_right, get_or-replicate, length-replicate, length-take}
use Rattle.ld_base.specs.Message.{Contents, IsMessage}
use Rattle.ld_base.specs.declared.message.Echo.{Echo}
use Rattle.c3794_frame.specs.Frame.{IsFrame, filled}
use Rattle.bit_sync.specs.Undamaged.{AreSent}
use Rattle.relay_message.specs.MessageOf.{echo_came, echo_sent, flags_of, spelled, unchecked}
use Rattle.payload_map.specs.Messages.{CanBeSent, relay_slots}
use Rattle.payload_map.specs.Sent.{Slot, frames_from, left_after}
use Rattle.payload_map.proofs.Flights.{all-drop}
use Rattle.payload_map.proofs.Undamaged.{all-take}

-- what holds of the elements of two lists holds of both
all-append : {A : Type 0} (P : A → Type 0) (xs ys : List A) → AllByRecursion P xs → AllByRecursion P ys → AllByRecursion P (xs ++ ys)
all-append P [] ys first rest = rest
all-append P (x ∷ xs) ys first rest = (first.0, all-append P xs ys first.1 rest)

-- these are bytes
abbrev pub AreBytes : List ℕ → Type 0
AreBytes bytes = AllByRecursion (λ byte. byte < 256) bytes

-- the bytes of a number
number-bytes : (count n : ℕ) → AreBytes (bytes_high_first count n)
number-bytes zero n = tt
number-bytes (suc count) n = (one-byte count n, number-bytes count n)
  where
    one-byte : (i k : ℕ) → byte_at i k < 256
    one-byte zero k = omega arith
    one-byte (suc i) k = omega arith

-- of some numbers, each with the count of its bytes
numbers-bytes : (numbers : List (ℕ × ℕ)) → AreBytes (flat_map (λ number. bytes_high_first number.0 number.1) numbers)
numbers-bytes [] = tt
numbers-bytes (number ∷ numbers) =
    all-append (λ byte. byte < 256) (bytes_high_first number.0 number.1) (flat_map (λ n. bytes_high_first n.0 n.1) numbers)
    (number-bytes number.0 number.1) (numbers-bytes numbers)

-- idle bytes
idle-bytes : (count : ℕ) → AreBytes (replicate count 255)
idle-bytes zero = tt
idle-bytes (suc count) = (omega arith, idle-bytes count)

-- the bytes of a message
flag-byte : (echo : Option Echo) → flags_of echo < 256
flag-byte None = omega arith
flag-byte (Some echo) = omega arith

unchecked-bytes : (m : Contents) → IsMessage m → AreBytes (unchecked m)
unchecked-bytes m h =
    let stamps : List (ℕ × ℕ) = (6, m.sent) ∷ (6, echo_sent m.echo) ∷ (6, echo_came m.echo) ∷ [] in
    let phases : List (ℕ × ℕ) = (2, cast_unsigned w16 m.phases.a) ∷ (2, cast_unsigned w16 m.phases.b) ∷ (2, cast_unsigned w16 m.phases.c) ∷ [] in
    (omega arith, (omega arith, (omega (arith, h.from.1, h.to.1), (flag-byte m.echo, numbers-bytes ((4, m.number) ∷ (stamps ++ phases))))))

spelled-bytes : (m : Contents) → IsMessage m → AreBytes (spelled m)
spelled-bytes m h = all-append (λ byte. byte < 256) (unchecked m) (bytes_high_first 4 _) (unchecked-bytes m h) (number-bytes 4 _)

-- each of some bytes, and nothing past them, is below 256
byte-at : (bytes : List ℕ) → AreBytes bytes → (k : ℕ) → get_or bytes k 0 < 256
byte-at [] are k = omega arith
byte-at (byte ∷ bytes) are zero = are.0
byte-at (byte ∷ bytes) are (suc k) = byte-at bytes are.1 k

-- a frame with the next bytes
next-frame : (n : ℕ) (odd yellow : Bool) (left : List ℕ) → 1 ≤ n → n ≤ 12 → AreBytes left
    → IsFrame (record { odd = odd; channels = n; yellow = yellow; payload = filled (take n left) })
next-frame n odd yellow left some few are =
    let next : List ℕ = take n left in
    let idle : List ℕ = replicate (12 - length next) 255 in
    let within : length next ≤ n = omega (arith, length-take n left) in
    record {
      some = some;
      few = few;
      twelve = omega (arith, length-append next idle, length-replicate {A = ℕ} (12 - length next) 255);
      bytes = byte-at (next ++ idle) (all-append (λ byte. byte < 256) next idle (all-take (λ byte. byte < 256) n left are) (idle-bytes (12 - length next)));
      unused = λ k above below.
          get_or-append_right next idle (length next) k 0 refl (omega arith) ∙ get_or-replicate (12 - length next) (k - length next) 255 0 (omega arith);
    }

-- the bytes that a slot has to send
slot-bytes : (loaded : Option Contents) (left : List ℕ) → ForSome loaded CanBeSent → AreBytes left → AreBytes (unwrap_or (option_map spelled loaded) left)
slot-bytes None left fine are = are
slot-bytes (Some m) left fine are = spelled-bytes m ((fine m refl).0)

-- the frames of slots are frames, and their words alternate
pub frames-sent : (n : ℕ) (odd : Bool) (left : List ℕ) (slots : List (Slot Contents)) → 1 ≤ n → n ≤ 12 → AreBytes left
    → AllByRecursion (λ slot. ForSome slot.loaded CanBeSent) slots → AreSent n odd (frames_from n odd left (relay_slots slots))
unfolding frames_from
frames-sent n odd left [] some few are fine = tt
frames-sent n odd left (slot ∷ slots) some few are fine =
    let bytes : List ℕ = unwrap_or (option_map spelled slot.loaded) left in
    let are_bytes : AreBytes bytes = slot-bytes slot.loaded left fine.0 are in (
      next-frame n odd slot.yellow bytes some few are_bytes,
      refl,
      refl,
      frames-sent n (not odd) (drop n bytes) slots some few (all-drop (λ byte. byte < 256) n bytes are_bytes) fine.1,
    )

-- there is one for each slot
pub length-frames : (n : ℕ) (odd : Bool) (left : List ℕ) (slots : List (Slot (List ℕ))) → length (frames_from n odd left slots) ≡ length slots
unfolding frames_from
length-frames n odd left [] = refl
length-frames n odd left (slot ∷ slots) = ap suc (length-frames n (not odd) (left_after n left slot) slots)
