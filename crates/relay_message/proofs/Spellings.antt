-- Laws of the bytes of a message.
use Rattle.std.proofs.Common.{◌≡◌, ℕ, ℤ, map, ◌+◌, ◌*◌, ◌^◌, ◌%◌, ◌/◌, ◌<◌, ◌≤◌, zero, suc, List, [], ◌∷◌, ◌++◌, length, take, drop, get_or, Option, Some, None, Result, Ok, arith, refl, sym, ap, ◌∙◌, subst}
use Rattle.std.specs.Int.{w16, w32, byte_at, bytes_high_first, cast_signed, cast_unsigned}
use Rattle.std.proofs.lemmas.List.{ext_get_or, get_or-drop, length-drop, take-append-drop}
use Rattle.std.proofs.lemmas.List.FromFn.{length-map-range_with_len, get_or-map-range_with_len}
use Rattle.std.proofs.lemmas.Int.{of_z-to_z}
use Rattle.std.specs.List.{range_with_len}
use Rattle.std.proofs.lemmas.Nat.{be_bytes_2, be_bytes_4, be_bytes_8}
use Rattle.ld_base.specs.Message.{Contents, IsMessage}
use Rattle.ld_base.specs.declared.message.Echo.{Echo}
use Rattle.message_check.specs.Check.{AreBytes, EndsInCheck, IsCheck, check_of}
use Rattle.message_check.proofs.Checks.{IsCheck-lt, check_of-is}
use Rattle.message_check.proofs.Damage.{damage-of-checked}
use Rattle.relay_message.specs.Fields.{number_at}
use Rattle.relay_message.specs.FitPhases.{FitPhases}
use Rattle.relay_message.specs.MessageOf.{MessageOf, address_of, flags_of, echo_sent, echo_came, spelled, unchecked}
use Rattle.relay_message.specs.Messages.{cells, told}
use Rattle.relay_message.specs.Reading.{read_message, relay_layout, is_marked}
use Rattle.relay_message.proofs.Decoded.{read-MessageOf}
use Rattle.relay_message.proofs.Places.{told-message}
use Rattle.relay_message.proofs.Spelled.{MessageOf-spelled}

-- lists of bytes
AreBytes-append : (xs ys : List ℕ) → AreBytes xs → AreBytes ys → AreBytes (xs ++ ys)
AreBytes-append [] ys h k = k
AreBytes-append (x ∷ xs) ys h k = (h.0, AreBytes-append xs ys h.1 k)

AreBytes-parts : (xs ys : List ℕ) → AreBytes (xs ++ ys) → AreBytes xs × AreBytes ys
AreBytes-parts [] ys h = (tt, h)
AreBytes-parts (x ∷ xs) ys h = let parts = AreBytes-parts xs ys h.1 in ((h.0, parts.0), parts.1)

byte_at-lt : (i n : ℕ) → byte_at i n < 256
byte_at-lt zero n = omega arith
byte_at-lt (suc i) n = omega arith

AreBytes-number : (count n : ℕ) → AreBytes (bytes_high_first count n)
AreBytes-number zero n = tt
AreBytes-number (suc count) n = (byte_at-lt count n, AreBytes-number count n)

-- those of a message are bytes
flags_of-lt : (echo : Option Echo) → flags_of echo < 256
flags_of-lt None = omega arith
flags_of-lt (Some echo) = omega arith

-- a list and a number behind it
then-number : (xs : List ℕ) (count n : ℕ) → AreBytes xs → AreBytes (xs ++ bytes_high_first count n)
then-number xs count n h = AreBytes-append xs (bytes_high_first count n) h (AreBytes-number count n)

unchecked-bytes : (m : Contents) → IsMessage m → AreBytes (unchecked m)
unchecked-bytes m h =
    let number = bytes_high_first 4 m.number in
    let sent = number ++ bytes_high_first 6 m.sent in
    let echo_sent = sent ++ bytes_high_first 6 (echo_sent m.echo) in
    let echo_came = echo_sent ++ bytes_high_first 6 (echo_came m.echo) in
    let a = echo_came ++ bytes_high_first 2 (cast_unsigned w16 m.phases.a) in
    let b = a ++ bytes_high_first 2 (cast_unsigned w16 m.phases.b) in
    let fields = then-number b 2 (cast_unsigned w16 m.phases.c)
    (then-number a 2 (cast_unsigned w16 m.phases.b)
    (then-number echo_came 2 (cast_unsigned w16 m.phases.a)
    (then-number echo_sent 6 _ (then-number sent 6 _ (then-number number 6 m.sent (AreBytes-number 4 m.number)))))) in
    (omega arith, (omega arith, (omega (arith, h.from.1, h.to.1), (flags_of-lt m.echo, fields))))

check-lt : (m : Contents) → IsMessage m → check_of (unchecked m) < 2 ^ 32
check-lt m h =
    let bytes = unchecked-bytes m h in
    IsCheck-lt (unchecked m) (check_of (unchecked m)) (check_of-is (unchecked m) bytes)

spelled-bytes : (m : Contents) → IsMessage m → AreBytes (spelled m)
spelled-bytes m h = then-number (unchecked m) 4 (check_of (unchecked m)) (unchecked-bytes m h)

-- the bytes of a message spell it
pub spelled-is : (m : Contents) → IsMessage m → FitPhases m.phases → MessageOf (spelled m) m
spelled-is m h fit = MessageOf-spelled m h fit (check-lt m h)

-- so they are found at the front of a line
pub told-spelled : (m : Contents) (line : List (Option ℕ)) → IsMessage m → FitPhases m.phases → told relay_layout (cells (spelled m) ++ line) ≡ Ok m ∷ told relay_layout line
told-spelled m line h fit =
    told-message relay_layout (spelled m) line m (omega arith) (omega arith) (ap Some (read-MessageOf (spelled m) m h (spelled-is m h fit)))

-- bytes that spell a message end in their check
bytes-at : (bytes : List ℕ) → AreBytes bytes → (i : ℕ) → get_or bytes i 0 < 256
bytes-at [] h i = omega arith
bytes-at (byte ∷ bytes) h zero = h.0
bytes-at (byte ∷ bytes) h (suc i) = bytes-at bytes h.1 i

last-four : (bytes : List ℕ) → AreBytes bytes → length bytes ≡ 36 → bytes ≡ take 32 bytes ++ bytes_high_first 4 (number_at 32 4 bytes)
last-four bytes h long =
    let last = drop 32 bytes in
    let number : number_at 32 4 bytes ≡ number_at 0 4 last =
    rw (get_or-drop 32 bytes 0 0, get_or-drop 32 bytes 1 0, get_or-drop 32 bytes 2 0, get_or-drop 32 bytes 3 0) refl in
    let count : length last ≡ 4 = omega (arith, length-drop 32 bytes) in
    sym (take-append-drop 32 bytes)
    ∙ ap (λ xs. take 32 bytes ++ xs) (sym (be_bytes_4 last (number_at 32 4 bytes) count (λ i. subst (λ n. n < 256) (sym (get_or-drop 32 bytes i 0)) (bytes-at bytes h (32 + i))) number))

EndsInCheck-spelled : (bytes : List ℕ) (m : Contents) → AreBytes bytes → MessageOf bytes m → EndsInCheck bytes
EndsInCheck-spelled bytes m h p =
    let first = (AreBytes-parts (take 32 bytes) (drop 32 bytes) (subst AreBytes (sym (take-append-drop 32 bytes)) h)).0 in
    record {
      front = take 32 bytes;
      check = number_at 32 4 bytes;
      is = last-four bytes h p.long;
      checked = subst (IsCheck (take 32 bytes)) (sym p.check) (check_of-is (take 32 bytes) first);
    }

-- so damage within four bytes leaves no message
pub damage-refused : (m other : Contents) (front damaged sent back : List ℕ) → IsMessage m → FitPhases m.phases → spelled m ≡ front ++ (sent ++ back)
    → AreBytes damaged → length damaged ≡ length sent → length sent ≤ 4 → MessageOf (front ++ (damaged ++ back)) other → damaged ≡ sent
damage-refused m other front damaged sent back h fit e bytes l four p =
    let whole : AreBytes (front ++ (sent ++ back)) = subst AreBytes e (spelled-bytes m h) in
    let outer = AreBytes-parts front (sent ++ back) whole in
    let inner = AreBytes-parts sent back outer.1 in
    let others = AreBytes-append front (damaged ++ back) outer.0 (AreBytes-append damaged back bytes inner.1) in
    damage-of-checked front damaged sent back bytes inner.0 inner.1 l four
    (EndsInCheck-spelled (front ++ (sent ++ back)) m whole (subst (λ xs. MessageOf xs m) e (spelled-is m h fit)))
    (EndsInCheck-spelled (front ++ (damaged ++ back)) other others p)

-- numbers by their bytes
two-cells : (a b : ℕ) (z : ℤ) → AreBytes (a ∷ b ∷ []) → cast_signed w16 (number_at 0 2 (a ∷ b ∷ [])) ≡ z → bytes_high_first 2 (cast_unsigned w16 z) ≡ a ∷ b ∷ []
two-cells a b z h e =
    let few : number_at 0 2 (a ∷ b ∷ []) < 2 ^ 16 = omega (arith, h.0, h.1.0) in
    be_bytes_2 (a ∷ b ∷ []) (cast_unsigned w16 z) refl (bytes-at (a ∷ b ∷ []) h) (ap (cast_unsigned w16) (sym e) ∙ of_z-to_z w16 (number_at 0 2 (a ∷ b ∷ [])) few)

four-cells : (a b c d n : ℕ) → AreBytes (a ∷ b ∷ c ∷ d ∷ []) → number_at 0 4 (a ∷ b ∷ c ∷ d ∷ []) ≡ n → bytes_high_first 4 n ≡ a ∷ b ∷ c ∷ d ∷ []
four-cells a b c d n h e = be_bytes_4 (a ∷ b ∷ c ∷ d ∷ []) n refl (bytes-at (a ∷ b ∷ c ∷ d ∷ []) h) (sym e)

six-cells : (a b c d e f n : ℕ) → AreBytes (a ∷ b ∷ c ∷ d ∷ e ∷ f ∷ []) → number_at 0 6 (a ∷ b ∷ c ∷ d ∷ e ∷ f ∷ []) ≡ n
    → bytes_high_first 6 n ≡ a ∷ b ∷ c ∷ d ∷ e ∷ f ∷ []
six-cells a b c d e f n h is =
    let eight = 0 ∷ 0 ∷ a ∷ b ∷ c ∷ d ∷ e ∷ f ∷ [] in
    ap (drop 2) (be_bytes_8 eight n refl (bytes-at eight (omega arith, (omega arith, h))) (omega (arith, is)))

-- a list of 36 by its places
abbrev placed : List ℕ → List ℕ
placed bytes = map (λ i. get_or bytes i 0) (range_with_len 0 36)

placed-is : (bytes : List ℕ) → length bytes ≡ 36 → bytes ≡ placed bytes
placed-is bytes long =
    let at = λ (i : ℕ). get_or bytes i 0 in
    ext_get_or 0 bytes (placed bytes) (long ∙ sym (length-map-range_with_len at 0 36))
    (λ i lt. sym (get_or-map-range_with_len at 0 36 i i 0 (omega arith) (omega arith)))

-- the bytes in front of the check, by their fields
abbrev fields : ℕ → ℕ → ℕ → ℕ → List ℕ → List ℕ → List ℕ → List ℕ → List ℕ → List ℕ → List ℕ → List ℕ
fields marker marker' address flags number sent echo_sent echo_came a b c =
    marker ∷ marker' ∷ address ∷ flags ∷ (number ++ sent ++ echo_sent ++ echo_came ++ a ++ b ++ c)

fields-same : (m m' n n' a a' f f' : ℕ) (xs xs' ys ys' zs zs' us us' vs vs' bs bs' cs cs' : List ℕ) → m ≡ m' → n ≡ n' → a ≡ a' → f ≡ f'
    → xs ≡ xs' → ys ≡ ys' → zs ≡ zs' → us ≡ us' → vs ≡ vs' → bs ≡ bs' → cs ≡ cs' → fields m n a f xs ys zs us vs bs cs ≡ fields m' n' a' f' xs' ys' zs' us' vs' bs' cs'
fields-same m m' n n' a a' f f' xs xs' ys ys' zs zs' us us' vs vs' bs bs' cs cs' e1 e2 e3 e4 e5 e6 e7 e8 e9 e10 e11 = cc

-- bytes that spell a message are its bytes
unchecked-only : (bytes : List ℕ) (m : Contents) → AreBytes bytes → MessageOf bytes m → take 32 (placed bytes) ≡ unchecked m
unchecked-only bytes m h p =
    let fits = bytes-at bytes h in
    sym (fields-same _ _ _ _ _ _ _ _ _ _ _ _ _ _ _ _ _ _ _ _ _ _
    (sym p.marker.0) (sym p.marker.1) (sym p.address) (sym p.flags)
    (four-cells _ _ _ _ m.number (fits 4, (fits 5, (fits 6, (fits 7, tt)))) p.number)
    (six-cells _ _ _ _ _ _ m.sent (fits 8, (fits 9, (fits 10, (fits 11, (fits 12, (fits 13, tt)))))) p.sent)
    (six-cells _ _ _ _ _ _ (echo_sent m.echo) (fits 14, (fits 15, (fits 16, (fits 17, (fits 18, (fits 19, tt)))))) p.echo_sent)
    (six-cells _ _ _ _ _ _ (echo_came m.echo) (fits 20, (fits 21, (fits 22, (fits 23, (fits 24, (fits 25, tt)))))) p.echo_came)
    (two-cells _ _ m.phases.a (fits 26, (fits 27, tt)) p.a)
    (two-cells _ _ m.phases.b (fits 28, (fits 29, tt)) p.b)
    (two-cells _ _ m.phases.c (fits 30, (fits 31, tt)) p.c))

pub spelled-only : (bytes : List ℕ) (m : Contents) → AreBytes bytes → MessageOf bytes m → bytes ≡ spelled m
spelled-only bytes m h p =
    let first : take 32 bytes ≡ unchecked m = ap (take 32) (placed-is bytes p.long) ∙ unchecked-only bytes m h p in
    last-four bytes h p.long
    ∙ ap (λ n. take 32 bytes ++ bytes_high_first 4 n) p.check
    ∙ ap (λ xs. xs ++ bytes_high_first 4 (check_of xs)) first
