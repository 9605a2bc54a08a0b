-- What bits of a line tell: messages whose stamps have six bytes.
use Rattle.std.proofs.Common.{◌≡◌, ℕ, zero, suc, ◌+◌, ◌^◌, ◌<◌, ◌≤◌, ◌/◌, Bool, true, false, cond, List, [], ◌∷◌, All, length, take, drop, map, get_or, Option, None, Some, Result, Ok, Err, arith, refl, ap, subst}
use Rattle.std.specs.Prelude.{◌==◌, nat_le, filter_map}
use Rattle.std.specs.Option.{option_and_then, option_to_list}
use Rattle.std.specs.Result.{result_ok}
use Rattle.std.proofs.lemmas.List.{length-drop, length-take}
use Rattle.std.proofs.lemmas.List.Elements.{All-append, All-cons, All-from_get_or, All-head, All-map, All-nil, All-tail, All-take}
use Rattle.ld_base.specs.Message.{Contents}
use Rattle.ld_base.specs.declared.fields.Fields.{Fields}
use Rattle.ld_base.specs.Words.{HeaderWords}
use Rattle.c3794_frame.specs.Frame.{IsFrame}
use Rattle.c3794_frame.specs.FrameOf.{Layout, header_of, word}
use Rattle.c3794_frame.specs.Numbers.{AreBits}
use Rattle.c3794_frame.specs.Reading.{read_frame}
use Rattle.c3794_frame.specs.declared.decoding.FrameFault.{FrameFault}
use Rattle.c3794_frame.proofs.Numbers.{are_drop, are_take}
use Rattle.c3794_frame.proofs.Readings.{read_is_frame}
use Rattle.bit_sync.specs.Frames.{Event, Place, Reading, Rules, as_got, ending, frames, got, got_if, gots, lock_from, lock_made, frame_judged, missed_after, onward, steps, unread, with_step}
use Rattle.bit_sync.specs.Frames.Event.{ends, locks, loses}
use Rattle.bit_sync.specs.Frames.Place.{hunts, locked}
use Rattle.bit_sync.specs.declared.told.Got.{Got}
use Rattle.bit_sync.specs.declared.told.Got.TheVariants.{Bad, Good}
use Rattle.bit_sync.proofs.Walks.{from_map, from_test, test_le}
use Rattle.relay_message.specs.Fields.{number_at}
use Rattle.relay_message.specs.Messages.{covered, front, line_of, piece_cells, told, told_at, told_behind}
use Rattle.relay_message.specs.Reading.{is_marked, read_message, relay_layout}
use Rattle.relay_message.specs.declared.fault.MessageFault.{MessageFault}
use Rattle.relay_message.proofs.Decoded.{MessageOf-read}
use Rattle.payload_map.specs.Pieces.{piece_of}
use Rattle.relay_core.specs.Line.{gots_on, messages_on, payload_on, rules_of}

-- a good frame has bytes
abbrev IsSound : Got → Type 0
IsSound (Good f) = IsFrame f
IsSound (Bad fault) = Unit {0}

abbrev EndsSound : Event → Type 0
EndsSound (locks at) = Unit {0}
EndsSound (ends at got) = IsSound got
EndsSound (loses at) = Unit {0}

-- so has each that is read of bits
read-sound : (words : HeaderWords) (channels : ℕ) (frame : List ℕ) (read : Result Layout FrameFault) → (1 ≤ channels) × (channels ≤ 12) → length frame ≡ 256 → AreBits frame
    → read_frame words channels frame ≡ read → IsSound (as_got read)
read-sound words channels frame (Ok f) few long are is = (read_is_frame words channels frame f few.0 few.1 long are is).0
read-sound words channels frame (Err fault) few long are is = tt

got-sound : (r : Rules) (odd : Bool) (frame : List ℕ) → (1 ≤ r.channels) × (r.channels ≤ 12) → length frame ≡ 256 → AreBits frame → IsSound (got r odd frame)
got-sound r odd frame few long are = go (header_of frame == word r.words odd)
  where
    go : (b : Bool) → IsSound (got_if b r.words r.channels frame)
    go true = read-sound r.words r.channels frame (read_frame r.words r.channels frame) few long are refl
    go false = tt

ending-sound : (r : Rules) (at missed : ℕ) (g : Got) → IsSound g → All EndsSound (ending r at g missed)
ending-sound r at missed g sound = go (nat_le r.misses missed)
  where
    go : (b : Bool) → All EndsSound (cond b (ends at g ∷ loses at ∷ []) (ends at g ∷ []))
    go true = All-cons EndsSound (ends at g) (loses at ∷ []) sound (All-cons EndsSound (loses at) [] tt (All-nil EndsSound))
    go false = All-cons EndsSound (ends at g) [] sound (All-nil EndsSound)

-- a step of the reading of bits
onward-sound : (r : Rules) (bits : List ℕ) (place : Place) (step : Reading) → (1 ≤ r.channels) × (r.channels ≤ 12)
    → AreBits bits → onward r bits place ≡ Some step → All EndsSound step.events
onward-sound r bits (hunts h) step few are is =
    let made = from_map (lock_made r bits) (lock_from r.words bits h) step is in
    subst (λ (s : Reading). All EndsSound s.events) made.2 (All-cons EndsSound (locks (made.0 + 272)) [] tt (All-nil EndsSound))
onward-sound r bits (locked at odd missed) step few are is =
    let frame : List ℕ = take 256 (drop at bits) in
    let judged = from_test (nat_le (at + 256) (length bits)) (frame_judged r at odd missed frame) step is in
    let within : at + 256 ≤ length bits = test_le (at + 256) (length bits) judged.0 in
    let long : length frame ≡ 256 = omega (arith, length-take 256 (drop at bits), length-drop at bits, within) in
    let sound = got-sound r odd frame few long (are_take 256 (drop at bits) (are_drop at bits are)) in
    subst (λ (s : Reading). All EndsSound s.events) judged.1 (ending-sound r (at + 256) (missed_after r odd frame missed) (got r odd frame) sound)

step-sound : (r : Rules) (bits : List ℕ) (s : Reading) (step : Option Reading) → (1 ≤ r.channels) × (r.channels ≤ 12) → AreBits bits → onward r bits s.place ≡ step
    → All EndsSound s.events → All EndsSound (with_step s step).events
step-sound r bits s None few are is all = all
step-sound r bits s (Some step) few are is all = All-append EndsSound s.events step.events all (onward-sound r bits s.place step few are is)

steps-sound : (n : ℕ) (r : Rules) (bits : List ℕ) (s : Reading) → (1 ≤ r.channels) × (r.channels ≤ 12)
    → AreBits bits → All EndsSound s.events → All EndsSound (steps n r bits s).events
unfolding steps
steps-sound zero r bits s few are all = all
steps-sound (suc n) r bits s few are all = steps-sound n r bits (with_step s (onward r bits s.place)) few are (step-sound r bits s (onward r bits s.place) few are refl all)

-- all frames
gots-sound : (events : List Event) → All EndsSound events → All IsSound (gots events)
gots-sound [] all = All-nil IsSound
gots-sound (locks at ∷ events) all = gots-sound events (All-tail EndsSound (locks at) events all)
gots-sound (ends at g ∷ events) all = All-cons IsSound g (gots events) (All-head EndsSound (ends at g) events all) (gots-sound events (All-tail EndsSound (ends at g) events all))
gots-sound (loses at ∷ events) all = gots-sound events (All-tail EndsSound (loses at) events all)

frames-sound : (r : Rules) (bits : List ℕ) → (1 ≤ r.channels) × (r.channels ≤ 12) → AreBits bits → All IsSound (gots (frames r bits).events)
unfolding frames
frames-sound r bits few are = gots-sound (steps (length bits / 256) r bits unread).events (steps-sound (length bits / 256) r bits unread few are (All-nil EndsSound))

-- a cell of a line is a byte or a gap
abbrev IsCell : Option ℕ → Type 0
IsCell None = Unit {0}
IsCell (Some byte) = byte < 256

bytes-each : (bytes : List ℕ) → ((k : ℕ) → get_or bytes k 0 < 256) → All (λ byte. byte < 256) bytes
bytes-each bytes each = All-from_get_or (λ byte. byte < 256) bytes 0 (λ k within. each k)

piece-cells : (channels : ℕ) (g : Got) → IsSound g → All IsCell (piece_cells (piece_of channels g))
piece-cells channels (Good f) sound = All-map IsCell (λ byte. Some byte) (take channels f.payload) (All-take (λ byte. byte < 256) channels f.payload (bytes-each f.payload sound.bytes))
piece-cells channels (Bad fault) sound = All-cons IsCell None [] tt (All-nil IsCell)

line-cells : (channels : ℕ) (found : List Got) → All IsSound found → All IsCell (line_of (map (piece_of channels) found))
line-cells channels [] all = All-nil IsCell
line-cells channels (g ∷ found) all =
    All-append IsCell (piece_cells (piece_of channels g)) (line_of (map (piece_of channels) found)) (piece-cells channels g (All-head IsSound g found all))
    (line-cells channels found (All-tail IsSound g found all))

-- so first cells without a gap are bytes
front-bytes : (count : ℕ) (line : List (Option ℕ)) (bytes : List ℕ) → All IsCell line → front count line ≡ Some bytes → (length bytes ≡ count) × All (λ byte. byte < 256) bytes
unfolding front
front-bytes zero line bytes all is = let none : [] ≡ bytes = cc in subst (λ bs. (length bs ≡ 0) × All (λ byte. byte < 256) bs) none (refl, All-nil (λ byte. byte < 256))
front-bytes (suc count) [] bytes all is = absurd (cc)
front-bytes (suc count) (None ∷ line) bytes all is = absurd (cc)
front-bytes (suc count) (Some byte ∷ line) bytes all is =
    let joined = from_map (λ bs. byte ∷ bs) (front count line) bytes is in
    let rest = front-bytes count line joined.0 (All-tail IsCell (Some byte) line all) joined.1 in
    subst (λ bs. (length bs ≡ suc count) × All (λ b. b < 256) bs) joined.2
    (ap suc rest.0, All-cons (λ b. b < 256) byte joined.0 (All-head IsCell (Some byte) line all) rest.1)

-- and a message in them has a stamp of six bytes
abbrev pub IsStamped : Contents → Type 0
IsStamped m = m.sent < 2 ^ 48

abbrev IsTold : Result Contents MessageFault → Type 0
IsTold (Ok m) = IsStamped m
IsTold (Err fault) = Unit {0}

six-bytes : (a b c d e f : ℕ) → a < 256 → b < 256 → c < 256 → d < 256 → e < 256 → f < 256 → number_at 0 6 (a ∷ b ∷ c ∷ d ∷ e ∷ f ∷ []) < 2 ^ 48
six-bytes a b c d e f la lb lc ld le lf = omega (arith, la, lb, lc, ld, le, lf)

stamp-bytes : (bytes : List ℕ) → length bytes ≡ 36 → All (λ byte. byte < 256) bytes → number_at 8 6 bytes < 2 ^ 48
stamp-bytes bytes long all =
    let each : (k : ℕ) → k < 36 → get_or bytes k 0 < 256 = λ k within. all k 0 (omega (arith, within, long)) in
    six-bytes (get_or bytes 8 0) (get_or bytes 9 0) (get_or bytes 10 0) (get_or bytes 11 0) (get_or bytes 12 0) (get_or bytes 13 0)
    (each 8 (omega arith)) (each 9 (omega arith)) (each 10 (omega arith)) (each 11 (omega arith)) (each 12 (omega arith)) (each 13 (omega arith))

read-told : (bytes : List ℕ) → length bytes ≡ 36 → All (λ byte. byte < 256) bytes → IsTold (read_message bytes)
read-told bytes long all = go (read_message bytes) refl
  where
    go : (read : Result Contents MessageFault) → read_message bytes ≡ read → IsTold read
    go (Ok m) is = subst (λ stamp. stamp < 2 ^ 48) (MessageOf-read bytes m long is).sent (stamp-bytes bytes long all)
    go (Err fault) is = tt

place-told : (line : List (Option ℕ)) → All IsCell line → All IsTold (option_to_list (told_at relay_layout line))
place-told line all = go (front 36 line) refl
  where
    read : (marked : Bool) (bytes : List ℕ) → IsTold (read_message bytes) → All IsTold (option_to_list (cond marked (Some (read_message bytes)) None))
    read true bytes told = All-cons IsTold (read_message bytes) [] told (All-nil IsTold)
    read false bytes told = All-nil IsTold

    go : (first : Option (List ℕ)) → front 36 line ≡ first → All IsTold (option_to_list (option_and_then relay_layout.read first))
    go None is = All-nil IsTold
    go (Some bytes) is = let are = front-bytes 36 line bytes all is in read (is_marked bytes) bytes (read-told bytes are.0 are.1)

told-stamped : (line : List (Option ℕ)) (skipped : ℕ) → All IsCell line → All IsTold (told_behind relay_layout line skipped)
unfolding told_behind
told-stamped [] skipped all = All-nil IsTold
told-stamped (cell ∷ line) (suc skipped) all = told-stamped line skipped (All-tail IsCell cell line all)
told-stamped (cell ∷ line) zero all =
    let test = told_at relay_layout (cell ∷ line) in
    let rest = covered 36 test in
    All-append IsTold (option_to_list test) (told_behind relay_layout line rest) (place-told (cell ∷ line) all) (told-stamped line rest (All-tail IsCell cell line all))

stamped : (tests : List (Result Contents MessageFault)) → All IsTold tests → All IsStamped (filter_map result_ok tests)
stamped [] all = All-nil IsStamped
stamped (Ok m ∷ tests) all = All-cons IsStamped m (filter_map result_ok tests) (All-head IsTold (Ok m) tests all) (stamped tests (All-tail IsTold (Ok m) tests all))
stamped (Err fault ∷ tests) all = stamped tests (All-tail IsTold (Err fault) tests all)

-- the messages of a line of bits
pub messages-stamped : (f : Fields) (line : List ℕ) → (1 ≤ f.channels) × (f.channels ≤ 12) → AreBits line → All IsStamped (messages_on f line)
messages-stamped f line few are =
    let cells = line-cells f.channels (gots_on f line) (frames-sound (rules_of f) line few are) in
    stamped (told relay_layout (payload_on f line)) (told-stamped (payload_on f line) 0 cells)
