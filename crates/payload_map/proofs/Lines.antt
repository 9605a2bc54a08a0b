-- The messages that come over an undamaged line.
use Rattle.std.proofs.Common.{◌≡◌, ℕ, zero, suc, ◌*◌, ◌/◌, ◌-◌, ◌≤◌, Bool, false, All, List, [], ◌∷◌, length, take, drop, map, None, slice_get, arith, ap, ◌∙◌}
use Rattle.std.specs.Option.{ForSome}
use Rattle.std.proofs.lemmas.List.{length-map, take_all}
use Rattle.std.proofs.lemmas.List.Elements.{recursion_from_All}
use Rattle.std.proofs.lemmas.List.Folds.{flat_map-map}
use Rattle.ld_base.specs.Message.{Contents}
use Rattle.ld_base.specs.Words.{AreWords}
use Rattle.c3794_frame.specs.FrameOf.{Layout, frame_bits}
use Rattle.bit_sync.specs.Frames.{Rules, frames as frames_read, gots}
use Rattle.bit_sync.specs.Undamaged.{AreSent, sent_bits}
use Rattle.bit_sync.specs.declared.told.Got.TheVariants.{Good}
use Rattle.relay_message.specs.MessageOf.{spelled}
use Rattle.relay_message.specs.Messages.{line_of, messages, refusals}
use Rattle.relay_message.specs.Reading.{relay_layout}
use Rattle.payload_map.specs.Messages.{CanBeSent, relay_slots}
use Rattle.payload_map.specs.Pieces.{AreRules, pieces}
use Rattle.payload_map.specs.Sent.{AreInTurn, Slot, frames, line_sent, spelled_slot, whole}
use Rattle.payload_map.proofs.Payloads.{Hunts}
use Rattle.payload_map.proofs.Sendable.{frames-sent, length-frames}
use Rattle.payload_map.proofs.Undamaged.{undamaged-found}

-- the first ones behind the first are the first ones, but for the first
take-behind : {A : Type 0} (k : ℕ) (xs : List A) → take (k - 1) (drop 1 xs) ≡ drop 1 (take k xs)
take-behind zero xs = let e : 0 - 1 ≡ 0 = omega arith in ap (λ i. take i (drop 1 xs)) e
take-behind (suc k) [] = take_all (suc k - 1) [] (omega arith)
take-behind (suc k) (x ∷ xs) = let e : suc k - 1 ≡ k = omega arith in ap (λ i. take i xs) e

-- those whose last frame has come whole
pub line-found : (r : Rules) (slots : List (Slot Contents)) (n : ℕ) → Hunts relay_layout spelled CanBeSent 36
    → ((odd : Bool) (fs : List Layout) (count : ℕ) → AreWords r.words → 1 ≤ r.misses → AreSent r.channels odd fs → count ≤ 256 * length fs
    → gots (frames_read r (take count (sent_bits r.words fs))).events ≡ map (λ f. Good f) (take (count / 256 - 1) (drop 1 fs)))
    → AreRules r → All (λ slot. ForSome slot.loaded CanBeSent) slots → AreInTurn r.channels [] (relay_slots slots)
    → ForSome (slice_get slots 0) (λ slot. slot.loaded ≡ None) → n ≤ 256 * length slots
    → (messages relay_layout (line_of (pieces r (take n (line_sent r.words r.channels (relay_slots slots))))) ≡ whole spelled r.channels (take (n / 256) slots))
    × (refusals relay_layout (line_of (pieces r (take n (line_sent r.words r.channels (relay_slots slots))))) ≡ [])
line-found r slots n hunts reads are fine turn first within =
    let fs : List Layout = frames r.channels (relay_slots slots) in
    let sent = frames-sent r.channels false [] slots are.channels.0 are.channels.1 tt (recursion_from_All (λ slot. ForSome slot.loaded CanBeSent) slots fine) in
    let count : length fs ≡ length slots = length-frames r.channels false [] (relay_slots slots) ∙ length-map slots (spelled_slot spelled) in
    let got = ap (λ bits. gots (frames_read r (take n bits)).events) (flat_map-map (λ bits. bits) (frame_bits r.words) fs)
    ∙ reads false fs n are.words are.misses sent (omega arith)
    ∙ ap (map (λ f. Good f)) (take-behind (n / 256) fs) in
    undamaged-found r.channels slots (n / 256) (gots (frames_read r (take n (line_sent r.words r.channels (relay_slots slots)))).events) hunts are.channels.1 fine turn first got
