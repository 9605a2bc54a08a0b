-- The frames that are sent: each has 256 bits, each of which is 0 or 1.
use Rattle.std.proofs.Common.{◌≡◌, ℕ, zero, suc, ◌+◌, ◌*◌, ◌-◌, ◌≤◌, ◌<◌, Bool, true, false, not, List, [], ◌∷◌, ◌++◌, All, flat_map, get_or, length, length-append, map, replicate, take, take_all, unwrap_or, arith, ap, subst, ◌∙◌}
use Rattle.std.specs.Int.{bit_at}
use Rattle.std.proofs.Math.Seq.{drop-append_seam, take-append-add, take-append_seam}
use Rattle.std.proofs.lemmas.List.{length-replicate, length-take}
use Rattle.std.proofs.lemmas.List.Elements.{All-cons, All-head, All-nil, All-tail}
use Rattle.std.proofs.lemmas.Nat.Bits.{bit_at-lt}
use Rattle.ld_base.specs.Bits.{bit_of}
use Rattle.ld_base.specs.Words.{HeaderWords}
use Rattle.ld_base.specs.declared.fields.Fields.{Fields}
use Rattle.ld_base.specs.Message.{Contents}
use Rattle.c3794_frame.specs.Frame.{filled}
use Rattle.c3794_frame.specs.FrameOf.{Layout, data_bits, frame_bits, with_complement, word}
use Rattle.c3794_frame.specs.Numbers.{AreBits, bits_of, number_bits}
use Rattle.c3794_frame.proofs.Numbers.{are_append, are_bits_of, are_drop, are_take}
use Rattle.c3794_frame.proofs.Sent.{length-frame_bits}
use Rattle.payload_map.specs.Messages.{relay_slots}
use Rattle.payload_map.specs.Sent.{Slot, frame_at, frames_from, left_after}
use Rattle.relay_core.specs.Line.{bits_from, Line, rules_of}
use Rattle.relay_core.specs.declared.call.Call.{Call}
use Rattle.relay_core.specs.Sent.{frames_sent}

-- bits, one by one
are_none : AreBits []
are_none = record { each = λ i. omega arith }

are_one : (b : ℕ) → b < 2 → AreBits (b ∷ [])
are_one b small = record { each = each }
  where
    each : (i : ℕ) → get_or (b ∷ []) i 0 < 2
    each zero = small
    each (suc i) = omega arith

-- those of a number, of zeros, and of pairs
number-are : (k n : ℕ) → AreBits (number_bits k n)
number-are zero n = are_none
number-are (suc k) n = are_append (bit_at n k ∷ []) (number_bits k n) (are_one (bit_at n k) (bit_at-lt n k)) (number-are k n)

zeros-are : (k : ℕ) → AreBits (replicate k 0)
zeros-are zero = are_none
zeros-are (suc k) = are_append (0 ∷ []) (replicate k 0) (are_one 0 (omega arith)) (zeros-are k)

pairs-are : (bits : List ℕ) → AreBits bits → AreBits (flat_map with_complement bits)
pairs-are [] are = are_none
pairs-are (b ∷ bits) are =
    let first : b < 2 = are.each 0 in
    are_append (b ∷ []) ((1 - b) ∷ flat_map with_complement bits) (are_one b first)
    (are_append ((1 - b) ∷ []) (flat_map with_complement bits) (are_one (1 - b) (omega arith)) (pairs-are bits (are_drop 1 (b ∷ bits) are)))

-- so those of a frame
yellow-small : (yellow : Bool) → bit_of yellow < 2
yellow-small true = omega arith
yellow-small false = omega arith

frame-are : (words : HeaderWords) (frame : Layout) → AreBits (frame_bits words frame)
unfolding frame_bits
frame-are words frame =
    are_append (number_bits 16 (word words frame.odd)) (flat_map with_complement (data_bits frame)) (number-are 16 (word words frame.odd))
    (pairs-are (data_bits frame)
    (are_append (number_bits 4 frame.channels) (bit_of frame.yellow ∷ (replicate 19 0 ++ bits_of frame.payload)) (number-are 4 frame.channels)
    (are_append (bit_of frame.yellow ∷ []) (replicate 19 0 ++ bits_of frame.payload) (are_one (bit_of frame.yellow) (yellow-small frame.yellow))
    (are_append (replicate 19 0) (bits_of frame.payload) (zeros-are 19) (are_bits_of frame.payload)))))

-- a frame of at most twelve channels has twelve bytes of payload
twelve-filled : (n : ℕ) (bytes : List ℕ) → n ≤ 12 → length (filled (take n bytes)) ≡ 12
twelve-filled n bytes few =
    let next : List ℕ = take n bytes in
    let short : length next ≤ n = omega (arith, length-take n bytes) in
    omega (arith, short, few, length-append next (replicate (12 - length next) 255), length-replicate {A = ℕ} (12 - length next) 255)

-- what is so of the frames that are sent
pub record IsSent (bits : List ℕ) : Type 0 where
  pub are : AreBits bits
  pub long : length bits ≡ 256

frames-are : (words : HeaderWords) (n : ℕ) (odd : Bool) (left : List ℕ) (slots : List (Slot (List ℕ))) → n ≤ 12
    → All IsSent (map (frame_bits words) (frames_from n odd left slots))
unfolding frames_from
frames-are words n odd left [] few = All-nil IsSent
frames-are words n odd left (slot ∷ slots) few =
    let frame : Layout = frame_at n odd left slot in
    All-cons IsSent (frame_bits words frame) (map (frame_bits words) (frames_from n (not odd) (left_after n left slot) slots))
    (record { are = frame-are words frame; long = length-frame_bits words frame (twelve-filled n (unwrap_or slot.loaded left) few) })
    (frames-are words n (not odd) (left_after n left slot) slots few)

pub sent-are : (f : Fields) (slots : List (Slot Contents)) → f.channels ≤ 12 → All IsSent (frames_sent f slots)
sent-are f slots few = frames-are (rules_of f).words f.channels false [] (relay_slots slots) few

-- and of frames joined
pub joined-are : (frames : List (List ℕ)) → All IsSent frames → AreBits (flat_map (λ bits. bits) frames)
joined-are [] all = are_none
joined-are (frame ∷ frames) all =
    are_append frame (flat_map (λ bits. bits) frames) (All-head IsSent frame frames all).are (joined-are frames (All-tail IsSent frame frames all))

pub joined-front : (n : ℕ) (frames : List (List ℕ)) → All IsSent frames → take (256 * n) (flat_map (λ bits. bits) frames) ≡ flat_map (λ bits. bits) (take n frames)
joined-front zero frames all = let none : 256 * 0 ≡ 0 = omega arith in ap (λ (k : ℕ). take k (flat_map (λ bits. bits) frames)) none
joined-front (suc n) [] all = take_all (256 * suc n) [] (omega arith)
joined-front (suc n) (frame ∷ frames) all =
    let rest : List ℕ = flat_map (λ bits. bits) frames in
    let size : 256 * suc n ≡ length frame + 256 * n = omega (arith, (All-head IsSent frame frames all).long) in
    ap (λ (k : ℕ). take k (frame ++ rest)) size
    ∙ take-append-add frame rest (256 * n)
    ∙ ap (λ (bits : List ℕ). frame ++ bits) (joined-front n frames (All-tail IsSent frame frames all))

-- where the line from a peer has bits, each call brings bits of it
pub calls-bring : (peer : ℕ) (log : List Call) → AreBits (Line peer log) → All (λ call. AreBits (bits_from peer call)) log
calls-bring peer [] are = All-nil (λ call. AreBits (bits_from peer call))
calls-bring peer (call ∷ log) are =
    let here : List ℕ = bits_from peer call in
    let rest : List ℕ = Line peer log in
    All-cons (λ call. AreBits (bits_from peer call)) call log
    (subst AreBits (take-append_seam here rest) (are_take (length here) (here ++ rest) are))
    (calls-bring peer log (subst AreBits (drop-append_seam here rest) (are_drop (length here) (here ++ rest) are)))
