-- What is found on a line that carries the frames that were sent, but for the first one.
use Rattle.std.proofs.Common.{◌≡◌, ℕ, zero, suc, ◌≤◌, Bool, true, not, All, List, [], ◌∷◌, ◌++◌, length, take, drop, map, None, option_map, unwrap_or, slice_get, refl, arith, sym, ap, ◌∙◌, subst}
use Rattle.std.specs.List.{AllByRecursion, take-map}
use Rattle.std.specs.Option.{ForSome}
use Rattle.std.proofs.Math.ListN.{drop_of_length-le}
use Rattle.std.proofs.lemmas.List.Elements.{recursion_from_All}
use Rattle.ld_base.specs.Message.{Contents}
use Rattle.c3794_frame.specs.FrameOf.{Layout}
use Rattle.bit_sync.specs.declared.told.Got.{Got}
use Rattle.bit_sync.specs.declared.told.Got.TheVariants.{Good}
use Rattle.relay_message.specs.MessageOf.{spelled}
use Rattle.relay_message.specs.Messages.{cells, line_of, messages, refusals, told}
use Rattle.relay_message.specs.Reading.{relay_layout}
use Rattle.payload_map.specs.Messages.{CanBeSent, relay_slots}
use Rattle.payload_map.specs.Pieces.{piece_of, piece_sent}
use Rattle.payload_map.specs.Sent.{AreInTurn, Slot, frame_at, frames, carried, frames_from, left_after, spelled_slot, whole}
use Rattle.payload_map.proofs.Found.{all-found, found-in}
use Rattle.payload_map.proofs.Payloads.{Hunts, found, tells}

-- the frames of the first slots are the first frames
frames-take : (n : ℕ) (odd : Bool) (left : List ℕ) (count : ℕ) (slots : List (Slot (List ℕ))) → take count (frames_from n odd left slots) ≡ frames_from n odd left (take count slots)
unfolding frames_from
frames-take n odd left zero slots = refl
frames-take n odd left (suc count) [] = refl
frames-take n odd left (suc count) (slot ∷ slots) = ap (λ fs. frame_at n odd left slot ∷ fs) (frames-take n (not odd) (left_after n left slot) count slots)

-- first slots are in turn
in_turn-take : (n : ℕ) (left : List ℕ) (count : ℕ) (slots : List (Slot (List ℕ))) → AreInTurn n left slots → AreInTurn n left (take count slots)
in_turn-take n left zero slots turn = tt
in_turn-take n left (suc count) [] turn = tt
in_turn-take n left (suc count) (slot ∷ slots) turn = (turn.0, in_turn-take n (left_after n left slot) count slots turn.1)

-- what holds of each holds of the first ones
pub all-take : {A : Type 0} (P : A → Type 0) (count : ℕ) (xs : List A) → AllByRecursion P xs → AllByRecursion P (take count xs)
all-take P zero xs all = tt
all-take P (suc count) [] all = tt
all-take P (suc count) (x ∷ xs) all = (all.0, all-take P count xs all.1)

-- the cells of good frames
good-line : (n : ℕ) (fs : List Layout) → line_of (map (piece_of n) (map (λ f. Good f) fs)) ≡ line_of (map (piece_sent n) fs)
good-line n [] = refl
good-line n (f ∷ fs) = ap (λ xs. cells (take n f.payload) ++ xs) (good-line n fs)

-- nothing is found on no line
nothing-found : (n : ℕ) → Hunts relay_layout spelled CanBeSent 36 → told relay_layout [] ≡ map found (whole spelled n [])
unfolding whole
nothing-found n hunts = hunts.few [] hunts.some

-- the frames got are those of the first slots, but for the very first
behind-first : (n : ℕ) (slots : List (Slot Contents)) (count : ℕ) → Hunts relay_layout spelled CanBeSent 36 → n ≤ 12
    → AllByRecursion (λ slot. ForSome slot.loaded CanBeSent) slots → AreInTurn n [] (relay_slots slots) → ForSome (slice_get slots 0) (λ slot. slot.loaded ≡ None)
    → told relay_layout (line_of (map (piece_of n) (map (λ f. Good f) (drop 1 (take count (frames n (relay_slots slots))))))) ≡ map found (whole spelled n (take count slots))
unfolding frames_from whole
behind-first n slots zero hunts few fine turn first = nothing-found n hunts
behind-first n [] (suc count) hunts few fine turn first = nothing-found n hunts
behind-first n (slot ∷ slots) (suc count) hunts few fine turn first =
    let none : slot.loaded ≡ None = first slot refl in
    let left : List ℕ = drop n (unwrap_or (option_map spelled slot.loaded) []) in
    let free : left ≡ [] = ap (λ loaded. drop n (unwrap_or (option_map spelled loaded) [])) none ∙ drop_of_length-le [] (omega arith) in
    let rest : List (Slot Contents) = take count slots in
    let fs : take count (frames_from n true left (relay_slots slots)) ≡ frames_from n true [] (relay_slots rest) =
    frames-take n true left count (relay_slots slots)
    ∙ ap (frames_from n true left) (take-map (spelled_slot spelled) count slots)
    ∙ ap (λ xs. frames_from n true xs (relay_slots rest)) free in
    let in_turn : AreInTurn n [] (relay_slots rest) =
    subst (AreInTurn n []) (take-map (spelled_slot spelled) count slots) (in_turn-take n [] count (relay_slots slots) (subst (λ xs. AreInTurn n xs (relay_slots slots)) free turn.1)) in
    let all = tells relay_layout spelled CanBeSent 36 n hunts few rest (all-take (λ s. ForSome s.loaded CanBeSent) count slots fine.1) in
    ap (λ xs. told relay_layout (line_of (map (piece_of n) (map (λ f. Good f) xs)))) fs
    ∙ ap (told relay_layout) (good-line n (frames_from n true [] (relay_slots rest)))
    ∙ found-in n true rest all in_turn
    ∙ ap (λ loaded. map found (carried spelled n (suc (length rest)) loaded ++ whole spelled n rest)) (sym none)

-- so are all messages whose last frame is among them
pub undamaged-found : (n : ℕ) (slots : List (Slot Contents)) (count : ℕ) (got : List Got) → Hunts relay_layout spelled CanBeSent 36 → n ≤ 12
    → All (λ slot. ForSome slot.loaded CanBeSent) slots → AreInTurn n [] (relay_slots slots) → ForSome (slice_get slots 0) (λ slot. slot.loaded ≡ None)
    → got ≡ map (λ f. Good f) (drop 1 (take count (frames n (relay_slots slots))))
    → (messages relay_layout (line_of (map (piece_of n) got)) ≡ whole spelled n (take count slots)) × (refusals relay_layout (line_of (map (piece_of n) got)) ≡ [])
undamaged-found n slots count got hunts few fine turn first e =
    let found_behind = behind-first n slots count hunts few (recursion_from_All (λ slot. ForSome slot.loaded CanBeSent) slots fine) turn first in
    all-found (line_of (map (piece_of n) got)) (whole spelled n (take count slots)) (ap (λ xs. told relay_layout (line_of (map (piece_of n) xs))) e ∙ found_behind)
