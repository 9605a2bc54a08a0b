-- Relay messages in the payload of slots.
use Rattle.std.proofs.Common.{◌≡◌, ◌≢◌, ℕ, ◌<◌, ◌≤◌, Bool, false, All, List, [], ◌∷◌, ◌++◌, length, map, Option, Some, Ok, refl, arith, ap, ◌∙◌, lit<}
use Rattle.std.specs.List.{filter_map}
use Rattle.std.specs.Option.{ForSome}
use Rattle.std.specs.Result.{result_ok, result_err}
use Rattle.std.proofs.lemmas.List.Elements.{recursion_from_All}
use Rattle.std.proofs.lemmas.List.Folds.{flat_map-map}
use Rattle.ld_base.specs.Message.{Contents, IsMessage}
use Rattle.relay_message.specs.FitPhases.{FitPhases}
use Rattle.relay_message.specs.MessageOf.{MessageOf, spelled}
use Rattle.relay_message.specs.Messages.{cells, line_of, messages, piece_cells, refusals, told}
use Rattle.relay_message.specs.Reading.{relay_layout}
use Rattle.payload_map.specs.Messages.{CanBeSent, relay_slots}
use Rattle.payload_map.specs.Pieces.{piece_sent}
use Rattle.payload_map.specs.Sent.{AreInTurn, Slot, frames, frames_from, whole}
use Rattle.payload_map.proofs.Payloads.{Hunts, Tells, found, tells}

-- hunting relay messages, by the laws of that
pub relay-hunts : ((m : Contents) → IsMessage m → FitPhases m.phases → MessageOf (spelled m) m)
    → ((m : Contents) (line : List (Option ℕ)) → IsMessage m → FitPhases m.phases → told relay_layout (cells (spelled m) ++ line) ≡ Ok m ∷ told relay_layout line)
    → ((byte : ℕ) (line : List (Option ℕ)) → byte ≢ 0xD5 → told relay_layout (Some byte ∷ line) ≡ told relay_layout line)
    → ((bytes : List ℕ) → length bytes < 36 → told relay_layout (cells bytes) ≡ [])
    → Hunts relay_layout spelled CanBeSent 36
relay-hunts spelled_is first idle few = record {
  some = lit< tt;
  long = λ m fine. (spelled_is m fine.0 fine.1).long;
  idle = λ line. idle 255 line (λ e. absurd (omega (arith, e)));
  few = few;
  first = λ m line fine. first m line fine.0 fine.1;
}

-- what is found, and that nothing is refused
oks : {M F : Type 0} (ms : List M) → (filter_map result_ok (map (found {F = F}) ms) ≡ ms) × (filter_map result_err (map (found {F = F}) ms) ≡ [])
oks [] = (refl, refl)
oks (m ∷ ms) = let rest = oks ms in (ap (λ xs. m ∷ xs) rest.0, rest.1)

-- so are messages where nothing but messages is told
pub all-found : (line : List (Option ℕ)) (ms : List Contents) → told relay_layout line ≡ map found ms → (messages relay_layout line ≡ ms) × (refusals relay_layout line ≡ [])
all-found line ms e = (ap (filter_map result_ok) e ∙ (oks ms).0, ap (filter_map result_err) e ∙ (oks ms).1)

-- the pieces of the frames of slots, with nothing left before them
pub found-in : (n : ℕ) (odd : Bool) (slots : List (Slot Contents)) → Tells relay_layout spelled CanBeSent n slots → AreInTurn n [] (relay_slots slots)
    → told relay_layout (line_of (map (piece_sent n) (frames_from n odd [] (relay_slots slots)))) ≡ map found (whole spelled n slots)
found-in n odd slots all turn = ap (told relay_layout) (flat_map-map piece_cells (piece_sent n) (frames_from n odd [] (relay_slots slots))) ∙ all.free odd turn

-- what is found in them
pub relay-found : (n : ℕ) (slots : List (Slot Contents)) → Hunts relay_layout spelled CanBeSent 36 → n ≤ 12
    → All (λ slot. ForSome slot.loaded CanBeSent) slots → AreInTurn n [] (relay_slots slots)
    → (messages relay_layout (line_of (map (piece_sent n) (frames n (relay_slots slots)))) ≡ whole spelled n slots)
    × (refusals relay_layout (line_of (map (piece_sent n) (frames n (relay_slots slots)))) ≡ [])
relay-found n slots hunts few fine turn =
    let all = tells relay_layout spelled CanBeSent 36 n hunts few slots (recursion_from_All (λ slot. ForSome slot.loaded CanBeSent) slots fine) in
    all-found (line_of (map (piece_sent n) (frames n (relay_slots slots)))) (whole spelled n slots) (found-in n false slots all turn)
