-- Sent, of which here stands what speaks of frames, words and payload: what a sender's slots carry. (This project's own.)
use Rattle.std.specs.Prelude.{◌≡◌, ℕ, suc, ◌*◌, Bool, false, not, nat_le, if◌then◌else◌, List, [], ◌∷◌, ◌++◌, length, drop, take, map, fold, Option, Some, None, IsSome, option_map, unwrap_or}
use Rattle.std.specs.List.{flat_map}
use Rattle.ld_base.specs.Words.{HeaderWords}
use Rattle.c3794_frame.specs.Frame.{filled}
use Rattle.c3794_frame.specs.FrameOf.{Layout, frame_bits}

-- a slot: the message that was loaded for it, where one was, and the yellow bit of its frame
pub record Slot (M : Type 0) : Type 0 where
  pub loaded : Option M
  pub yellow : Bool

-- the same with the bytes of the message
abbrev pub spelled_slot : {M : Type 0} → (M → List ℕ) → Slot M → Slot (List ℕ)
spelled_slot spell slot = record { loaded = option_map spell slot.loaded; yellow = slot.yellow }

-- what is left after a slot of the bytes that were left before it, each channel carrying one
abbrev pub left_after : ℕ → List ℕ → Slot (List ℕ) → List ℕ
left_after channels left slot = drop channels (unwrap_or slot.loaded left)

-- the bytes of the message in flight that some slots have left
abbrev pub unsent : ℕ → List (Slot (List ℕ)) → List ℕ
unsent channels slots = fold (left_after channels) [] slots

-- the frame of a slot: the next bytes, filled up with 0xFF
abbrev pub frame_at : ℕ → Bool → List ℕ → Slot (List ℕ) → Layout
frame_at channels odd left slot = record { odd = odd; channels = channels; yellow = slot.yellow; payload = filled (take channels (unwrap_or slot.loaded left)) }

-- the frames of slots, from this header word and what is left on: the words alternate
unfoldable pub frames_from : ℕ → Bool → List ℕ → List (Slot (List ℕ)) → List Layout
frames_from channels odd left [] = []
frames_from channels odd left (slot ∷ slots) = frame_at channels odd left slot ∷ frames_from channels (not odd) (left_after channels left slot) slots

-- the frames of a sender's slots: the first has word A, and nothing is left before it
abbrev pub frames : ℕ → List (Slot (List ℕ)) → List Layout
frames channels slots = frames_from channels false [] slots

-- and their bits
abbrev pub sent : HeaderWords → ℕ → List (Slot (List ℕ)) → List (List ℕ)
sent words channels slots = map (frame_bits words) (frames channels slots)

-- all of them, joined
abbrev pub line_sent : HeaderWords → ℕ → List (Slot (List ℕ)) → List ℕ
line_sent words channels slots = flat_map (λ bits. bits) (sent words channels slots)

-- each message was loaded when nothing was left of the one before it, of which these bytes are left before the first slot
abbrev pub AreInTurn : ℕ → List ℕ → List (Slot (List ℕ)) → Type 0
AreInTurn channels left [] = Unit {0}
AreInTurn channels left (slot ∷ slots) = (IsSome slot.loaded → left ≡ []) × AreInTurn channels (left_after channels left slot) slots

-- a message, where so many slots have room for all its bytes
abbrev pub carried : {M : Type 0} → (M → List ℕ) → ℕ → ℕ → Option M → List M
carried spell channels slots None = []
carried spell channels slots (Some m) = if nat_le (length (spell m)) (channels * slots) then m ∷ [] else []

-- the messages whose last byte was sent: those for which there is room from their own slot on
unfoldable pub whole : {M : Type 0} → (M → List ℕ) → ℕ → List (Slot M) → List M
whole spell channels [] = []
whole spell channels (slot ∷ slots) = carried spell channels (suc (length slots)) slot.loaded ++ whole spell channels slots
