-- Frames: what is read on a line, as a search over all its bits. (This project's own rule.)
use Rattle.std.specs.Prelude.{ℕ, zero, suc, ◌+◌, ◌-◌, ◌/◌, Bool, true, false, not, ◌&&◌, ◌||◌, ◌==◌, nat_le, if◌then◌else◌, List, [], ◌∷◌, ◌++◌, length, take, drop, find, Option, Some, None, option_map, Result, Ok, Err}
use Rattle.std.specs.List.{range_with_len}
use Rattle.ld_base.specs.Words.{HeaderWords}
use Rattle.c3794_frame.specs.FrameOf.{Layout, header_of, word}
use Rattle.c3794_frame.specs.Reading.{read_frame}
use Rattle.c3794_frame.specs.declared.decoding.FrameFault.{FrameFault}
use Rattle.c3794_frame.specs.declared.decoding.FrameFault.TheVariants.{Header}
use Rattle.bit_sync.specs.declared.told.Got.{Got}
use Rattle.bit_sync.specs.declared.told.Got.TheVariants.{Good, Bad}

-- how a line is read: its header words, how many misses in a row end a lock, and the count of channels
pub record Rules : Type 0 where
  pub words : HeaderWords
  pub misses : ℕ
  pub channels : ℕ

-- what happens on a line, with the count of bits that have come by then
pub data Event : Type 0 where
  locks : (at : ℕ) → Event
  ends : (at : ℕ) (got : Got) → Event
  loses : (at : ℕ) → Event

-- where a reading stands: it hunts from a bit on, or it is locked, and the present frame begins at a bit and is expected
-- with that word, after so many misses in a row
pub data Place : Type 0 where
  hunts : (from : ℕ) → Place
  locked : (at : ℕ) (odd : Bool) (missed : ℕ) → Place

-- what was read, and where the reading stands then
pub record Reading : Type 0 where
  pub events : List Event
  pub place : Place

-- whether two numbers are one header word and the other
abbrev pub are_both : HeaderWords → ℕ → ℕ → Bool
are_both words first second = ((first == word words true) && (second == word words false)) || ((first == word words false) && (second == word words true))

-- whether one header word stands at a bit, and the other 256 bits on
abbrev pub locks_at : HeaderWords → List ℕ → ℕ → Bool
locks_at words bits p = are_both words (header_of (drop p bits)) (header_of (drop (p + 256) bits))

-- the least such bit from one on, all the bits of both words being there
unfoldable pub lock_from : HeaderWords → List ℕ → ℕ → Option ℕ
lock_from words bits h = find (locks_at words bits) (range_with_len h (length bits - 271 - h))

-- what is got where a frame or a fault is read
abbrev pub as_got : Result Layout FrameFault → Got
as_got (Ok f) = Good f
as_got (Err fault) = Bad fault

-- what is got of the bits of a frame with its expected word, or without it: then its header is bad, whatever stands there
abbrev pub got_if : Bool → HeaderWords → ℕ → List ℕ → Got
got_if true words channels frame = as_got (read_frame words channels frame)
got_if false words channels frame = Bad Header

-- what is got of the bits of a frame
abbrev pub got : Rules → Bool → List ℕ → Got
got r odd frame = got_if (header_of frame == word r.words odd) r.words r.channels frame

-- the misses in a row after it: only a frame without its expected word is a miss
abbrev pub missed_after : Rules → Bool → List ℕ → ℕ → ℕ
missed_after r odd frame missed = if header_of frame == word r.words odd then 0 else missed + 1

-- what happens where a frame ends after so many misses: the last of the misses ends the lock
abbrev pub ending : Rules → ℕ → Got → ℕ → List Event
ending r at got missed = if nat_le r.misses missed then ends at got ∷ loses at ∷ [] else ends at got ∷ []

-- where the reading stands then
abbrev pub place_after : Rules → ℕ → Bool → ℕ → Place
place_after r at odd missed = if nat_le r.misses missed then hunts at else locked at (not odd) missed

-- a lock at a bit: the frames are those from 256 bits on, and the first is expected with the word that stands there
abbrev pub lock_made : Rules → List ℕ → ℕ → Reading
lock_made r bits p = record { events = locks (p + 272) ∷ []; place = locked (p + 256) (header_of (drop (p + 256) bits) == word r.words true) 0 }

-- the end of a frame that begins at a bit
abbrev pub frame_judged : Rules → ℕ → Bool → ℕ → List ℕ → Reading
frame_judged r at odd missed frame = record {
  events = ending r (at + 256) (got r odd frame) (missed_after r odd frame missed);
  place = place_after r (at + 256) odd (missed_after r odd frame missed);
}

-- what comes next, where all the bits for it are there
abbrev pub onward : Rules → List ℕ → Place → Option Reading
onward r bits (hunts h) = option_map (lock_made r bits) (lock_from r.words bits h)
onward r bits (locked at odd missed) = if nat_le (at + 256) (length bits) then Some (frame_judged r at odd missed (take 256 (drop at bits))) else None

-- a reading with one step more
abbrev pub with_step : Reading → Option Reading → Reading
with_step s None = s
with_step s (Some step) = record { events = s.events ++ step.events; place = step.place }

-- a reading after so many steps
unfoldable pub steps : ℕ → Rules → List ℕ → Reading → Reading
steps zero r bits s = s
steps (suc n) r bits s = steps n r bits (with_step s (onward r bits s.place))

-- nothing is read yet
abbrev pub unread : Reading
unread = record { events = []; place = hunts 0 }

-- the reading of a line: each step takes at least 256 bits
unfoldable pub frames : Rules → List ℕ → Reading
frames r bits = steps (length bits / 256) r bits unread

-- the frames alone, good and bad
abbrev pub gots : List Event → List Got
gots [] = []
gots (locks at ∷ events) = gots events
gots (ends at g ∷ events) = g ∷ gots events
gots (loses at ∷ events) = gots events

-- whether the reading has a lock
abbrev pub is_locked : Place → Bool
is_locked (hunts h) = false
is_locked (locked at odd missed) = true

-- the bit from which on the reading goes on
abbrev pub position : Place → ℕ
position (hunts h) = h
position (locked at odd missed) = at

-- the frame of some bits, as a list
abbrev pub listed : Option Got → List Got
listed None = []
listed (Some got) = got ∷ []

-- what happens while up to 256 bits come, by where the reading stands before and after them and the frame that ends among
-- them: a lock is made sixteen bits into its first frame, and that frame may end among the same bits
abbrev pub gained : Place → Place → Option Got → List Event
gained (hunts h) (hunts h') frame = []
gained (hunts h) (locked at odd missed) None = locks (at + 16) ∷ []
gained (hunts h) (locked at odd missed) (Some got) = locks (at - 240) ∷ ends at got ∷ []
gained (locked at odd missed) place None = []
gained (locked at odd missed) (locked at' odd' missed') (Some got) = ends (at + 256) got ∷ []
gained (locked at odd missed) (hunts h) (Some got) = ends (at + 256) got ∷ loses (at + 256) ∷ []
