-- What a receiver does with some bits more.
use Rattle.std.specs.Prelude.{◌≡◌, ℕ, ◌+◌, ◌/◌, ◌%◌, ◌^◌, ◌<◌, ◌≤◌, Bool, true, false, not, nat_le, if◌then◌else◌, is_some, List, ◌++◌, map, length, Option, Some, None}
use Rattle.std.specs.List.{range_with_len}
use Rattle.std.specs.Option.{ForSome}
use Rattle.ld_base.specs.Bits.{line_bit}
use Rattle.ld_base.specs.Words.{HeaderWords}
use Rattle.bit_sync.specs.Frames.{Rules, are_both, frames, gots, position}
pub use Rattle.bit_sync.specs.Frames.{listed}
use Rattle.bit_sync.specs.StandsFor.{Kept, StandsFor}
use Rattle.bit_sync.specs.declared.lock.Lock.{Lock}
use Rattle.bit_sync.specs.declared.profile.Profile.{Profile}
use Rattle.bit_sync.specs.declared.told.Got.{Got}

-- so many bits of bytes, from a place on
unfoldable pub some_bits : List ℕ → ℕ → ℕ → List ℕ
some_bits bytes at count = map (line_bit bytes) (range_with_len at count)

-- the rules of a line
abbrev pub rules : HeaderWords → ℕ → ℕ → Rules
rules words misses channels = record { words = words; misses = misses; channels = channels }

-- the rules of a profile
abbrev pub rules_of : Profile → Rules
rules_of p = rules p.words p.misses p.channels

-- what is kept with these rules
abbrev pub kept : Rules → Option Lock → ℕ → Kept
kept r lock register = record { rules = r; lock = lock; register = register }

-- some bits more: the receiver stands for the longer line, and the frame that is told is the one that ends there
pub record Takes (new : Kept) (line group : List ℕ) (got : Option Got) : Type 0 where
  pub stands : StandsFor new (line ++ group)
  pub told : gots (frames new.rules (line ++ group)).events ≡ gots (frames new.rules line).events ++ listed got
  pub later : position (frames new.rules line).place ≤ position (frames new.rules (line ++ group)).place
  pub whole : is_some got ≡ true → position (frames new.rules line).place + 256 ≤ length (line ++ group)
  pub past : is_some got ≡ true → length line < position (frames new.rules (line ++ group)).place

-- a lock as it can be kept: less than a frame is held, and fewer misses than end the lock
abbrev pub FitsLock : ℕ → Option Lock → Type 0
FitsLock misses lock = ForSome lock (λ l. (l.held < 256) × (l.missed < misses))

-- the lock after a frame
abbrev pub lock_after : ℕ → Bool → ℕ → Option Lock
lock_after misses odd missed = if nat_le misses missed then None else Some (record { odd = not odd; missed = missed; held = 0 })

-- sixteen bits of a number, so many bits from its end
abbrev pub window : ℕ → ℕ → ℕ
window n k = n / 2 ^ k % 2 ^ 16

-- both words stand in two numbers, so many bits from their ends, and not further from them
pub record IsEarliest (words : HeaderWords) (first second count k : ℕ) : Type 0 where
  pub within : k < count
  pub there : are_both words (window first k) (window second k) ≡ true
  pub before : (j : ℕ) → k < j → j < count → are_both words (window first j) (window second j) ≡ false

-- some bits of a chunk: the receiver stands for the line with them, and the frame is the one that ended among them
pub record Fills (new : Kept) (line more : List ℕ) (frame : Option Got) : Type 0 where
  pub stands : StandsFor new (line ++ more)
  pub told : gots (frames new.rules (line ++ more)).events ≡ gots (frames new.rules line).events ++ listed frame
  pub past : is_some frame ≡ true → length line < position (frames new.rules (line ++ more)).place
