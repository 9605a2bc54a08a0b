-- A stream of frames with alternating header words.
use Rattle.std.specs.Prelude.{◌≡◌, ℕ, ◌+◌, ◌≤◌, Bool, not, List, [], ◌++◌, length, drop}
use Rattle.ld_base.specs.Words.{HeaderWords}
use Rattle.c3794_frame.specs.FrameOf.{FrameOf, Layout, header_of, word}

-- these bits are frames, one after the other, whose header words alternate from this one
pub data IsStream (words : HeaderWords) : Bool → List ℕ → Type 0 where
  ends : (odd : Bool) → IsStream words odd []
  goes_on : (odd : Bool) (bits rest : List ℕ) (f : Layout) → f.odd ≡ odd → FrameOf words bits f
      → IsStream words (not odd) rest → IsStream words odd (bits ++ rest)

-- a header word stands at a place of a line, all its bits being there
pub record WordStands (words : HeaderWords) (bits : List ℕ) (p : ℕ) (odd : Bool) : Type 0 where
  pub within : p + 16 ≤ length bits
  pub there : header_of (drop p bits) ≡ word words odd
