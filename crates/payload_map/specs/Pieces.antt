-- The pieces of a line: what its frames give of the payload.
use Rattle.std.specs.Prelude.{ℕ, ◌≤◌, List, map, take, Option, Some, None}
use Rattle.ld_base.specs.Words.{AreWords}
use Rattle.c3794_frame.specs.FrameOf.{Layout}
use Rattle.bit_sync.specs.Frames.{Rules, frames, gots}
use Rattle.bit_sync.specs.declared.told.Got.{Got}
use Rattle.bit_sync.specs.declared.told.Got.TheVariants.{Good, Bad}

-- the piece of a frame: a byte for each channel
abbrev pub piece_sent : ℕ → Layout → Option (List ℕ)
piece_sent channels f = Some (take channels f.payload)

-- the piece of what is got where a frame ends: that of a good frame, and a gap for a bad one
abbrev pub piece_of : ℕ → Got → Option (List ℕ)
piece_of channels (Good f) = piece_sent channels f
piece_of channels (Bad fault) = None

-- the pieces of a line: those of all its frames, by the rules for reading it
abbrev pub pieces : Rules → List ℕ → List (Option (List ℕ))
pieces rules line = map (piece_of rules.channels) (gots (frames rules line).events)

-- rules by which a line can be read
pub record AreRules (rules : Rules) : Type 0 where
  pub words : AreWords rules.words
  pub misses : 1 ≤ rules.misses
  pub channels : (1 ≤ rules.channels) × (rules.channels ≤ 12)
