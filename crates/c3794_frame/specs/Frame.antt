-- Which layouts are frames.
use Rattle.std.specs.Prelude.{◌≡◌, ℕ, ◌-◌, ◌<◌, ◌≤◌, List, ◌++◌, length, replicate, slice_index}
use Rattle.c3794_frame.specs.FrameOf.{Layout}

-- a frame has 1 to 12 channels and twelve bytes, those past the channels being 0xFF
pub record IsFrame (f : Layout) : Type 0 where
  pub some : 1 ≤ f.channels
  pub few : f.channels ≤ 12
  pub twelve : length f.payload ≡ 12
  pub bytes : (k : ℕ) → slice_index f.payload k < 256
  pub unused : (k : ℕ) → f.channels ≤ k → k < 12 → slice_index f.payload k ≡ 255

-- some bytes, filled up with 0xFF to twelve
abbrev pub filled : List ℕ → List ℕ
filled bytes = bytes ++ replicate (12 - length bytes) 255
