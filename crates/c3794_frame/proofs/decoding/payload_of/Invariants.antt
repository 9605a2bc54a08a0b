use Rattle.std.proofs.Common.{◌≡◌, ◌≤◌, ◌<◌, ℕ, None, length, slice_index}
use Rattle.c3794_frame.specs.Nibble.{ArePayload}
use Rattle.c3794_frame.specs.Numbers.{bits_of}
use Rattle.c3794_frame.specs.Reading.{broken_pair}
use Rattle.c3794_frame.proofs.decoding.payload_of.Given as goal

-- the bytes so far are those that are read, and the others idle
abbrev pub invariant-loop-k : goal.invariant-loop-k
invariant-loop-k l = record {
  long : length l.payload ≡ 12;
  payload : broken_pair (bits_of l.bits) ≡ None → ArePayload l.k (bits_of l.bits) l.payload;
  unused : (k : ℕ) → l.channels ≤ k → k < 12 → slice_index l.payload k ≡ 255;
}
