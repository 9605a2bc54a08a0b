use Rattle.std.proofs.Common.{ℕ, ◌<◌, ◌+◌, ◌%◌, slice_index}
use Rattle.script_wire.specs.Wires.{IsJoined}
use Rattle.script_wire.proofs.chunks.moved.Given as goal

-- each byte so far is joined of two of the frame
abbrev pub invariant-loop-k : goal.invariant-loop-k
invariant-loop-k l = (k : ℕ) → k < l.k → IsJoined (slice_index l.frame (l.whole + k)) (slice_index l.frame (l.whole + k + 1)) (l.from % 8) (slice_index l.byte-items k)
