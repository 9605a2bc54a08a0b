-- The first frames are the first that go out.
use Rattle.std.proofs.Common.{◌≡◌, map, take}
use Rattle.relay_core.specs.Answers.{outgo_of}
use Rattle.terminal_c.specs.Told.{outgo_told}
use Rattle.terminal_c.proofs.slotted.tell_frames.Given as goal

abbrev pub invariant-loop-place : goal.invariant-loop-place
invariant-loop-place l = map outgo_told (take l.place l.told.frames) ≡ map outgo_of (take l.place l.outgoing-items)
