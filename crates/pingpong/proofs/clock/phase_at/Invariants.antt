use Rattle.std.proofs.Common.{◌<◌, ◌≤◌, length, take, slice_index_or}
use Rattle.pingpong.specs.declared.clock.RateFrom.{RateFrom}
use Rattle.pingpong.proofs.Lines.{IsLine}
use Rattle.pingpong.proofs.clock.phase_at.Given as goal

-- the line of the rates so far, and that the next one begins no earlier than it
abbrev pub invariant-loop-entry : goal.invariant-loop-entry
invariant-loop-entry l = record {
  line : IsLine (record { start = l.start; rates = take l.entry-index l.rates }) l.at l.t l.phase l.gain;
  next : (d : RateFrom) → l.entry-index < length l.rates → l.at ≤ (slice_index_or l.rates l.entry-index d).from;
}
