use Rattle.std.proofs.Common.{length, ◌-◌}
use Rattle.relay_message.proofs.Hunting.{Hunting}
use Rattle.relay_message.proofs.hunter.hunt.Given as goal

-- the places so far have told what is kept
abbrev pub invariant-loop-place : goal.invariant-loop-place
invariant-loop-place g l = Hunting g.L.Format.layout l.bytes l.place l.hunted.message l.hunted.refused

abbrev pub decreases-loop-place : goal.decreases-loop-place
decreases-loop-place g l = length l.bytes - l.place
