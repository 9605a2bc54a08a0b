-- The first items are the first changes.
use Rattle.std.proofs.Common.{◌≡◌, map, take}
use Rattle.terminal_c.specs.Told.{change_of}
use Rattle.terminal_c.proofs.sampled.tell_changes.Given as goal

abbrev pub invariant-loop-place : goal.invariant-loop-place
invariant-loop-place l = take l.place l.told.items ≡ map change_of (take l.place l.change-items)
