use Rattle.std.proofs.Common.{◌≡◌, [], take, drop}
use Rattle.alpha_plane.specs.Outside.{each_outside}
use Rattle.alpha_plane.proofs.region.Region.each_outside.Given as goal

abbrev pub invariant-loop-current : goal.invariant-loop-current
invariant-loop-current l = each_outside l.self (take l.current-index l.currents) (drop l.current-index l.currents) ≡ each_outside l.self [] l.currents
