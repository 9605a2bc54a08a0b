use Rattle.std.proofs.Common.{◌≡◌, ◌*◌, ◌^◌, ◌≤◌, unsigned_abs, take}
use Rattle.phasor.specs.Point.{total}
use Rattle.alpha_plane.proofs.region.total.Given as goal

abbrev pub invariant-loop-current : goal.invariant-loop-current
invariant-loop-current l = record {
  so_far : l.total ≡ total (take l.current-index l.currents);
  size : (unsigned_abs l.total.re ≤ l.current-index * 2 ^ 46) × (unsigned_abs l.total.im ≤ l.current-index * 2 ^ 46);
}
