use Rattle.phasor.specs.Point.{Point}
use Rattle.alpha_plane.proofs.Currents.{plus_kept}
use Rattle.alpha_plane.proofs.current.Current.plus.Goals as goal

pub returns : goal.returns
returns c =
    let p : Point = record { re = c.self.inside.re; im = c.self.inside.im } in
    let q : Point = record { re = c.other.inside.re; im = c.other.inside.im } in
    rw (← c.self.view_is, ← c.other.view_is) (plus_kept p q c.self.invariant c.other.invariant)
