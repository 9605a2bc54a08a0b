use Rattle.phasor.specs.Point.{Point}
use Rattle.alpha_plane.proofs.Currents.{minus_kept}
use Rattle.alpha_plane.proofs.current.Current.minus.Goals as goal

pub returns : goal.returns
returns c =
    let p : Point = record { re = c.self.inside.re; im = c.self.inside.im } in
    let q : Point = record { re = c.other.inside.re; im = c.other.inside.im } in
    rw (← c.self.view_is, ← c.other.view_is) (minus_kept p q c.self.invariant c.other.invariant)
