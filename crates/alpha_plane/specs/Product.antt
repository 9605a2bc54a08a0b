-- The product of complex whole numbers.
use Rattle.std.specs.Prelude.{◌+ℤ◌, ◌-ℤ◌, ◌*ℤ◌}
use Rattle.phasor.specs.Point.{Point}

abbrev pub product : Point → Point → Point
product a b = record { re = (a.re *ℤ b.re) -ℤ (a.im *ℤ b.im); im = (a.re *ℤ b.im) +ℤ (a.im *ℤ b.re) }
