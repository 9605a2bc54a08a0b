-- Inside: the restraint region of the alpha plane, cleared of fractions. (Alpha plane: the complex ratio of remote to local
-- current; an annular sector with radii 1/R and R about 180 degrees. The exact inequalities are this project's own.)
use Rattle.std.specs.Prelude.{ℕ, ◌+◌, ◌*◌, Bool, ◌&&◌, nat_le, ℤ, pos, ◌+ℤ◌, ◌-ℤ◌, ◌*ℤ◌, neg_ℤ, int_le, unsigned_abs}
use Rattle.phasor.specs.Point.{Point}

-- a restraint region: the radius rn / rd, and the direction (p, q) of its upper edge
pub record Sector : Type 0 where
  pub rn : ℕ
  pub rd : ℕ
  pub p : ℤ
  pub q : ℤ

abbrev pub sector : ℕ → ℕ → ℤ → ℤ → Sector
sector rn rd p q = record { rn = rn; rd = rd; p = p; q = q }

abbrev pub square : ℕ → ℕ
square n = n * n

-- |z|^2
abbrev pub norm : Point → ℕ
norm z = square (unsigned_abs z.re) + square (unsigned_abs z.im)

-- the numbers of a region have at most 14 bits
abbrev pub side_bits : ℕ
side_bits = 14

-- the norm of a current has at most 97 bits
abbrev pub norm_bits : ℕ
norm_bits = 97

-- the real part of l times the conjugate of r
abbrev pub dot : Point → Point → ℤ
dot l r = (l.re *ℤ r.re) +ℤ (l.im *ℤ r.im)

-- the imaginary part of r times the conjugate of l
abbrev pub cross : Point → Point → ℤ
cross l r = (l.re *ℤ r.im) -ℤ (l.im *ℤ r.re)

-- the local current l and the remote current r lie in the region: neither is more than rn / rd times the other, and the
-- angle between l and -r is at most that of (p, q). The border is inside.
abbrev pub Inside : Sector → Point → Point → Bool
Inside s l r =
    nat_le (square s.rd * norm r) (square s.rn * norm l)
    && nat_le (square s.rd * norm l) (square s.rn * norm r)
    && int_le (s.p *ℤ pos (unsigned_abs (cross l r))) (s.q *ℤ neg_ℤ (dot l r))
