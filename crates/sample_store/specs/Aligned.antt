-- Aligned: under which number of the own samples a peer's sample belongs. (Alignment rule of this project's own.)
use Rattle.std.specs.Prelude.{ℕ, ◌+◌, ◌*◌, ◌≤◌, ℤ, pos, neg_ℤ, ◌+ℤ◌, ◌-ℤ◌, ◌*ℤ◌, ◌<ℤ◌, ◌≤ℤ◌}
use Rattle.std.specs.Int.{int_div_euclid}
use Rattle.pingpong.specs.Reading.{Reading, stamp}

-- the own number that lies nearest to a peer's number by twice the offset of the peer's clock, and of two the later: a division
-- that rounds down
abbrev pub Aligned : ℕ → ℕ → ℤ → ℤ
Aligned spacing number estimate2 = int_div_euclid (pos (spacing + 2 * number * spacing) -ℤ estimate2) (pos (2 * spacing))

-- the own number n and the peer's number m are aligned: -T < 2*n*T - 2*m*T + e <= T
pub record IsWithinHalf (spacing : ℕ) (twice : ℤ) : Type 0 where
  pub above : neg_ℤ (pos spacing) <ℤ twice
  pub below : twice ≤ℤ pos spacing

abbrev pub IsAligned : ℕ → ℕ → ℤ → ℤ → Type 0
IsAligned spacing number estimate2 n = IsWithinHalf spacing (((pos (2 * spacing) *ℤ n) -ℤ pos (2 * number * spacing)) +ℤ estimate2)

-- a clock as it shows the sample of that number: its stamp is a multiple of the spacing, or one tick more
pub record IsSample (spacing number : ℕ) (reading : Reading) : Type 0 where
  pub since : number * spacing ≤ stamp reading
  pub until : stamp reading ≤ number * spacing + 1
