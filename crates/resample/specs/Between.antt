-- Which own sample lies between two samples of a peer that follow each other, and how far behind the first. (This project's own.)
use Rattle.std.specs.Prelude.{ℕ, ◌+◌, ◌*◌, ◌^◌, ℤ, pos, negsuc, ◌+ℤ◌, ◌-ℤ◌, ◌*ℤ◌, ◌<ℤ◌, ◌≤ℤ◌, unsigned_abs, nat_lt, if◌then◌else◌, Option, Some, None}
use Rattle.std.specs.Int.{int_div_euclid}

-- the own sample n lies at the peer's sample `first` or behind it, and before the peer's next one, by twice the offset e of the
-- peer's clock: 2*first*T - e <= 2*n*T < 2*(first + 1)*T - e
pub record IsBetween (spacing first : ℕ) (estimate2 n : ℤ) : Type 0 where
  pub behind : (pos (2 * first * spacing) -ℤ estimate2) ≤ℤ (pos (2 * spacing) *ℤ n)
  pub before : (pos (2 * spacing) *ℤ n) <ℤ (pos (2 * (first + 1) * spacing) -ℤ estimate2)

-- the last own number that lies before the peer's sample behind `first`: a division that rounds down
abbrev pub own_number : ℕ → ℕ → ℤ → ℤ
own_number spacing first estimate2 = int_div_euclid ((pos (2 * (first + 1) * spacing) -ℤ estimate2) -ℤ pos 1) (pos (2 * spacing))

-- a number as that of a sample, if it is one: from 0 to 4294967295
abbrev pub sample_number : ℤ → Option ℕ
sample_number (negsuc n) = None
sample_number (pos n) = if nat_lt n (2 ^ 32) then Some n else None

-- how far the own sample n lies behind the peer's sample `first`, in half ticks: 2*n*T - 2*first*T + e
abbrev pub weight : ℕ → ℕ → ℤ → ℕ → ℕ
weight spacing first estimate2 n = unsigned_abs ((pos (2 * n * spacing) -ℤ pos (2 * first * spacing)) +ℤ estimate2)
