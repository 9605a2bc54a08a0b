-- The value between two values, by its distance from both. (Linear interpolation; the rounding is this project's own.)
use Rattle.std.specs.Prelude.{ℕ, ◌-◌, ◌*◌, ℤ, pos, ◌+ℤ◌, ◌*ℤ◌, ◌≤ℤ◌}
use Rattle.std.specs.Int.{int_div_euclid, int_min, int_max}
use Rattle.ld_base.specs.declared.phases.Phases.{Phases}

-- one value and the other, each weighed by the distance from the other one: x*(2*T - w) + y*w
abbrev pub weighed : ℕ → ℕ → ℤ → ℤ → ℤ
weighed spacing w x y = (x *ℤ pos (2 * spacing - w)) +ℤ (y *ℤ pos w)

-- the mixed value: by the whole distance of 2*T, rounded down
abbrev pub mixed_value : ℕ → ℕ → ℤ → ℤ → ℤ
mixed_value spacing w x y = int_div_euclid (weighed spacing w x y) (pos (2 * spacing))

-- the same of all three phases
abbrev pub mixed_phases : ℕ → ℕ → Phases → Phases → Phases
mixed_phases spacing w one other = record {
  a = mixed_value spacing w one.a other.a;
  b = mixed_value spacing w one.b other.b;
  c = mixed_value spacing w one.c other.c;
}

-- a value lies between two others, or is one of them
pub record LiesBetween (x y value : ℤ) : Type 0 where
  pub least : int_min x y ≤ℤ value
  pub most : value ≤ℤ int_max x y

-- so does each phase
pub record LieBetween (one other values : Phases) : Type 0 where
  pub a : LiesBetween one.a other.a values.a
  pub b : LiesBetween one.b other.b values.b
  pub c : LiesBetween one.c other.c values.c
