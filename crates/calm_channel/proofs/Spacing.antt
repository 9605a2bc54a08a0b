-- When samples come: by the phases of a clock, which gains at least 999800 and at most 1000200 millionths of a tick in a tick.
use Rattle.std.specs.Prelude.{◌-◌, ◌%◌, ◌/◌}
use Rattle.std.proofs.Common.{ℕ, ◌+◌, ◌*◌, ◌<◌, ◌≤◌, arith}
use Rattle.std.proofs.Math.Nat.{div-lt_iff_lt-mul, div-mul-le_self, le-div_iff_mul-le}

-- phases of a clock, by true time
pub record IsPaced (phase : ℕ → ℕ) : Type 0 where
  pub most : (t u : ℕ) → t ≤ u → phase u ≤ phase t + 1000200 * (u - t)
  pub least : (t u : ℕ) → t ≤ u → phase t + 1000000 * (u - t) ≤ phase u + 200 * (u - t)

-- quotients
quotients-rise : (a b k : ℕ) → 0 < k → a ≤ b → a / k ≤ b / k
quotients-rise a b k some le =
    let part : a / k * k ≤ a = div-mul-le_self a k in
    (le-div_iff_mul-le {k = k} {x = a / k} {y = b} some).1 (omega (arith, part))

quotient-above : (a b k : ℕ) → 0 < k → a + k ≤ b → a / k < b / k
quotient-above a b k some le =
    let part : a / k * k ≤ a = div-mul-le_self a k in
    let above : a / k + 1 ≤ b / k = (le-div_iff_mul-le {k = k} {x = a / k + 1} {y = b} some).1 (omega (arith, part)) in
    omega (arith, above)

-- the number that rises within two ticks of the clock has just risen
just_risen : (a b k : ℕ) → 0 < k → b ≤ a + 2 → a / k < b / k → b % k ≤ 1
just_risen a b k some near less =
    let below : a < b / k * k = (div-lt_iff_lt-mul {k = k} {x = a} {y = b / k} some).0 less in
    omega (arith, below, near)

module _ (phase : ℕ → ℕ) (paced : IsPaced phase) where
  pub phases-rise : (t u : ℕ) → t ≤ u → phase t ≤ phase u
  phases-rise t u order = omega (arith, paced.least t u order)

  pub stamps-rise : (t u : ℕ) → t ≤ u → phase t / 1000000 ≤ phase u / 1000000
  stamps-rise t u order = omega (arith, phases-rise t u order)

  module _ (spacing : ℕ) (some : 1 ≤ spacing) (few : spacing ≤ 10000) where
    abbrev number : ℕ → ℕ
    number t = phase t / 1000000 / spacing

    pub numbers-rise : (t u : ℕ) → t ≤ u → number t ≤ number u
    numbers-rise t u order = quotients-rise (phase t / 1000000) (phase u / 1000000) spacing (omega (arith, some)) (stamps-rise t u order)

    -- in a spacing and three ticks a number more has come
    pub numbers-gain : (t u : ℕ) → t + spacing + 3 ≤ u → number t < number u
    numbers-gain t u far =
        let gained : phase t + 1000000 * (u - t) ≤ phase u + 200 * (u - t) = paced.least t u (omega (arith, far)) in
        quotient-above (phase t / 1000000) (phase u / 1000000) spacing (omega (arith, some)) (omega (arith, gained, far, few))

    -- the stamp of a tick at which the number rises is a multiple of the spacing or one more
    pub on_grid : (t : ℕ) → number (t - 1) < number t → phase t / 1000000 % spacing ≤ 1
    on_grid t more =
        let gained : phase t ≤ phase (t - 1) + 1000200 * (t - (t - 1)) = paced.most (t - 1) t (omega arith) in
        just_risen (phase (t - 1) / 1000000) (phase t / 1000000) spacing (omega (arith, some)) (omega (arith, gained)) more
