-- A station's phase that is moved by a constant.
use Rattle.std.specs.Prelude.{◌≡◌, ℕ, ◌+◌, ◌<◌, ◌≤◌, ℤ, ◌+ℤ◌, List, Option, option_map}
use Rattle.ld_base.specs.declared.phases.SampleSet.{SampleSet}
use Rattle.phasor.specs.Point.{Point}
use Rattle.phasor.specs.Sizes.{sum_at}
use Rattle.phasor.specs.Sum.{set_numbered, current, Sums}

-- the value of a station's phase in the set of that number, where it was judged
abbrev pub value_at : ℕ → ℕ → List SampleSet → ℕ → Option ℤ
value_at station phase judged number = option_map (current station phase) (set_numbered number judged)

-- each of the c values up to set n is the constant more in `moved` than in `judged`
abbrev pub IsMoved : ℕ → ℕ → ℤ → ℕ → ℕ → List SampleSet → List SampleSet → Type 0
IsMoved station phase constant c n judged moved = (k : ℕ) → n < k + c → k ≤ n
    → value_at station phase moved k ≡ option_map (λ value. value +ℤ constant) (value_at station phase judged k)

-- Sum of one station's phase at set n
abbrev pub Sum : ℕ → ℕ → ℕ → List SampleSet → ℕ → Option Point
Sum station phase c judged n = option_map (λ sums. sum_at sums station phase) (Sums c judged n)
