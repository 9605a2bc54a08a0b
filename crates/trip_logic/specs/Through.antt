-- Current that flows through the line: what enters at one station leaves at the others.
use Rattle.std.specs.Prelude.{◌≡◌, ℕ, ◌+◌, ◌<◌, ◌≤◌, ℤ, pos, ◌+ℤ◌, List, fold, take, IfSome}
use Rattle.ld_base.specs.declared.fields.Fields.{Fields}
use Rattle.ld_base.specs.declared.phases.SampleSet.{SampleSet}
use Rattle.phasor.specs.Sum.{set_numbered, of_three, current}

-- the values of a phase added up over that many stations
abbrev pub sum_over_stations : ℕ → ℕ → SampleSet → ℤ
sum_over_stations stations phase set = fold ◌+ℤ◌ (pos 0) (take stations (of_three (λ station. current station phase set)))

-- in each of the c sets up to n that was judged, the values of the phase add up to zero over the stations
abbrev pub IsThrough : Fields → List SampleSet → ℕ → ℕ → Type 0
IsThrough f judged phase n = (k : ℕ) → n < k + f.cycle → k ≤ n
    → IfSome (set_numbered k judged) (λ set. sum_over_stations f.stations phase set ≡ pos 0)
