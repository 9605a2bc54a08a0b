-- Sum: the full-cycle sums of the sets up to a number, from scratch. (Full-cycle Fourier sums; the whole-number tables are
-- this project's own.)
use Rattle.std.specs.Prelude.{ℕ, zero, suc, ℤ, ◌==◌, List, [], ◌∷◌, ◌++◌, map, fold, find, Option, Some, None, option_map, slice_index_or}
use Rattle.ld_base.specs.Phases.{no_current}
use Rattle.ld_base.specs.declared.phases.Phases.{Phases}
use Rattle.ld_base.specs.declared.phases.SampleSet.{SampleSet}
use Rattle.phasor.specs.Point.{Point, origin, plus}
use Rattle.phasor.specs.Factors.{weighed}

-- the set of that number among those judged
abbrev pub set_numbered : ℕ → List SampleSet → Option SampleSet
set_numbered n judged = find (λ s. s.number == n) judged

-- some sets, and one set more
abbrev pub followed_by : Option (List SampleSet) → Option SampleSet → Option (List SampleSet)
followed_by None next = None
followed_by (Some sets) None = None
followed_by (Some sets) (Some set) = Some (sets ++ set ∷ [])

-- the sets of the `count` numbers below `stop`, oldest first, where each of them was judged
abbrev pub sets_before : List SampleSet → ℕ → ℕ → Option (List SampleSet)
sets_before judged zero stop = Some []
sets_before judged (suc count) zero = None
sets_before judged (suc count) (suc stop) = followed_by (sets_before judged count stop) (set_numbered stop judged)

-- a value for each of three, stations or phases, counted from 0
abbrev pub of_three : {A : Type 0} → (ℕ → A) → List A
of_three value = map value (0 ∷ 1 ∷ 2 ∷ [])

-- phase a is 0, b is 1 and c is 2
abbrev pub phase_of : ℕ → Phases → ℤ
phase_of zero p = p.a
phase_of (suc zero) p = p.b
phase_of (suc (suc n)) p = p.c

-- the value of a station's phase in a set, stations counted from 0
abbrev pub current : ℕ → ℕ → SampleSet → ℤ
current station phase set = phase_of phase (slice_index_or set.values station no_current)

-- the sum of these sets' values, each with its factors
abbrev pub sum_of : ℕ → (SampleSet → ℤ) → List SampleSet → Point
sum_of c value sets = fold (λ sum set. plus sum (weighed c set.number (value set))) origin sets

-- the sums of these sets, by station and then by phase
abbrev pub sums_of : ℕ → List SampleSet → List (List Point)
sums_of c sets = of_three (λ station. of_three (λ phase. sum_of c (current station phase) sets))

-- the sums over the c numbers below `stop`, where all their sets were judged
abbrev pub sums_before : ℕ → List SampleSet → ℕ → Option (List (List Point))
sums_before c judged stop = option_map (sums_of c) (sets_before judged c stop)

-- Sum of each station's phases at set n: over the numbers n - c + 1 to n
abbrev pub Sums : ℕ → List SampleSet → ℕ → Option (List (List Point))
Sums c judged n = sums_before c judged (suc n)
