-- The sizes of sums, and of the values that they take in.
use Rattle.std.specs.Prelude.{ℕ, ◌^◌, ◌≤◌, unsigned_abs, List, [], slice_index_or}
use Rattle.ld_base.specs.declared.phases.Phases.{Phases}
use Rattle.ld_base.specs.declared.phases.SampleSet.{SampleSet}
use Rattle.phasor.specs.Point.{Point, IsWithin, origin}
use Rattle.ld_base.specs.Phases.{no_current}
use Rattle.phasor.specs.Sum.{phase_of}

-- a sample has 16 bits with its sign
abbrev pub sample_bits : ℕ
sample_bits = 15

-- a factor is at most 16384, the scale of the tables
abbrev pub factor_bits : ℕ
factor_bits = 14

-- a sum of up to 20 samples by their factors lies within 2 ^ 34
abbrev pub sum_bits : ℕ
sum_bits = 34

-- the sum of a station's phase among sums by station and then by phase, both counted from 0
abbrev pub sum_at : List (List Point) → ℕ → ℕ → Point
sum_at sums station phase = slice_index_or (slice_index_or sums station []) phase origin

-- each part of each sum lies within 2 ^ bits either way
abbrev pub AreWithin : ℕ → List (List Point) → Type 0
AreWithin bits sums = (station phase : ℕ) → IsWithin bits (sum_at sums station phase)

-- each value of a sample has 16 bits
abbrev pub IsSample : Phases → Type 0
IsSample sample = (phase : ℕ) → unsigned_abs (phase_of phase sample) ≤ 2 ^ sample_bits

-- each value of some stations' samples has 16 bits
abbrev pub AreSamples : List Phases → Type 0
AreSamples values = (station : ℕ) → IsSample (slice_index_or values station no_current)

-- each value of a set has 16 bits
abbrev pub IsOfSamples : SampleSet → Type 0
IsOfSamples set = AreSamples set.values
