-- The value of a station at a true tick. (This project's own; the cosines are those of the phasors.)
use Rattle.std.specs.Prelude.{◌==◌, ℕ, ◌+◌, ◌*◌, ◌/◌, ◌%◌, Bool, ◌&&◌, nat_le, ℤ, pos, ◌*ℤ◌, int_div, List, reverse, find, Option, Some, None, slice_index, slice_index_or}
use Rattle.ld_base.specs.declared.fields.Fields.{Fields}
use Rattle.ld_base.specs.declared.phases.Phases.{Phases}
use Rattle.phasor.specs.Factors.{cosine}
use Rattle.ld_base.specs.Phases.{no_current}
use Rattle.waveform_reader.specs.declared.shape.Shape.{Shape}
use Rattle.waveform_reader.specs.declared.shape.Shape.TheVariants as shape
use Rattle.waveform_reader.specs.declared.shape.ShapeFrom.{ShapeFrom}

-- the twentieths of cycles that have gone by since tick 0
abbrev pub twentieths_at : Fields → ℕ → ℕ
twentieths_at f t = 20 * t / (f.spacing * f.cycle)

-- a phase of a wave after so many twentieths: its amplitude times the cosine, its step ahead, rounded toward zero
abbrev pub wave_value : ℕ → ℤ → ℕ → ℤ
wave_value twentieths amplitude step = int_div (amplitude *ℤ cosine 20 ((twentieths + step) % 20)) (pos 16384)

-- the phases of a wave after so many twentieths
abbrev pub wave_values : ℕ → List ℤ → List ℕ → Phases
wave_values twentieths amp step = record {
  a = wave_value twentieths (slice_index_or amp 0 (pos 0)) (slice_index step 0);
  b = wave_value twentieths (slice_index_or amp 1 (pos 0)) (slice_index step 1);
  c = wave_value twentieths (slice_index_or amp 2 (pos 0)) (slice_index step 2);
}

-- what a shape gives at a tick
abbrev pub value_of : Fields → ℕ → Shape → Phases
value_of f t (shape.Hold phases) = phases
value_of f t (shape.Wave amp step) = wave_values (twentieths_at f t) amp step

-- whether a waveform is of a station and has begun by a tick
abbrev pub has_begun : ℕ → ℕ → ShapeFrom → Bool
has_begun station t s = (s.station == station) && nat_le s.from t

-- what the last of a station's waveforms gives that has begun, or nothing flowing
abbrev pub given_by : Fields → ℕ → Option ShapeFrom → Phases
given_by f t None = no_current
given_by f t (Some s) = value_of f t s.shape

-- the value of a station at a tick: by its last waveform that has begun
abbrev pub value_at : Fields → List ShapeFrom → ℕ → ℕ → Phases
value_at f shapes station t = given_by f t (find (has_begun station t) (reverse shapes))
