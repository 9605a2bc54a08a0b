-- The last of some waveforms that passes a test, and what a scenario's values keep by it.
use Rattle.std.proofs.Common.{◌≡◌, refl, arith, ℕ, ◌+◌, ◌%◌, ◌^◌, ◌<◌, ◌≤◌, ℤ, pos, unsigned_abs, Bool, true, false, List, [], ◌∷◌, reverse, Option, Some, None}
use Rattle.std.specs.Prelude.{All, IfSome, find, if◌then◌else◌, slice_index, slice_index_or}
use Rattle.std.specs.Option.{option_or}
use Rattle.std.proofs.lemmas.Bool.Decides.{nat_tests}
use Rattle.std.proofs.lemmas.Int.{ints}
use Rattle.std.proofs.lemmas.List.{reverse-append}
use Rattle.std.proofs.lemmas.List.Elements.{All-head, All-tail}
use Rattle.std.proofs.lemmas.List.Folds.{find-append}
use Rattle.ld_base.specs.declared.fields.Fields.{Fields}
use Rattle.phasor.specs.Factors.{cosine}
use Rattle.ld_base.specs.Phases.{no_current}
use Rattle.waveform_reader.specs.Scenario.{Setup}
use Rattle.waveform_reader.specs.Shapes.{given_by, has_begun, twentieths_at, value_at, value_of, wave_value}
use Rattle.waveform_reader.specs.Sound.{ArePhases, IsAmplitude, IsSetup, IsShape, IsShapeFrom, IsValue, IsWave}
use Rattle.waveform_reader.specs.declared.shape.Shape.{Shape}
use Rattle.waveform_reader.specs.declared.shape.Shape.TheVariants as shape
use Rattle.waveform_reader.specs.declared.shape.ShapeFrom.{ShapeFrom}
use Rattle.waveform_reader.proofs.WaveFacts.{wave_small}

-- what holds of all holds of the last that passes, and it passes
pub last_found : {X : Type 0} (P : X → Type 0) (p : X → Bool) (xs : List X) → All P xs → IfSome (find p (reverse xs)) (λ x. P x × (p x ≡ true))
last_found P p [] all = tt
last_found {X} P p (x ∷ xs) all = rw (reverse-append (x ∷ []) xs, find-append p (reverse xs) (x ∷ [])) (by (find p (reverse xs)) (last_found P p xs (All-tail P x xs all)))
  where
    first : (b : Bool) → p x ≡ b → IfSome (if b then Some x else None) (λ y. P y × (p y ≡ true))
    first true e = (All-head P x xs all, e)
    first false e = tt

    by : (behind : Option X) → IfSome behind (λ y. P y × (p y ≡ true)) → IfSome (option_or behind (find p (x ∷ []))) (λ y. P y × (p y ≡ true))
    by None found = first (p x) refl
    by (Some y) found = found

-- nothing flows at a station that isn't there
pub nothing_there : (s : Setup) → IsSetup s → (station t : ℕ) → s.settings.stations < station → value_at s.settings s.shapes station t ≡ no_current
nothing_there s kept station t beyond = by (find (has_begun station t) (reverse s.shapes)) (last_found (IsShapeFrom s.settings.stations) (has_begun station t) s.shapes kept.plan.shapes)
  where
    by : (o : Option ShapeFrom) → IfSome o (λ from. IsShapeFrom s.settings.stations from × (has_begun station t from ≡ true)) → given_by s.settings t o ≡ no_current
    by None found = refl
    by (Some from) found = let there = found.0.station.1 in absurd (grind (arith, nat_tests))

-- a number that isn't greater than an amplitude is a value of the converter
value_small : (v a : ℤ) → unsigned_abs v ≤ unsigned_abs a → IsAmplitude a → IsValue v
value_small v a small is = let most : unsigned_abs a ≤ 32767 = omega (arith, ints, is.0, is.1) in (omega (arith, ints), omega (arith, ints))

module _ (within : (k : ℕ) → unsigned_abs (cosine 20 (k % 20)) ≤ 2 ^ 14) where
  -- a phase of a wave
  wave_kept : (twentieths : ℕ) (amp : List ℤ) (step : List ℕ) (phase : ℕ) → phase < 3 → IsWave amp step
      → IsValue (wave_value twentieths (slice_index_or amp phase (pos 0)) (slice_index step phase))
  wave_kept twentieths amp step phase is wave =
      value_small _ (slice_index_or amp phase (pos 0)) (wave_small (slice_index_or amp phase (pos 0)) _ (within (twentieths + slice_index step phase)))
      (wave.amplitudes phase (pos 0) (omega (arith, wave.three.0)))

  -- what a shape gives
  shape_kept : (f : Fields) (t : ℕ) (s : Shape) → IsShape s → ArePhases (value_of f t s)
  shape_kept f t (shape.Hold phases) kept = kept
  shape_kept f t (shape.Wave amp step) wave =
      let at = λ (phase : ℕ) (is : phase < 3). wave_kept (twentieths_at f t) amp step phase is wave in
      record { a = at 0 (omega arith); b = at 1 (omega arith); c = at 2 (omega arith) }

  -- what a scenario's station has
  pub values_kept : (s : Setup) (station t : ℕ) → IsSetup s → ArePhases (value_at s.settings s.shapes station t)
  values_kept s station t kept = by (find (has_begun station t) (reverse s.shapes)) (last_found (IsShapeFrom s.settings.stations) (has_begun station t) s.shapes kept.plan.shapes)
    where
      by : (o : Option ShapeFrom) → IfSome o (λ from. IsShapeFrom s.settings.stations from × (has_begun station t from ≡ true)) → ArePhases (given_by s.settings t o)
      by None found = record { a = (omega (arith, ints), omega (arith, ints)); b = (omega (arith, ints), omega (arith, ints)); c = (omega (arith, ints), omega (arith, ints)) }
      by (Some from) found = shape_kept s.settings t from.shape found.0.shape
