-- The numbers of a station's samples by its clock, and what accepted settings say of spacings and of the slots of a message.
use Rattle.std.specs.Prelude.{◌-◌, ◌%◌, ◌/◌, nat_lt}
use Rattle.std.specs.Int.{div_ceil}
use Rattle.std.proofs.Common.{◌≡◌, ℕ, ◌+◌, ◌*◌, ◌<◌, ◌≤◌, true, inl, inr, None, arith, ap, sym, subst}
use Rattle.std.proofs.lemmas.Bool.{cases_lt, lt-ltb}
use Rattle.ld_base.specs.Settings.{message_ticks, misfit, setting_fault}
use Rattle.ld_base.specs.declared.fields.Fields.{Fields}
use Rattle.ld_base.proofs.Accepted.{AreInRange-from_no_fault, no_fault_in_parts}
use Rattle.pingpong.specs.Clock.{phase}
use Rattle.pingpong.proofs.Gains.{WithinDrift-phase}
use Rattle.waveform_reader.specs.Scenario.{Setup}
use Rattle.waveform_reader.specs.Sound.{IsSetup, IsStation}
use Rattle.line_world.specs.World.{number_of, stamp_of}
use Rattle.calm_channel.proofs.Clocked.{clock_of, is_clock, stamp-is, stamps-rise}
use Rattle.calm_channel.proofs.Sending.{AreNumbers}
use Rattle.calm_channel.proofs.Spacing.{IsPaced, numbers-gain, numbers-rise, on_grid}

-- the phase of a station's clock at a true time
abbrev pub phase_of : Setup → ℕ → ℕ → ℕ
phase_of s station t = phase (clock_of s station) t

-- a message takes no more ticks than a spacing has
quick-by : (f : Fields) → misfit f ≡ None → message_ticks f.channels ≤ f.spacing
quick-by f none = elim (cases_lt f.spacing (message_ticks f.channels)) [
  | inl slow ↦
      let test : nat_lt f.spacing (message_ticks f.channels) ≡ true = lt-ltb f.spacing (message_ticks f.channels) slow in
      let refused = rw test at none in
      absurd (cc)
  | inr quick ↦ quick
]

pub quick : (f : Fields) → setting_fault f ≡ None → 125 * div_ceil 36 f.channels ≤ f.spacing
quick f none = omega (arith, quick-by f (no_fault_in_parts f none).1)

module _ (s : Setup) (kept : IsSetup s) where
  pub few_stations : (2 ≤ s.settings.stations) × (s.settings.stations ≤ 3)
  few_stations = (AreInRange-from_no_fault s.settings kept.settings).stations

  pub spacing_range : (500 ≤ s.settings.spacing) × (s.settings.spacing ≤ 10000)
  spacing_range = (AreInRange-from_no_fault s.settings kept.settings).spacing

  module _ (station : ℕ) (there : IsStation s.settings.stations station) where
    fits : (1 ≤ station) × (station ≤ 3)
    fits = (there.0, omega (arith, there.1, few_stations.1))

    pub paced : IsPaced (phase_of s station)
    paced =
        let rates = (is_clock s kept station fits).course.in_range in
        record {
          most = λ t u order. (WithinDrift-phase 200 (clock_of s station) rates t u order).most;
          least = λ t u order. (WithinDrift-phase 200 (clock_of s station) rates t u order).least;
        }

    pub stamp-by_phase : (t : ℕ) → stamp_of s station t ≡ phase_of s station t / 1000000
    stamp-by_phase = stamp-is s kept station fits

    pub stamps-up : (t u : ℕ) → t ≤ u → stamp_of s station t ≤ stamp_of s station u
    stamps-up = stamps-rise s kept station fits

    number-is : (t : ℕ) → number_of s station t ≡ phase_of s station t / 1000000 / s.settings.spacing
    number-is t = ap (λ (stamp : ℕ). stamp / s.settings.spacing) (stamp-by_phase t)

    some : 1 ≤ s.settings.spacing
    some = let range = spacing_range in omega (arith, range.0)

    numbers-up : (t u : ℕ) → t ≤ u → number_of s station t ≤ number_of s station u
    numbers-up t u order =
        let less = numbers-rise (phase_of s station) paced s.settings.spacing some spacing_range.1 t u order in
        subst (λ (n : ℕ). n ≤ number_of s station u) (sym (number-is t))
        (subst (λ (n : ℕ). phase_of s station t / 1000000 / s.settings.spacing ≤ n) (sym (number-is u)) less)

    numbers-more : (t u : ℕ) → t + s.settings.spacing + 3 ≤ u → number_of s station t < number_of s station u
    numbers-more t u far =
        let less = numbers-gain (phase_of s station) paced s.settings.spacing some spacing_range.1 t u far in
        subst (λ (n : ℕ). n < number_of s station u) (sym (number-is t))
        (subst (λ (n : ℕ). phase_of s station t / 1000000 / s.settings.spacing < n) (sym (number-is u)) less)

    pub are-numbers : AreNumbers s.settings.spacing (number_of s station)
    are-numbers = record { rise = numbers-up; gain = numbers-more }

    -- a sample is taken at a stamp on the grid
    pub sample-on_grid : (t : ℕ) → number_of s station (t - 1) < number_of s station t → stamp_of s station t % s.settings.spacing ≤ 1
    sample-on_grid t more =
        let near = on_grid (phase_of s station) paced s.settings.spacing some spacing_range.1 t
        (subst (λ (n : ℕ). n < phase_of s station t / 1000000 / s.settings.spacing) (number-is (t - 1)) (subst (λ (n : ℕ). number_of s station (t - 1) < n) (number-is t) more)) in
        subst (λ (n : ℕ). n % s.settings.spacing ≤ 1) (sym (stamp-by_phase t)) near
