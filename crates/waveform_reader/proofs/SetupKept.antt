-- What a scenario keeps by its records.
use Rattle.std.proofs.Common.{◌≡◌, refl, arith, ℕ, ◌<◌, ◌≤◌, Bool, true, false, List, [], ◌∷◌, ◌==◌, unsigned_abs}
use Rattle.std.specs.Prelude.{All, None, filter}
use Rattle.std.proofs.lemmas.Bool.Decides.{nat_tests}
use Rattle.std.proofs.lemmas.List.Elements.{All-cons, All-filter, All-head, All-map, All-nil, All-tail, All-weaker}
use Rattle.ld_base.specs.Settings.{setting_fault}
use Rattle.ld_base.specs.declared.fields.Fields.{Fields}
use Rattle.pingpong.specs.Clock.{IsCourse}
use Rattle.pingpong.specs.declared.clock.RateFrom.{RateFrom}
use Rattle.waveform_reader.specs.Draft.{Draft}
use Rattle.waveform_reader.specs.Scenario.{course_of, rates_of, setup_of, start_of}
use Rattle.waveform_reader.specs.Sound.{IsClock, IsDraft, IsRate, IsRating, IsSetup, IsStart, true_clock}
use Rattle.waveform_reader.specs.declared.record.Rating.{Rating}
use Rattle.waveform_reader.specs.declared.record.Start.{Start}

-- where all starts are early, that of each station is
early_start : (stations : ℕ) (starts : List Start) (station : ℕ) → All (IsStart stations) starts → start_of starts station ≤ 1000000000000
early_start stations [] station all = omega arith
early_start stations (s ∷ starts) station all = by (s.station == station) refl (early_start stations starts station (All-tail (IsStart stations) s starts all))
  where
    by : (b : Bool) → (s.station == station) ≡ b → start_of starts station ≤ 1000000000000 → start_of (s ∷ starts) station ≤ 1000000000000
    by true e rest = rw e (All-head (IsStart stations) s starts all).ticks
    by false e rest = rw e rest

-- the rates of each station keep what all rates keep
rates_kept : (stations drift : ℕ) (rates : List Rating) (station : ℕ) → All (IsRating stations drift) rates → All (IsRate drift) (rates_of rates station)
rates_kept stations drift rates station all =
    All-map (IsRate drift) (λ (r : Rating). r.rate) (filter (λ (r : Rating). r.station == station) rates)
    (All-filter (λ (r : Rating). r.station == station) (λ (r : Rating). IsRate drift r.rate) rates
    (All-weaker (IsRating stations drift) (λ (r : Rating). IsRate drift r.rate) (λ r is. is.rate) rates all))

-- each station has a clock
pub course_kept : (f : Fields) (draft : Draft) → IsDraft f draft → f.drift ≤ 200 → (station : ℕ) → IsCourse (course_of draft station)
course_kept f draft kept slow station = record {
  start = early_start f.stations draft.starts station kept.starts;
  few = kept.few station;
  in_range = All-weaker (IsRate f.drift) (λ (r : RateFrom). unsigned_abs r.rate ≤ 200) (λ r is. omega (arith, is.slow, slow))
      (rates_of draft.rates station) (rates_kept f.stations f.drift draft.rates station kept.rates);
  in_turn = kept.in_turn station;
}

-- a station that isn't there isn't equal to one that is
other : (stations station : ℕ) (there : ℕ) → there ≤ stations → stations < station → (there == station) ≡ false
other stations station there inside beyond = grind (arith, nat_tests)

-- no start and no rate is of a station that isn't there
no_start : (stations station : ℕ) (starts : List Start) → stations < station → All (IsStart stations) starts → start_of starts station ≡ 0
no_start stations station [] beyond all = refl
no_start stations station (s ∷ starts) beyond all =
    rw (other stations station s.station (All-head (IsStart stations) s starts all).station.1 beyond)
    (no_start stations station starts beyond (All-tail (IsStart stations) s starts all))

no_rates : (stations drift station : ℕ) (rates : List Rating) → stations < station → All (IsRating stations drift) rates → rates_of rates station ≡ []
no_rates stations drift station [] beyond all = refl
no_rates stations drift station (r ∷ rates) beyond all =
    rw (other stations station r.station (All-head (IsRating stations drift) r rates all).station.1 beyond)
    (no_rates stations drift station rates beyond (All-tail (IsRating stations drift) r rates all))

-- its clock shows true time
no_course : (f : Fields) (draft : Draft) → IsDraft f draft → (station : ℕ) → f.stations < station → course_of draft station ≡ true_clock
no_course f draft kept station beyond =
    rw (no_start f.stations station draft.starts beyond kept.starts, no_rates f.stations f.drift station draft.rates beyond kept.rates) refl

-- the scenario of such records
pub setup_kept : (f : Fields) (end : ℕ) (draft : Draft) → IsDraft f draft → f.drift ≤ 200 → setting_fault f ≡ None → (1 ≤ end) × (end ≤ 20000000)
    → IsSetup (setup_of f end draft)
setup_kept f end draft kept slow accepted ends = record {
  settings = accepted;
  end = ends;
  three = refl;
  clocks = All-cons (IsClock f.drift) (course_of draft 1) (course_of draft 2 ∷ course_of draft 3 ∷ []) (one 1)
      (All-cons (IsClock f.drift) (course_of draft 2) (course_of draft 3 ∷ []) (one 2) (All-cons (IsClock f.drift) (course_of draft 3) [] (one 3) (All-nil (IsClock f.drift))));
  third = λ two. rw (no_course f draft kept 3 (omega (arith, two))) refl;
  plan = kept.plan;
}
  where
    one : (station : ℕ) → IsClock f.drift (course_of draft station)
    one station = record { course = course_kept f draft kept slow station; rates = rates_kept f.stations f.drift draft.rates station kept.rates }
