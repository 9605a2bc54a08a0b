-- When a station takes its samples.
use Rattle.std.specs.Prelude.{unsigned_abs}
use Rattle.std.specs.List.{All}
use Rattle.std.proofs.Common.{◌≡◌, ℕ, zero, suc, ◌+◌, ◌-◌, ◌*◌, ◌/◌, ◌%◌, ◌<◌, ◌≤◌, min, Bool, true, false, nat_le, [], ◌∷◌, Some, map, get_or, option_map, slice_get, slice_index, arith, sym, ap, ◌∙◌, refl, subst}
use Rattle.std.proofs.Math.Nat.{div-div-eq-div-mul, le-div_iff_mul-le}
use Rattle.std.proofs.lemmas.Bool.Decides.{nat_tests}
use Rattle.std.proofs.lemmas.Grind.{div_ceil_times}
use Rattle.std.proofs.lemmas.List.Elements.{All-get_or}
use Rattle.std.proofs.lemmas.Option.{get_or_from_slice_get, slice_get-map, slice_get_within}
use Rattle.pingpong.specs.Clock.{Course, phase, reading}
use Rattle.pingpong.specs.Reading.{WithinDrift}
use Rattle.waveform_reader.specs.Scenario.{Setup}
use Rattle.waveform_reader.specs.Sound.{IsClock, IsSetup}
use Rattle.line_world.specs.Tick.{IsNextSample, IsSample}
use Rattle.line_world.specs.World.{number_of}

-- a phase never falls
pub never_falls : (course : Course) (t u : ℕ) → t ≤ u → phase course t ≤ phase course u
never_falls course t zero h = let e : t ≡ 0 = omega arith in subst (λ (x : ℕ). phase course x ≤ phase course 0) (sym e) (omega arith)
never_falls course t (suc u) h = by_test (nat_le t u) refl (λ k. never_falls course t u k)
  where
    by_test : (b : Bool) → nat_le t u ≡ b → (t ≤ u → phase course t ≤ phase course u) → phase course t ≤ phase course (suc u)
    by_test true e other = let before : t ≤ u = grind (arith, nat_tests) in omega (arith, other before)
    by_test false e other =
        let last : t ≡ suc u = grind (arith, nat_tests) in
        subst (λ (x : ℕ). phase course x ≤ phase course (suc u)) (sym last) (omega arith)

-- so of two ticks the one with the lesser phase comes before
pub comes_before : (course : Course) (t u : ℕ) → phase course t < phase course u → t < u
comes_before course t u h = by_test (nat_le u t) refl
  where
    by_test : (b : Bool) → nat_le u t ≡ b → t < u
    by_test false e = grind (arith, nat_tests)
    by_test true e = let behind : u ≤ t = grind (arith, nat_tests) in absurd (omega (arith, never_falls course u t behind))

-- a number has come to the next multiple of another above a third where its quotient is above that one's
next_multiple : (p x spacing : ℕ) → 0 < spacing → p + (spacing - p % spacing) ≡ (p / spacing + 1) * spacing
next_multiple p x spacing h = omega arith

pub above : (p x spacing : ℕ) → 0 < spacing → p + (spacing - p % spacing) ≤ x → p / spacing < x / spacing
above p x spacing h reached =
    let multiple : (p / spacing + 1) * spacing ≤ x = omega (arith, next_multiple p x spacing h) in
    omega (arith, (le-div_iff_mul-le {k = spacing} {x = p / spacing + 1} {y = x} h).1 multiple)

pub reached : (p x spacing : ℕ) → 0 < spacing → p / spacing < x / spacing → p + (spacing - p % spacing) ≤ x
reached p x spacing h more =
    let multiple : (p / spacing + 1) * spacing ≤ x = (le-div_iff_mul-le {k = spacing} {x = p / spacing + 1} {y = x} h).0 (omega arith) in
    omega (arith, next_multiple p x spacing h)

no_less : (p q spacing : ℕ) → 0 < spacing → p ≤ q → p / spacing ≤ q / spacing
no_less p q spacing h le =
    let multiple : p / spacing * spacing ≤ q = omega arith in
    (le-div_iff_mul-le {k = spacing} {x = p / spacing} {y = q} h).1 multiple

-- a clock that gains the most comes no farther, and one that gains the least comes as far
module _ (course : Course) (at ticks left : ℕ) (drift : WithinDrift 200 (reading course at) (reading course (at + ticks))) where
  pub early_by : ticks ≡ (left - 1) / 1000200 → 0 < left → phase course (at + ticks) < phase course at + left
  early_by is some = omega (arith, drift.most)

  pub late_by : ticks ≡ left / 999800 + min 1 (left % 999800) → phase course at + left ≤ phase course (at + ticks)
  late_by is = omega (arith, drift.least, div_ceil_times left 999800 (omega arith))

-- the clock of a station of a scenario
module _ (s : Setup) (station : ℕ) (course : Course) (is : slice_get s.clocks (station - 1) ≡ Some course) where
  -- keeps to the drift of every clock
  pub steady : IsSetup s → All (λ r. unsigned_abs r.rate ≤ 200) course.rates
  steady kept =
      let its : get_or s.clocks (station - 1) course ≡ course = get_or_from_slice_get s.clocks (station - 1) course course is in
      let clock : IsClock s.settings.drift course =
      subst (λ (c : Course). IsClock s.settings.drift c) its
      (All-get_or (λ c. IsClock s.settings.drift c) s.clocks (station - 1) course (slice_get_within s.clocks (station - 1) course is) kept.clocks) in
      clock.course.in_range

  -- numbers the samples by its phase
  numbers : (t : ℕ) → number_of s station t ≡ phase course t / (1000000 * s.settings.spacing)
  numbers t =
      let there : slice_get (map (λ clock. phase clock t) s.clocks) (station - 1) ≡ Some (phase course t) =
      slice_get-map (λ clock. phase clock t) s.clocks (station - 1) ∙ ap (λ clock. option_map (λ clock. phase clock t) clock) is in
      ap (λ (p : ℕ). p / 1000000 / s.settings.spacing) (get_or_from_slice_get (map (λ clock. phase clock t) s.clocks) (station - 1) (phase course t) 0 there)
      ∙ div-div-eq-div-mul (phase course t) 1000000 s.settings.spacing

  module _ (from tick : ℕ) (begun : 1 ≤ from) (wide : 0 < 1000000 * s.settings.spacing) where
    abbrev spacing : ℕ
    spacing = 1000000 * s.settings.spacing

    abbrev next : ℕ
    next = phase course (from - 1) + (spacing - phase course (from - 1) % spacing)

    -- takes the next sample at the first tick at which its phase has come to the next multiple of the spacing
    pub is_next : next ≤ phase course tick → ((t : ℕ) → next ≤ phase course t → tick ≤ t) → IsNextSample s station from tick
    is_next come first =
        let far : from - 1 < tick = comes_before course (from - 1) tick (omega arith) in
        record {
          later = omega arith;
          sample = rw (numbers (tick - 1), numbers tick) (rises (nat_le (phase course tick / spacing) (phase course (tick - 1) / spacing)) refl);
          least = λ t late sample. first t (reached (phase course (from - 1)) (phase course t) spacing wide (higher t late (rw (numbers (t - 1), numbers t) at sample)));
        }
      where
        rises : (b : Bool) → nat_le (phase course tick / spacing) (phase course (tick - 1) / spacing) ≡ b
            → phase course (tick - 1) / spacing < phase course tick / spacing
        rises false e = grind (arith, nat_tests)
        rises true e =
            let no_less : phase course tick / spacing ≤ phase course (tick - 1) / spacing = grind (arith, nat_tests) in
            let more = above (phase course (from - 1)) (phase course tick) spacing wide come in
            let early = first (tick - 1) (reached (phase course (from - 1)) (phase course (tick - 1)) spacing wide (omega arith)) in
            let far : from - 1 < tick = comes_before course (from - 1) tick (omega arith) in
            absurd (omega arith)

        higher : (t : ℕ) → from ≤ t → phase course (t - 1) / spacing < phase course t / spacing
            → phase course (from - 1) / spacing < phase course t / spacing
        higher t late sample =
            omega (arith, no_less (phase course (from - 1)) (phase course (t - 1)) spacing wide (never_falls course (from - 1) (t - 1) (omega arith)))

-- there is no sample at tick 0
pub from_start : (s : Setup) (station tick : ℕ) → IsNextSample s station 1 tick → IsNextSample s station 0 tick
from_start s station tick next = record { later = omega arith; sample = next.sample; least = later }
  where
    later : (t : ℕ) → 0 ≤ t → IsSample s station t → tick ≤ t
    later zero h sample = absurd (omega (arith, sample))
    later (suc t) h sample = next.least (suc t) (omega arith) sample

-- what holds of three numbers at their places
pub of_three : (P : ℕ → ℕ → Type 0) (a b c : ℕ) → P 0 a → P 1 b → P 2 c → (k : ℕ) → k < 3 → P k (slice_index (a ∷ b ∷ c ∷ []) k)
of_three P a b c pa pb pc zero h = pa
of_three P a b c pa pb pc (suc zero) h = pb
of_three P a b c pa pb pc (suc (suc zero)) h = pc
of_three P a b c pa pb pc (suc (suc (suc k))) h = absurd (omega (arith, h))
