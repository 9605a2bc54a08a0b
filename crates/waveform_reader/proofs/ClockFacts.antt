-- The clocks of a scenario, as a journal sees them.
use Rattle.std.proofs.Common.{◌≡◌, ap, ◌∙◌, arith, ℕ, ◌-◌, ◌≤◌, List, get_or, unsigned_abs}
use Rattle.std.specs.Prelude.{All, AllPairs, Contains, slice_index}
use Rattle.std.proofs.lemmas.List.{get_or-map}
use Rattle.std.proofs.lemmas.List.Elements.{All-contains, All-get_or, All-weaker}
use Rattle.pingpong.specs.Clock.{Course, phase, reading}
use Rattle.pingpong.specs.Journal.{Follows, IsJournal, read_at}
use Rattle.pingpong.specs.Reading.{Reading, WithinDrift}
use Rattle.pingpong.specs.declared.clock.RateFrom.{RateFrom}
use Rattle.pingpong.specs.declared.journal.Entry.{Entry}
use Rattle.waveform_reader.specs.Scenario.{Setup, phases_at}
use Rattle.waveform_reader.specs.Sound.{IsClock, IsRate, IsSetup, true_clock}

-- what is said of a clock whose rates all lie within a drift
abbrev pub KeepsDrift : Type 0
KeepsDrift = (drift : ℕ) (course : Course) → All (λ r. unsigned_abs r.rate ≤ drift) course.rates → (first last : ℕ) → first ≤ last
    → WithinDrift drift (reading course first) (reading course last)

-- a reading of a phase
abbrev reading_of : ℕ → ℕ → Reading
reading_of time phase = record { time = time; phase = phase }

module _ (keeps : KeepsDrift) where
  -- a clock of a scenario
  pub clock_kept : (drift : ℕ) (clock : Course) → IsClock drift clock → (first last : ℕ) → first ≤ last → WithinDrift drift (reading clock first) (reading clock last)
  clock_kept drift clock is first last order =
      keeps drift clock (All-weaker (IsRate drift) (λ (r : RateFrom). unsigned_abs r.rate ≤ drift) (λ r rate. rate.slow) clock.rates is.rates) first last order

  -- each clock of it
  pub each_kept : (s : Setup) (clock : Course) (first last : ℕ) → IsSetup s → Contains s.clocks clock → first ≤ last
      → WithinDrift s.settings.drift (reading clock first) (reading clock last)
  each_kept s clock first last kept is order =
      clock_kept s.settings.drift clock (All-contains (IsClock s.settings.drift) s.clocks clock kept.clocks is) first last order

  -- entries that have their phases
  follows : (s : Setup) (earlier later : Entry) → IsSetup s → earlier.time ≤ later.time → earlier.phases ≡ phases_at s earlier.time → later.phases ≡ phases_at s later.time
      → Follows s.settings.drift earlier later
  follows s earlier later kept order is_earlier is_later = record {
    order = order;
    clocks = λ station low high. rw (at earlier station is_earlier low high, at later station is_later low high)
        (clock_kept s.settings.drift (clock station) (All-get_or (IsClock s.settings.drift) s.clocks (station - 1) true_clock (omega (arith, kept.three, low, high)) kept.clocks)
        earlier.time later.time order);
  }
    where
      clock : ℕ → Course
      clock station = get_or s.clocks (station - 1) true_clock

      at : (entry : Entry) (station : ℕ) → entry.phases ≡ phases_at s entry.time → 1 ≤ station → station ≤ 3 → read_at station entry ≡ reading (clock station) entry.time
      at entry station is low high =
          ap (reading_of entry.time)
          (ap (λ (phases : List ℕ). slice_index phases (station - 1)) is
          ∙ get_or-map (λ (c : Course). phase c entry.time) s.clocks (station - 1) true_clock 0 (omega (arith, kept.three, low, high)))

  -- a journal of them
  pub journal_kept : (s : Setup) (journal : List Entry) → IsSetup s → AllPairs (λ earlier later. earlier.time ≤ later.time) journal
      → All (λ entry. entry.phases ≡ phases_at s entry.time) journal → IsJournal s.settings.drift journal
  journal_kept s journal kept order phases i j d before within =
      follows s (get_or journal i d) (get_or journal j d) kept (order i j d before within) (phases i d (omega arith)) (phases j d within)
