-- What a trip rule keeps and answers after one set more.
use Rattle.std.specs.Prelude.{ℕ, ◌≡◌, ◌+◌, ◌<◌, ◌≤◌, Bool, false, if◌then◌else◌, List, [], ◌∷◌, ◌++◌, Option, Some, None, is_none, slice_index}
use Rattle.std.proofs.Common.{◌-◌, drop, length, refl, arith}
use Rattle.ld_base.specs.declared.phases.SampleSet.{SampleSet}
use Rattle.ld_base.specs.declared.fields.Fields.{Fields}
use Rattle.ld_base.specs.Settings.{AreInRange}
use Rattle.phasor.specs.Point.{Point}
use Rattle.phasor.specs.Sum.{of_three, sums_before}
use Rattle.phasor.specs.Window as window
use Rattle.phasor.proofs.Threes.{of_three_at}
use Rattle.trip_logic.specs.declared.verdict.Verdict.TheVariants.{Waiting}
use Rattle.trip_logic.specs.Counting.{run_after, verdict_of}
use Rattle.trip_logic.specs.Progress.{Progress, StandsFor, most_recent}
use Rattle.trip_logic.proofs.Counted.{run_counted, verdict_counted}
use Rattle.trip_logic.proofs.Recents.{AreLast-push}
use Rattle.trip_logic.proofs.Steps.{phases_outside, is_known_outside, runs_after, verdicts_of}
use Rattle.trip_logic.specs.TripAt.{is_outside, passes_where_known, verdict, verdicts}

-- values that are equal phase by phase
of_three_same : {A : Type 0} (one other : ℕ → A) → ((phase : ℕ) → phase < 3 → one phase ≡ other phase) → of_three one ≡ of_three other
of_three_same one other same = rw (same 0 (omega arith), same 1 (omega arith), same 2 (omega arith)) refl

-- who is known to be outside by the sums
is_known_outside-phases : (f : Fields) (sums : Option (List (List Point))) (phase : ℕ) → phase < 3
    → is_known_outside (phases_outside f sums) phase ≡ passes_where_known (is_outside f phase) sums
is_known_outside-phases f None phase within = refl
is_known_outside-phases f (Some sums) phase within = of_three_at (λ phase. is_outside f phase sums) phase false within

-- it is known where there are sums
is_none-phases : (f : Fields) (sums : Option (List (List Point))) → is_none (phases_outside f sums) ≡ is_none sums
is_none-phases f None = refl
is_none-phases f (Some sums) = refl

-- a trip rule goes on with one set more: the sums of its window, who is outside by them, and the runs after that
module _ (old new : Progress) (judged : List SampleSet) (set : SampleSet) (sums : Option (List (List Point))) (outside : Option (List Bool))
    (stands : StandsFor old judged) (in_range : AreInRange old.settings) (later : old.window.next ≤ set.number)
    (settings : new.settings ≡ old.settings) (cycle : new.window.cycle ≡ old.settings.cycle) (next : new.window.next ≡ set.number + 1)
    (kept : window.StandsFor new.window (judged ++ set ∷ []))
    (recent : new.recent ≡ drop (length (old.recent ++ set ∷ []) - most_recent old.settings) (old.recent ++ set ∷ []))
    (sums_is : sums ≡ sums_before new.window.cycle (judged ++ set ∷ []) new.window.next)
    (outside_is : outside ≡ phases_outside old.settings sums) (runs : new.runs ≡ runs_after old.runs outside old.settings.count) where
  -- each phase's run is the one that was counted
  run_is : (phase : ℕ) → phase < 3
      → slice_index new.runs phase ≡ run_after (slice_index old.runs phase) (passes_where_known (is_outside old.settings phase) sums) old.settings.count
  run_is phase within = rw (runs, of_three_at {A = ℕ} _ phase 0 within, outside_is, is_known_outside-phases old.settings sums phase within) refl

  -- the rule stands for the sets with this one
  StandsFor-push : StandsFor new (judged ++ set ∷ [])
  StandsFor-push = record {
    window = kept;
    recent = rw (settings, recent) (AreLast-push (most_recent old.settings) judged old.recent set stands.recent);
    runs = λ phase within. rw (settings, run_is phase within)
        (run_counted old.settings.cycle judged set old.window new.window sums stands.window in_range.cycle later cycle next sums_is
        (is_outside old.settings phase) old.settings.count _ (stands.runs phase within));
  }

  -- the verdicts by the runs are those at the set
  verdicts_now : verdicts_of new.runs outside old.settings.count ≡ verdicts old.settings (judged ++ set ∷ []) set.number
  verdicts_now = of_three_same _ _ each
    where
      each : (phase : ℕ) → phase < 3 → (if is_none outside then Waiting else verdict_of (slice_index new.runs phase) old.settings.count)
          ≡ verdict old.settings (judged ++ set ∷ []) set.number phase
      each phase within =
          rw (outside_is, is_none-phases old.settings sums, run_is phase within)
          (verdict_counted old.settings.cycle judged set old.window new.window sums stands.window in_range.cycle later cycle next sums_is
          (is_outside old.settings phase) old.settings.count _ (stands.runs phase within))

  -- so both hold after the set
  pub judged_push : StandsFor new (judged ++ set ∷ [])
      × (verdicts_of new.runs outside old.settings.count ≡ verdicts old.settings (judged ++ set ∷ []) set.number)
  judged_push = (StandsFor-push, verdicts_now)
