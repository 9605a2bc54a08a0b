-- The run of a test, which is how many consecutive sets passed it: what one set more makes of it, and the verdict by it.
use Rattle.std.specs.Prelude.{ℕ, suc, ◌≡◌, ◌+◌, ◌<◌, ◌≤◌, min, Bool, true, false, if◌then◌else◌, is_none, List, [], ◌∷◌, ◌++◌}
use Rattle.std.proofs.Common.{refl, ap, sym, ◌∙◌, arith}
use Rattle.std.proofs.lemmas.Bool.{and_parts, true≢false, false_from_ne_true}
use Rattle.std.proofs.lemmas.Bool.Decides.{nat_tests}
use Rattle.ld_base.specs.declared.phases.SampleSet.{SampleSet}
use Rattle.ld_base.specs.Settings.{is_cycle}
use Rattle.phasor.specs.Sum.{Sums}
use Rattle.phasor.specs.Window.{Kept, StandsFor}
use Rattle.trip_logic.specs.declared.verdict.Verdict.TheVariants.{Waiting, Restrain, Outside, Trip}
use Rattle.trip_logic.specs.Counting.{run_after, verdict_of}
use Rattle.trip_logic.specs.Progress.{IsRun}
use Rattle.trip_logic.specs.TripAt.{Test, OutBy, outs_before_by, TripBy, verdict_by}
use Rattle.trip_logic.proofs.Outs.{outs_before_by-push, outs_before_by-fewer, OutBy-next}

-- a cycle is more than one sample
cycle_long : (c : ℕ) → is_cycle c ≡ true → 1 < c
cycle_long c h = grind (arith, nat_tests)

module _ (test : Test) (c count : ℕ) where
  -- a test that is passed at one set more has a run that is longer by one
  IsRun-longer : (judged : List SampleSet) (set : SampleSet) (run : ℕ) → IsRun test c count judged set.number run
      → OutBy test c (judged ++ set ∷ []) set.number ≡ true → IsRun test c count (judged ++ set ∷ []) (suc set.number) (min count (run + 1))
  IsRun-longer judged set run before out = record {
    capped = omega arith;
    outside = outs_before_by-fewer test c _ (min count (run + 1)) (suc run) (suc set.number) (omega arith) (more run ∙ before.outside);
    ends = λ room.
        let longer : min count (run + 1) ≡ suc run = omega arith in
        rw (more (min count (run + 1)), longer) (before.ends (omega arith));
  }
    where
      more : (k : ℕ) → outs_before_by test c (judged ++ set ∷ []) (suc k) (suc set.number) ≡ outs_before_by test c judged k set.number
      more k = rw (out, outs_before_by-push test c judged set k set.number (omega arith)) refl

  -- a test that isn't passed at a set has no run there
  IsRun-none : (judged : List SampleSet) (n : ℕ) → OutBy test c judged n ≡ false → IsRun test c count judged (suc n) 0
  IsRun-none judged n inside = record { capped = omega arith; outside = refl; ends = λ room. rw inside refl }

  -- the run of a test after one set more
  pub IsRun-push : (judged : List SampleSet) (set : SampleSet) (window : Kept) (run : ℕ) → StandsFor window judged
      → is_cycle c ≡ true
      → window.next ≤ set.number → IsRun test c count judged window.next run
      → IsRun test c count (judged ++ set ∷ []) (suc set.number) (run_after run (OutBy test c (judged ++ set ∷ []) set.number) count)
  IsRun-push judged set window run stands cycle later before = by_out (OutBy test c (judged ++ set ∷ []) set.number) refl
    where
      by_out : (out : Bool) → OutBy test c (judged ++ set ∷ []) set.number ≡ out
          → IsRun test c count (judged ++ set ∷ []) (suc set.number) (run_after run out count)
      by_out true out =
          let next = OutBy-next test c judged set window stands (cycle_long c cycle) later out in
          IsRun-longer judged set run (rw next at before) out
      by_out false inside = IsRun-none (judged ++ set ∷ []) set.number inside

  -- the verdict at a set by the test's run
  pub verdict_by_run : (judged : List SampleSet) (n run : ℕ) → IsRun test c count judged (suc n) run
      → verdict_by test c count judged n ≡ (if is_none (Sums c judged n) then Waiting else verdict_of run count)
  verdict_by_run judged n run is =
      ap (λ v. if is_none (Sums c judged n) then Waiting else v) (choice_by_run _ _ run count is.capped all fewer some none)
    where
      -- the choice between trip, outside and restrain by a run
      choice_by_run : (trip out : Bool) (run count : ℕ) → run ≤ count → (run ≡ count → trip ≡ true) → (run < count → trip ≡ false)
          → (0 < run → out ≡ true) → (run ≡ 0 → run < count → out ≡ false)
          → (if trip then Trip else if out then Outside else Restrain) ≡ verdict_of run count
      choice_by_run trip out run count capped all fewer some none = grind (arith, nat_tests)

      all : run ≡ count → TripBy test c count judged n ≡ true
      all capped = rw capped at is.outside

      fewer : run < count → TripBy test c count judged n ≡ false
      fewer room = false_from_ne_true _ (λ trip. true≢false (sym (outs_before_by-fewer test c judged (suc run) count (suc n) room trip) ∙ is.ends room))

      some : 0 < run → OutBy test c judged n ≡ true
      some longer = (and_parts _ _ (outs_before_by-fewer test c judged 1 run (suc n) longer is.outside)).0

      none : run ≡ 0 → run < count → OutBy test c judged n ≡ false
      none zero room = false_from_ne_true _ (λ out. true≢false (rw (zero, out) at (is.ends room)))
