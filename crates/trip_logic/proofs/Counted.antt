-- One set more for a counter: the run of its test after the set, and the verdict by it.
use Rattle.std.specs.Prelude.{ℕ, suc, ◌≡◌, ◌+◌, ◌≤◌, true, if◌then◌else◌, List, [], ◌∷◌, ◌++◌, Option, is_none}
use Rattle.std.proofs.Common.{sym, arith}
use Rattle.ld_base.specs.declared.phases.SampleSet.{SampleSet}
use Rattle.ld_base.specs.Settings.{is_cycle}
use Rattle.phasor.specs.Point.{Point}
use Rattle.phasor.specs.Sum.{sums_before, Sums}
use Rattle.phasor.specs.Window as window
use Rattle.trip_logic.specs.declared.verdict.Verdict.TheVariants.{Waiting}
use Rattle.trip_logic.specs.Counting.{run_after, verdict_of}
use Rattle.trip_logic.specs.Progress.{IsRun}
use Rattle.trip_logic.specs.TripAt.{Test, passes_where_known, verdict_by}
use Rattle.trip_logic.proofs.Runs.{IsRun-push, verdict_by_run}

-- a window takes a set, and tells its sums
module _ (c : ℕ) (judged : List SampleSet) (set : SampleSet) (old new : window.Kept) (sums : Option (List (List Point)))
    (stands : window.StandsFor old judged) (is_cycle : is_cycle c ≡ true) (later : old.next ≤ set.number)
    (cycle : new.cycle ≡ c) (next : new.next ≡ set.number + 1) (sums_is : sums ≡ sums_before new.cycle (judged ++ set ∷ []) new.next) where
  -- the sums are those at the set
  sums_now : sums ≡ Sums c (judged ++ set ∷ []) set.number
  sums_now = let last : new.next ≡ suc set.number = omega arith in rw (cycle, last) at sums_is

  module _ (test : Test) (count run : ℕ) (before : IsRun test c count judged old.next run) where
    -- the run with the set
    abbrev run_now : ℕ
    run_now = run_after run (passes_where_known test sums) count

    run_is : IsRun test c count (judged ++ set ∷ []) (suc set.number) run_now
    run_is = rw sums_now (IsRun-push test c count judged set old run stands is_cycle later before)

    -- it goes on from there
    pub run_counted : IsRun test c count (judged ++ set ∷ []) new.next run_now
    run_counted = let last : new.next ≡ suc set.number = omega arith in rw last run_is

    -- and the verdict by it is that at the set
    pub verdict_counted : (if is_none sums then Waiting else verdict_of run_now count) ≡ verdict_by test c count (judged ++ set ∷ []) set.number
    verdict_counted = rw sums_now (sym (verdict_by_run test c count (judged ++ set ∷ []) set.number _ (rw sums_now at run_is)))
