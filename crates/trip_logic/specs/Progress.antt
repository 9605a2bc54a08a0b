-- What a trip rule keeps of the sets that it judged, and which lists of sets it stands for.
use Rattle.std.specs.Prelude.{◌≡◌, ℕ, suc, ◌+◌, ◌<◌, ◌≤◌, min, true, false, List, ◌++◌, length, slice_index}
use Rattle.ld_base.specs.declared.fields.Fields.{Fields}
use Rattle.ld_base.specs.declared.phases.SampleSet.{SampleSet}
use Rattle.phasor.specs.Window.{Kept}
use Rattle.phasor.specs.Window as window
use Rattle.trip_logic.specs.TripAt.{Test, outs_before_by, is_outside}

-- the settings, the last cycle of sets, for each phase how many consecutive sets were outside, up to the count of a trip, and the
-- sets that may have led to a trip
pub record Progress : Type 0 where
  pub settings : Fields
  pub window : Kept
  pub runs : List ℕ
  pub recent : List SampleSet

-- as many sets as may have led to a trip: a full cycle for each of the consecutive sets outside
abbrev pub most_recent : Fields → ℕ
most_recent f = f.cycle + f.count

-- the last sets judged, up to that many
pub record AreLast (most : ℕ) (judged recent : List SampleSet) : Type 0 where
  pub before : List SampleSet
  pub parts : judged ≡ before ++ recent
  pub many : length recent ≡ min (length judged) most

-- the test was passed in exactly the last `run` sets judged before `stop`, or in at least so many where that is the count of a trip
pub record IsRun (test : Test) (c count : ℕ) (judged : List SampleSet) (stop run : ℕ) : Type 0 where
  pub capped : run ≤ count
  pub outside : outs_before_by test c judged run stop ≡ true
  pub ends : run < count → outs_before_by test c judged (suc run) stop ≡ false

-- a trip rule stands for the sets that it judged
pub record StandsFor (trip : Progress) (judged : List SampleSet) : Type 0 where
  pub window : window.StandsFor trip.window judged
  pub recent : AreLast (most_recent trip.settings) judged trip.recent
  pub runs : (phase : ℕ) → phase < 3
      → IsRun (is_outside trip.settings phase) trip.settings.cycle trip.settings.count judged trip.window.next (slice_index trip.runs phase)
