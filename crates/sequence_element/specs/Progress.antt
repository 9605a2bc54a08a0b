-- What a sequence element keeps of the sets that it judged, and which lists of sets it stands for.
use Rattle.std.specs.Prelude.{ℕ, List, slice_index}
use Rattle.ld_base.specs.declared.fields.Fields.{Fields}
use Rattle.ld_base.specs.declared.phases.SampleSet.{SampleSet}
use Rattle.phasor.specs.Window.{Kept}
use Rattle.phasor.specs.Window as window
use Rattle.trip_logic.specs.Progress.{IsRun}
use Rattle.sequence_element.specs.SequenceOut.{is_zero_outside, is_negative_outside}

-- the settings, the pickups of the zero and the negative sequence, the last cycle of sets, and how many consecutive sets were outside in
-- the one and in the other, up to the count of a trip
pub record Progress : Type 0 where
  pub settings : Fields
  pub zero_pickup : ℕ
  pub negative_pickup : ℕ
  pub window : Kept
  pub runs : List ℕ

-- a sequence element stands for the sets that it judged
pub record StandsFor (element : Progress) (judged : List SampleSet) : Type 0 where
  pub window : window.StandsFor element.window judged
  pub zero_run : IsRun (is_zero_outside element.settings element.zero_pickup) element.settings.cycle element.settings.count judged
      element.window.next (slice_index element.runs 0)
  pub negative_run : IsRun (is_negative_outside element.settings element.negative_pickup) element.settings.cycle element.settings.count judged
      element.window.next (slice_index element.runs 1)
