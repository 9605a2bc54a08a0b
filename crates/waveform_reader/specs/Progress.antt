-- What was read when the rows end.
use Rattle.std.specs.Prelude.{◌≡◌, ◌+◌, None}
use Rattle.setting_rows.specs.Ahead.{Ahead}
use Rattle.waveform_reader.specs.Draft.{Draft}
use Rattle.setting_rows.specs.Head.{Head}
use Rattle.waveform_reader.specs.Sound.{IsDraft}
use Rattle.waveform_reader.specs.Scenario.{body_fault, draft_of}

-- the records of all rows behind the settings were read
pub record HasDraft (head : Head) (old : Ahead) (draft : Draft) : Type 0 where
  pub whole : draft ≡ draft_of head old.left
  pub good : body_fault head (old.taken + 1) old.left ≡ None
  pub sound : IsDraft head.fields draft
