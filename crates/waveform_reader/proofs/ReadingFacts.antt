-- How the rows that are left to read go on to say what all rows say.
use Rattle.std.proofs.Common.{◌≡◌, ◌∙◌, sym, refl, ◌+◌, List, [], ◌∷◌, drop, Some, None}
use Rattle.std.specs.Prelude.{fold, slice_get}
use Rattle.ld_base.specs.declared.reason.Reason.{Reason}
use Rattle.row_reader.specs.Faults.{first_fault}
use Rattle.row_reader.specs.Rows.{Row}
use Rattle.setting_rows.specs.Ahead.{Ahead}
use Rattle.setting_rows.specs.Head.{Head}
use Rattle.waveform_reader.specs.Draft.{Draft, no_records, row_fault, row_faults, with_row}
use Rattle.waveform_reader.specs.Progress.{HasDraft}
use Rattle.waveform_reader.specs.Sound.{IsDraft}
use Rattle.waveform_reader.specs.Scenario.{body_fault, draft_of}
use Rattle.waveform_reader.proofs.DraftKept.{IsDraft-none, IsDraft-row}

-- the rows behind the settings that are left say the rest
pub record IsGoing (head : Head) (all : Ahead) (draft : Draft) (rows : Ahead) : Type 0 where
  pub whole : draft_of head all.left ≡ fold (with_row head.fields.drift) draft rows.left
  pub faults : body_fault head (all.taken + 1) all.left ≡ first_fault (rows.taken + 1) (row_faults head.given head.fields draft rows.left)
  pub sound : IsDraft head.fields draft

-- at first all are left
pub IsGoing-first : (head : Head) (all : Ahead) → IsGoing head all no_records all
IsGoing-first head all = record { whole = refl; faults = refl; sound = IsDraft-none head.fields }

-- a good row more is taken
pub IsGoing-more : (head : Head) (all : Ahead) (draft : Draft) (rows : Ahead) (row : Row) → slice_get rows.left 0 ≡ Some row
    → row_fault head.given head.fields draft row ≡ None → IsGoing head all draft rows
    → IsGoing head all (with_row head.fields.drift draft row) (record { taken = rows.taken + 1; left = drop 1 rows.left })
IsGoing-more head all draft rows row next good so_far = by rows.left refl
  where
    by : (left : List Row) → rows.left ≡ left → IsGoing head all (with_row head.fields.drift draft row) (record { taken = rows.taken + 1; left = drop 1 rows.left })
    by [] e = let found = rw e at next in cc found
    by (first ∷ rest) e =
        let is : first ≡ row = let found = rw e at next in cc found in
        let fault : row_fault head.given head.fields draft first ≡ None = rw is good in
        let sound : IsDraft head.fields (with_row head.fields.drift draft first) = IsDraft-row head.given head.fields draft first so_far.sound fault in
        rw (e, ← is) record { whole = so_far.whole ∙ rw e refl; faults = so_far.faults ∙ rw (e, fault) refl; sound = sound }

-- the next row breaks a rule
pub IsGoing-bad : (head : Head) (all : Ahead) (draft : Draft) (rows : Ahead) (row : Row) (reason : Reason) → slice_get rows.left 0 ≡ Some row
    → row_fault head.given head.fields draft row ≡ Some reason → IsGoing head all draft rows
    → body_fault head (all.taken + 1) all.left ≡ Some (record { row = rows.taken + 1; reason = reason })
IsGoing-bad head all draft rows row reason next bad so_far = by rows.left refl
  where
    by : (left : List Row) → rows.left ≡ left → body_fault head (all.taken + 1) all.left ≡ Some (record { row = rows.taken + 1; reason = reason })
    by [] e = let found = rw e at next in cc found
    by (first ∷ rest) e =
        let is : first ≡ row = let found = rw e at next in cc found in
        let fault : row_fault head.given head.fields draft first ≡ Some reason = rw is bad in
        so_far.faults ∙ rw (e, fault) refl

-- no row is left
pub IsGoing-end : (head : Head) (all : Ahead) (draft : Draft) (rows : Ahead) → slice_get rows.left 0 ≡ None → IsGoing head all draft rows → HasDraft head all draft
IsGoing-end head all draft rows none so_far = by rows.left refl
  where
    by : (left : List Row) → rows.left ≡ left → HasDraft head all draft
    by [] e = record { whole = sym (so_far.whole ∙ rw e refl); good = so_far.faults ∙ rw e refl; sound = so_far.sound }
    by (first ∷ rest) e = let found = rw e at none in cc found
