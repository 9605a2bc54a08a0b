-- Rows that break no rule are those of a scenario which keeps what every scenario keeps.
use Rattle.std.specs.Prelude.{fold}
use Rattle.std.specs.Option.{option_or}
use Rattle.std.proofs.Common.{◌≡◌, ℕ, ◌+◌, List, [], ◌∷◌, length, Option, None, Some, Ok, refl, subst}
use Rattle.std.proofs.lemmas.Bool.{and_parts}
use Rattle.ld_base.specs.declared.fields.Fields.{Fields}
use Rattle.ld_base.specs.declared.reason.Reason.{Reason}
use Rattle.ld_base.proofs.Accepted.{AreInRange-from_no_fault}
use Rattle.row_reader.specs.Faults.{first_fault, unless}
use Rattle.row_reader.specs.Rows.{Row}
use Rattle.row_reader.specs.declared.fault.Fault.{Fault}
use Rattle.setting_rows.specs.Head.{body_rows, head_of, head_rows, no_settings}
use Rattle.setting_rows.specs.declared.setting.Known.TheVariants as known
use Rattle.setting_rows.specs.declared.setting.Setting.{Setting}
use Rattle.setting_rows.proofs.HeadKept.{none-set, settings-kept, whole-parts}
use Rattle.waveform_reader.specs.Draft.{Draft, no_records, row_fault, row_faults, with_row}
use Rattle.waveform_reader.specs.Scenario.{Setup, draft_of, fault_of, scenario_of, setup_of}
use Rattle.waveform_reader.specs.Sound.{IsDraft, IsSetup}
use Rattle.waveform_reader.proofs.DraftKept.{IsDraft-none, IsDraft-row}
use Rattle.waveform_reader.proofs.SetupKept.{setup_kept}

-- the records of rows that break no rule
records-kept : (given : List Setting) (f : Fields) (row : ℕ) (draft : Draft) (rows : List Row) → IsDraft f draft → first_fault row (row_faults given f draft rows) ≡ None
    → IsDraft f (fold (with_row f.drift) draft rows)
records-kept given f row draft [] kept good = kept
records-kept given f row draft (first ∷ rows) kept good = go (row_fault given f draft first) refl (records-kept given f (row + 1) (with_row f.drift draft first) rows)
  where
    go : (fault : Option Reason) → row_fault given f draft first ≡ fault
        → (IsDraft f (with_row f.drift draft first) → first_fault (row + 1) (row_faults given f (with_row f.drift draft first) rows) ≡ None
        → IsDraft f (fold (with_row f.drift) (with_row f.drift draft first) rows))
        → IsDraft f (fold (with_row f.drift) (with_row f.drift draft first) rows)
    go None none rest = rest (IsDraft-row given f draft first kept none) (rw none at good)
    go (Some reason) some rest = absurd (let bad = rw some at good in cc)

-- a fault is none where each of its causes is
none-of : (one other : Option Fault) → option_or one other ≡ None → (one ≡ None) × (other ≡ None)
none-of None other none = (refl, none)
none-of (Some fault) other none = absurd (cc)

good-fault : (fault : Option Fault) (made s : Setup) → unless fault made ≡ Ok s → (fault ≡ None) × (made ≡ s)
good-fault None made s is = (refl, (let same : made ≡ s = cc in same))
good-fault (Some fault) made s is = absurd (cc)

-- so the scenario of rows keeps what every scenario keeps
pub accepted-rows : (rows : List Row) (s : Setup) → scenario_of rows ≡ Ok s → IsSetup s
accepted-rows rows s is =
    let head = head_of known.Scenario rows in
    let (none, made) = good-fault (fault_of rows) (setup_of head.fields head.end (draft_of head (body_rows rows))) s is in
    let (heading, behind) = none-of _ _ none in
    let (whole, body) = none-of _ _ behind in
    let (given, accepted) = whole-parts known.Scenario head whole in
    let end = settings-kept known.Scenario 1 no_settings (head_rows rows) none-set heading in
    let records = records-kept head.given head.fields (length (head_rows rows) + 1) no_records (body_rows rows) (IsDraft-none head.fields) body in
    subst IsSetup made
    (setup_kept head.fields head.end (draft_of head (body_rows rows)) records (AreInRange-from_no_fault head.fields accepted).drift.1 accepted (end (and_parts _ _ given).1))
