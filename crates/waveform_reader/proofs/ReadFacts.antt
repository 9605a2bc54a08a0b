-- What the settings and the rows behind them say together.
use Rattle.std.proofs.Common.{◌≡◌, ◌∙◌, sym, refl, ap, arith, ℕ, ◌+◌, true, false, List, length, Option, Some, Ok}
use Rattle.std.specs.Option.{option_or}
use Rattle.ld_base.specs.declared.reason.Reason.TheVariants as reason
use Rattle.row_reader.specs.Faults.{first_fault, unless}
use Rattle.row_reader.specs.Rows.{Row}
use Rattle.row_reader.specs.declared.fault.Fault.{Fault}
use Rattle.setting_rows.specs.Ahead.{Ahead, HasHead}
use Rattle.waveform_reader.specs.Draft.{Draft}
use Rattle.setting_rows.specs.Head.{Head, body_rows, head_of, head_rows, heading_faults, is_complete, no_settings, whole_fault}
use Rattle.setting_rows.specs.Refusals.{Tells}
use Rattle.setting_rows.specs.declared.refusal.Misread.{Misread}
use Rattle.setting_rows.specs.declared.refusal.Misread.TheVariants as misread
use Rattle.setting_rows.specs.declared.setting.Known.TheVariants as known
use Rattle.waveform_reader.specs.Progress.{HasDraft}
use Rattle.waveform_reader.specs.Refusals.{Refuses, answer_of}
use Rattle.waveform_reader.specs.Scenario.{body_fault, draft_of, fault_of, scenario_of, setup_of}
use Rattle.waveform_reader.specs.declared.reading.ReadScenario.TheVariants as answer

-- all rows, none of which is taken
abbrev start : List Row → Ahead
start rows = record { taken = 0; left = rows }

-- a fault among the settings is the first
pub refused_head : (rows : List Row) (m : Misread) → Tells (first_fault 1 (heading_faults known.Scenario no_settings (head_rows rows))) m → Refuses (scenario_of rows) (answer_of m)
refused_head rows misread.NoMemory tells = tt
refused_head rows (misread.Bad row broken) tells = rw tells refl

-- the fault of good settings by that of the whole and of the rows behind
with_head : (rows : List Row) (head : Head) (behind : Ahead) → HasHead known.Scenario (start rows) behind head
    → fault_of rows ≡ option_or (whole_fault known.Scenario head) (body_fault head (behind.taken + 1) behind.left)
with_head rows head behind h =
    ap (λ (o : Option Fault). option_or o (option_or (whole_fault known.Scenario (head_of known.Scenario rows)) (body_fault (head_of known.Scenario rows) (length (head_rows rows) + 1) (body_rows rows)))) h.good
    ∙ ap (λ (x : Head). option_or (whole_fault known.Scenario x) (body_fault x (length (head_rows rows) + 1) (body_rows rows))) (sym h.whole)
    ∙ ap (λ (n : ℕ). option_or (whole_fault known.Scenario head) (body_fault head n (body_rows rows))) number
    ∙ ap (λ (left : List Row). option_or (whole_fault known.Scenario head) (body_fault head (behind.taken + 1) left)) (sym h.left)
  where
    number : length (head_rows rows) + 1 ≡ behind.taken + 1
    number = omega (arith, h.taken)

-- settings that aren't whole are refused
pub refused_whole : (rows : List Row) (head : Head) (behind : Ahead) → HasHead known.Scenario (start rows) behind head → is_complete known.Scenario head ≡ false
    → Refuses (scenario_of rows) (answer.Bad 0 reason.Settings)
refused_whole rows head behind h broken =
    let fault : fault_of rows ≡ Some (record { row = 0; reason = reason.Settings }) = with_head rows head behind h ∙ rw broken refl in
    ap (λ (o : Option Fault). unless o (setup_of (head_of known.Scenario rows).fields (head_of known.Scenario rows).end (draft_of (head_of known.Scenario rows) (body_rows rows)))) fault

-- where the settings are whole, the fault is that of the rows behind
whole_head : (rows : List Row) (head : Head) (behind : Ahead) → HasHead known.Scenario (start rows) behind head → is_complete known.Scenario head ≡ true
    → fault_of rows ≡ body_fault head (behind.taken + 1) behind.left
whole_head rows head behind h complete = with_head rows head behind h ∙ rw complete refl

-- a fault behind the settings is the first
pub refused_body : (rows : List Row) (head : Head) (behind : Ahead) (m : Misread) → HasHead known.Scenario (start rows) behind head → is_complete known.Scenario head ≡ true
    → Tells (body_fault head (behind.taken + 1) behind.left) m → Refuses (scenario_of rows) (answer_of m)
refused_body rows head behind misread.NoMemory h complete tells = tt
refused_body rows head behind (misread.Bad row broken) h complete tells =
    ap (λ (o : Option Fault). unless o (setup_of (head_of known.Scenario rows).fields (head_of known.Scenario rows).end (draft_of (head_of known.Scenario rows) (body_rows rows)))) (whole_head rows head behind h complete ∙ tells)

-- rows without a fault are a scenario
pub accepted : (rows : List Row) (head : Head) (behind : Ahead) (draft : Draft) → HasHead known.Scenario (start rows) behind head → is_complete known.Scenario head ≡ true
    → HasDraft head behind draft → scenario_of rows ≡ Ok (setup_of head.fields head.end draft)
accepted rows head behind draft h complete d =
    ap (λ (o : Option Fault). unless o (setup_of (head_of known.Scenario rows).fields (head_of known.Scenario rows).end (draft_of (head_of known.Scenario rows) (body_rows rows)))) (whole_head rows head behind h complete ∙ d.good)
    ∙ ap (λ (x : Head). Ok (setup_of x.fields x.end (draft_of x (body_rows rows)))) (sym h.whole)
    ∙ ap (λ (left : List Row). Ok (setup_of head.fields head.end (draft_of head left))) (sym h.left)
    ∙ ap (λ (x : Draft). Ok (setup_of head.fields head.end x)) (sym d.whole)
