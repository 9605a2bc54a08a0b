-- What `record` makes of an input.
use Rattle.std.proofs.Common.{◌≡◌, ℕ, ◌-◌, ◌/◌, ◌≤◌, List, All, get_or, Ok, Err, arith, ap, subst, sym, ◌∙◌}
use Rattle.std.proofs.Math.Dec.{leb}
use Rattle.std.proofs.lemmas.Bool.{cond-true, le-leb}
use Rattle.std.proofs.lemmas.List.Elements.{All-weaker}
use Rattle.ld_base.specs.Ticks.{last_stamp}
use Rattle.pingpong.specs.declared.journal.Entry.{Entry}
use Rattle.row_reader.specs.Rows.{rows_of}
use Rattle.row_reader.specs.declared.fault.Fault.{Fault}
use Rattle.relay_core.specs.StationLog.{stamp_at}
use Rattle.recording.specs.RecordText.{RecordText}
use Rattle.waveform_reader.specs.Scenario.{Setup, scenario_of}
use Rattle.waveform_reader.specs.Sound.{IsSetup}
use Rattle.line_world.specs.Journals.{IsEntry}
use Rattle.line_world.specs.Run.{Run}
use Rattle.calm_channel.proofs.Clocked.{stamps-fit}
use Rattle.bench_cmd.specs.Asked.{IsAsked, absent, where_there}
use Rattle.bench_cmd.specs.Recordings.{record_text, recorded}
use Rattle.bench_cmd.specs.declared.asked.Asked.TheVariants.{There, Bad}

-- at every entry of a scenario a station's clock shows a stamp
pub stamps-shown : (s : Setup) (me : ℕ) (journal : List Entry) → IsSetup s → (1 ≤ me) × (me ≤ 3) → All (IsEntry s) journal
    → All (λ e. stamp_at me e ≤ last_stamp) journal
stamps-shown s me journal sound there entries =
    All-weaker (IsEntry s) (λ e. stamp_at me e ≤ last_stamp) (λ e is.
    subst (λ (phases : List ℕ). get_or phases (me - 1) 0 / 1000000 ≤ last_stamp) (sym is.phases)
    (stamps-fit s sound me there e.time (omega (arith, is.early, sound.end.1)))) journal entries

-- the recording, where the scenario has the station
pub record-there : (station me : ℕ) (input : List ℕ) (s : Setup) (text : List ℕ) → IsAsked station (scenario_of (rows_of input)) (There s me)
    → text ≡ RecordText s.settings me (Run s) → record_text station input ≡ Ok text
unfolding record_text
record-there station me input s text asked is =
    ap (where_there station (recorded station)) asked.0
    ∙ cond-true (leb station s.settings.stations) (Ok (recorded station s)) (Err absent) (le-leb station s.settings.stations asked.2)
    ∙ ap (λ (t : List ℕ). Ok t) (ap (λ (k : ℕ). RecordText s.settings k (Run s)) (sym asked.1) ∙ sym is)

-- a fault
pub record-bad : (station : ℕ) (input : List ℕ) (fault : Fault) → IsAsked station (scenario_of (rows_of input)) (Bad fault) → record_text station input ≡ Err fault
unfolding record_text
record-bad station input fault asked = asked (recorded station)
