-- One entry more at the end of a journal, which hands a call to one station.
use Rattle.std.specs.Prelude.{◌==◌}
use Rattle.std.specs.List.{flat_map}
use Rattle.std.specs.Option.{option_to_list}
use Rattle.std.proofs.Common.{◌≡◌, ◌≢◌, ℕ, cond, List, [], ◌∷◌, ◌++◌, map, Option, refl, ap, sym, ◌∙◌, append-nil}
use Rattle.std.proofs.lemmas.Bool.{eq-eqb, ne_eqb}
use Rattle.std.proofs.lemmas.Grind.{flat_map-append}
use Rattle.ld_base.specs.declared.fields.Fields.{Fields}
use Rattle.ld_base.specs.declared.phases.Phases.{Phases}
use Rattle.pingpong.specs.declared.journal.Entry.{Entry}
use Rattle.pingpong.specs.declared.journal.What.TheVariants.{Came, SendFailed, Slot, TakeFailed, Took}
use Rattle.relay_core.specs.Answers.{changes_by, judged_by}
use Rattle.relay_core.specs.declared.call.Call.{Call}
use Rattle.relay_core.specs.declared.call.Call.TheVariants as made
use Rattle.relay_core.specs.declared.answers.Change.{Change}
use Rattle.relay_core.specs.declared.answers.Judged.{Judged}
use Rattle.sample_store.proofs.Alongs.{along-push}
use Rattle.line_journal.specs.Account.{entry_at}
use Rattle.line_journal.specs.Report.{Lines, alarm_line, decisions, lines_of, set_line, station_of}
use Rattle.relay_core.specs.StationLog.{StationLog, calls_by, stamp_at}
use Rattle.line_journal.specs.declared.line.Line.{Line}
use Rattle.line_journal.specs.declared.now.Now.{Now}

pub StationLog-push : (me : ℕ) (journal : List Entry) (entry : Entry) → StationLog me (journal ++ entry ∷ []) ≡ StationLog me journal ++ calls_by me entry
StationLog-push me journal entry = flat_map-append (calls_by me) journal (entry ∷ []) ∙ ap (λ calls. StationLog me journal ++ calls) (append-nil (calls_by me entry))

-- an entry hands this call to this station, and none to another
pub record Hands (entry : Entry) (me : ℕ) (call : Call) : Type 0 where
  pub here : calls_by me entry ≡ call ∷ []
  pub elsewhere : (k : ℕ) → k ≢ me → calls_by k entry ≡ []
  pub station : station_of entry.what ≡ me

-- where the stations are the same and where they aren't
here : (me : ℕ) (calls : List Call) → cond (me == me) calls [] ≡ calls
here me calls = ap (λ b. cond b calls []) (eq-eqb me me refl)

elsewhere : (me k : ℕ) (calls : List Call) → k ≢ me → cond (me == k) calls [] ≡ []
elsewhere me k calls differ = ap (λ b. cond b calls []) (ne_eqb me k (λ same. differ (sym same)))

pub Hands-took : (now : Now) (me : ℕ) (values : Phases) → Hands (entry_at now (Took me values)) me (made.Sample (stamp_at me (entry_at now (Took me values))) values)
Hands-took now me values = record { here = here me _; elsewhere = λ k differ. elsewhere me k _ differ; station = refl }

pub Hands-slot : (now : Now) (me : ℕ) (first : List ℕ) (second : Option (List ℕ))
    → Hands (entry_at now (Slot me first second)) me (made.Slot (stamp_at me (entry_at now (Slot me first second))))
Hands-slot now me first second = record { here = here me _; elsewhere = λ k differ. elsewhere me k _ differ; station = refl }

pub Hands-came : (now : Now) (me peer : ℕ) (bits : List ℕ) → Hands (entry_at now (Came me peer bits)) me (made.Bits (stamp_at me (entry_at now (Came me peer bits))) peer bits)
Hands-came now me peer bits = record { here = here me _; elsewhere = λ k differ. elsewhere me k _ differ; station = refl }

pub Hands-take_failed : (now : Now) (me peer : ℕ) → Hands (entry_at now (TakeFailed me peer)) me (made.Fault (stamp_at me (entry_at now (TakeFailed me peer))) peer)
Hands-take_failed now me peer = record { here = here me _; elsewhere = λ k differ. elsewhere me k _ differ; station = refl }

pub Hands-send_failed : (now : Now) (me peer : ℕ) → Hands (entry_at now (SendFailed me peer)) me (made.Fault (stamp_at me (entry_at now (SendFailed me peer))) peer)
Hands-send_failed now me peer = record { here = here me _; elsewhere = λ k differ. elsewhere me k _ differ; station = refl }

-- the log of the station has the call, and the others are as they were
pub StationLog-here : (journal : List Entry) (entry : Entry) (me : ℕ) (call : Call) → Hands entry me call
    → StationLog me (journal ++ entry ∷ []) ≡ StationLog me journal ++ call ∷ []
StationLog-here journal entry me call hands = StationLog-push me journal entry ∙ ap (λ calls. StationLog me journal ++ calls) hands.here

pub StationLog-elsewhere : (journal : List Entry) (entry : Entry) (me k : ℕ) (call : Call) → Hands entry me call → k ≢ me
    → StationLog k (journal ++ entry ∷ []) ≡ StationLog k journal
StationLog-elsewhere journal entry me k call hands differ =
    StationLog-push k journal entry ∙ ap (λ calls. StationLog k journal ++ calls) (hands.elsewhere k differ) ∙ append-nil (StationLog k journal)

-- what the call of the entry tells
pub told-here : {A : Type 0} (tells : Call → List A) (entry : Entry) (me : ℕ) (call : Call) → Hands entry me call → flat_map tells (calls_by me entry) ≡ tells call
told-here tells entry me call hands = ap (flat_map tells) hands.here ∙ append-nil (tells call)

pub Lines-push : (f : Fields) (journal : List Entry) (entry : Entry) → Lines f (journal ++ entry ∷ []) ≡ Lines f journal ++ lines_of f journal entry
Lines-push f journal entry = along-push (λ before so_far entry. lines_of f before entry) journal entry

-- the lines of what was decided
abbrev pub decided : ℕ → ℕ → Option Judged → List Change → List Line
decided time me judged changes = map (set_line time me) (option_to_list judged) ++ map (alarm_line time me) changes

pub decisions-are : (f : Fields) (journal : List Entry) (entry : Entry) (me : ℕ) (call : Call) (judged : Option Judged) (changes : List Change) → Hands entry me call
    → judged_by f me (StationLog me journal) call ≡ option_to_list judged → changes ≡ changes_by f me (StationLog me journal) call
    → decisions f (station_of entry.what) journal entry ≡ decided entry.time me judged changes
decisions-are f journal entry me call judged changes hands is_judged is_changes =
    ap (λ station. decisions f station journal entry) hands.station
    ∙ ap (λ sets. map (set_line entry.time me) sets ++ map (alarm_line entry.time me) (flat_map (changes_by f me (StationLog me journal)) (calls_by me entry)))
    (told-here (judged_by f me (StationLog me journal)) entry me call hands ∙ is_judged)
    ∙ ap (λ all. map (set_line entry.time me) (option_to_list judged) ++ map (alarm_line entry.time me) all)
    (told-here (changes_by f me (StationLog me journal)) entry me call hands ∙ sym is_changes)
