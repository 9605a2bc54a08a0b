-- What an entry adds to what an account keeps.
use Rattle.std.specs.Prelude.{count_by, is_none}
use Rattle.std.specs.Option.{option_to_list}
use Rattle.std.proofs.Common.{◌≡◌, ℕ, List, [], ◌∷◌, ◌++◌, All, map, Option, inl, inr, refl, ap, sym, subst, ◌∙◌, append_assoc, append-nil, arith}
use Rattle.std.proofs.lemmas.Bool.{cases_eq}
use Rattle.ld_base.specs.declared.fields.Fields.{Fields}
use Rattle.pingpong.specs.declared.journal.Entry.{Entry}
use Rattle.relay_core.specs.Answers.{changes_by, judged_by, judgement}
use Rattle.relay_core.specs.Decided.{JudgedSets, Offers, offered_by}
use Rattle.relay_core.specs.Line.{bits_from}
use Rattle.relay_core.specs.declared.call.Call.{Call}
use Rattle.relay_core.specs.declared.call.Call.TheVariants as made
use Rattle.relay_core.proofs.Calls.{added-none}
use Rattle.relay_core.specs.Sent.{Slots, slot_by}
use Rattle.relay_core.specs.declared.answers.Change.{Change}
use Rattle.relay_core.specs.declared.answers.Judged.{Judged}
use Rattle.sample_store.specs.Along.{along, along_from}
use Rattle.sample_store.specs.JudgedSet.{JudgedSet}
use Rattle.sample_store.proofs.Alongs.{along-push}
use Rattle.line_journal.specs.Account.{IsHistory}
use Rattle.line_journal.specs.Inside.{IsEmpty}
use Rattle.line_journal.specs.Crossings.{Forged, accepted_with, arrivals_of, begun_with}
use Rattle.line_journal.specs.LineHistory.{LineHistory}
use Rattle.line_journal.specs.Report.{Lines, alarm_line, decisions, estimates, set_line, station_of}
use Rattle.relay_core.specs.StationLog.{StationLog}
use Rattle.line_journal.specs.Told.{more}
use Rattle.line_journal.specs.declared.crossing.Arrival.{Arrival}
use Rattle.line_journal.specs.declared.line.Line.{Line}
use Rattle.line_journal.proofs.Entries.{Hands, Lines-push, decisions-are}
use Rattle.line_journal.proofs.LineLists.{IsHistory-quiet, accepted-elsewhere, accepted-here, accepted-silent, begun-elsewhere, begun-here, begun-silent}
use Rattle.line_journal.proofs.Tallies.{count-more}

module _ (f : Fields) (journal : List Entry) (entry : Entry) (me : ℕ) (call : Call) (hands : Hands entry me call) where
  -- the lines with an estimate, or none, and with what was decided
  pub lines-told : (lines est : List Line) (judged : Option Judged) (changes : List Change) → lines ≡ Lines f journal → estimates f journal entry entry.what ≡ est
      → judged_by f me (StationLog me journal) call ≡ option_to_list judged → changes ≡ changes_by f me (StationLog me journal) call
      → lines ++ est ++ map (set_line entry.time me) (option_to_list judged) ++ map (alarm_line entry.time me) changes ≡ Lines f (journal ++ entry ∷ [])
  lines-told lines est judged changes are is_est is_judged is_changes =
      append_assoc (lines ++ est) (map (set_line entry.time me) (option_to_list judged)) (map (alarm_line entry.time me) changes)
      ∙ append_assoc lines est (map (set_line entry.time me) (option_to_list judged) ++ map (alarm_line entry.time me) changes)
      ∙ sym (
      Lines-push f journal entry
      ∙ ap (λ xs. xs ++ (estimates f journal entry entry.what ++ decisions f (station_of entry.what) journal entry)) (sym are)
      ∙ ap (λ xs. lines ++ (xs ++ decisions f (station_of entry.what) journal entry)) is_est
      ∙ ap (λ xs. lines ++ (est ++ xs)) (decisions-are f journal entry me call judged changes hands is_judged is_changes)
      )

  -- the lines with what was decided
  pub lines-decided : (lines : List Line) (judged : Option Judged) (changes : List Change) → lines ≡ Lines f journal → estimates f journal entry entry.what ≡ []
      → judged_by f me (StationLog me journal) call ≡ option_to_list judged → changes ≡ changes_by f me (StationLog me journal) call
      → lines ++ map (set_line entry.time me) (option_to_list judged) ++ map (alarm_line entry.time me) changes ≡ Lines f (journal ++ entry ∷ [])
  lines-decided lines judged changes are none is_judged is_changes =
      ap (λ xs. xs ++ map (set_line entry.time me) (option_to_list judged) ++ map (alarm_line entry.time me) changes) (sym (append-nil lines))
      ∙ lines-told lines [] judged changes are none is_judged is_changes

  -- nothing begins with a call that is no slot
  pub begun-none : ((peer : ℕ) → slot_by f me peer (StationLog me journal) (Slots f me peer (StationLog me journal)) call ≡ [])
      → (from to : ℕ) → begun_with f from to journal entry ≡ []
  begun-none silent from to = elim (cases_eq from me) [
    | inl mine ↦
        subst (λ s. begun_with f s to journal entry ≡ []) (sym mine)
        (begun-here f me to journal entry call hands ∙ begun-silent f me to (StationLog me journal) call (silent to))
    | inr other ↦ begun-elsewhere f from to journal entry (hands.elsewhere from other)
  ]

  -- nothing is accepted with a call that brings no bits
  pub accepted-none : ((peer : ℕ) → bits_from peer call ≡ []) → (to peer : ℕ) → accepted_with f to peer journal entry ≡ []
  accepted-none silent to peer = elim (cases_eq to me) [
    | inl mine ↦
        subst (λ s. accepted_with f s peer journal entry ≡ []) (sym mine)
        (accepted-here f me peer journal entry call hands ∙ accepted-silent f me peer (StationLog me journal) call (silent peer))
    | inr other ↦ accepted-elsewhere f to peer journal entry (hands.elsewhere to other)
  ]

  -- the histories stay those of the journal
  pub histories-quiet : (histories : List LineHistory) → ((from to : ℕ) → begun_with f from to journal entry ≡ []) → ((to peer : ℕ) → accepted_with f to peer journal entry ≡ [])
      → All (IsHistory f journal) histories → All (IsHistory f (journal ++ entry ∷ [])) histories
  histories-quiet histories begun accepted all k d inside =
      IsHistory-quiet f journal entry _ (all k d inside) (begun _ _) (accepted _ _)

-- the count of forged messages with what arrives
pub Forged-push : (f : Fields) (journal : List Entry) (entry : Entry) (arrivals : List Arrival) → arrivals_of f journal entry entry.what ≡ arrivals
    → Forged f (journal ++ entry ∷ []) ≡ more (Forged f journal) (count_by (λ arrival. is_none arrival.began) arrivals)
Forged-push f journal entry arrivals is =
    count-more (λ (arrival : Arrival). is_none arrival.began) (along (λ before so_far entry. arrivals_of f before entry entry.what) journal) arrivals _
    (along-push (λ before so_far entry. arrivals_of f before entry entry.what) journal entry
    ∙ ap (λ xs. along (λ before so_far entry. arrivals_of f before entry entry.what) journal ++ xs) is)

pub Forged-same : (f : Fields) (journal : List Entry) (entry : Entry) → arrivals_of f journal entry entry.what ≡ [] → Forged f (journal ++ entry ∷ []) ≡ Forged f journal
Forged-same f journal entry none = Forged-push f journal entry [] none ∙ omega arith

-- no set is judged with a call that offers nothing
judged-none : (f : Fields) (me : ℕ) (log : List Call) (call : Call) → Offers f me (log ++ call ∷ []) ≡ Offers f me log → judged_by f me log call ≡ []
judged-none f me log call same =
    ap (map (judgement f (JudgedSets f me (log ++ call ∷ [])))) (added-none (JudgedSets f me) log (call ∷ []) (ap (JudgedSet f me) same))

pub judged-faults : (f : Fields) (me : ℕ) (log : List Call) (at peer : ℕ) → judged_by f me log (made.Fault at peer) ≡ []
judged-faults f me log at peer =
    judged-none f me log (made.Fault at peer) (along-push (λ before offers call. offered_by f me before call) log (made.Fault at peer) ∙ append-nil (Offers f me log))

pub judged-sends : (f : Fields) (me : ℕ) (log : List Call) (at : ℕ) → judged_by f me log (made.Slot at) ≡ []
judged-sends f me log at =
    judged-none f me log (made.Slot at) (along-push (λ before offers call. offered_by f me before call) log (made.Slot at) ∙ append-nil (Offers f me log))

-- before the first entry nothing is told and nothing is known of a line
pub Lines-none : (f : Fields) → Lines f [] ≡ []
unfolding along_from
Lines-none f = refl

pub Forged-none : (f : Fields) → Forged f [] ≡ 0
unfolding along_from
Forged-none f = refl

pub IsHistory-none : (f : Fields) (l : LineHistory) → IsEmpty l → IsHistory f [] l
unfolding along_from
IsHistory-none f l none = record { begun = none.0; last = none.1; crossings = none.2 }
