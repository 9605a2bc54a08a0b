-- What is in force at every entry of a station from a tick on keeps its alarm off from there.
use Rattle.std.specs.Prelude.{is_some, not}
use Rattle.std.specs.List.{flat_map}
use Rattle.std.specs.Option.{option_to_list}
use Rattle.std.proofs.Common.{◌≡◌, ℕ, ◌≤◌, Bool, true, false, cond, List, [], ◌∷◌, ◌++◌, All, map, refl, ap, sym, subst, ◌∙◌, append_assoc, append-nil}
use Rattle.std.proofs.lemmas.Bool.{false≢true}
use Rattle.std.proofs.lemmas.List.Elements.{All-append, All-contains, All-map, All-nil}
use Rattle.ld_base.specs.declared.fields.Fields.{Fields}
use Rattle.channel_alarm.specs.Alarms.{turns}
use Rattle.channel_alarm.specs.declared.alarm.Alarm.{Alarm}
use Rattle.channel_alarm.specs.declared.alarm.Alarm.TheVariants.{Unaligned}
use Rattle.channel_alarm.specs.declared.alarm.Turn.{Turn}
use Rattle.pingpong.specs.declared.journal.Entry.{Entry}
use Rattle.pingpong.specs.declared.journal.What.{What}
use Rattle.pingpong.specs.declared.journal.What.TheVariants.{Came, SendFailed, Slot, TakeFailed, Took}
use Rattle.relay_core.specs.Accepted.{InForceWith}
use Rattle.relay_core.specs.AlarmState.{AlarmState}
use Rattle.relay_core.specs.Answers.{changes_by, changes_of, judged_by}
use Rattle.relay_core.specs.Log.{peers}
use Rattle.relay_core.specs.declared.call.Call.{Call}
use Rattle.relay_core.specs.declared.answers.Change.{Change}
use Rattle.relay_core.proofs.Lists.{All-flat_map}
use Rattle.sample_store.specs.Along.{along, along_from}
use Rattle.line_journal.specs.Report.{Lines, alarm_line, brings_exchange, crossing_in_force, decisions, est_line, estimates, lines_of, set_line, station_of}
use Rattle.relay_core.specs.StationLog.{StationLog, calls_by, stamp_at}
use Rattle.line_journal.specs.declared.line.Line.{Line}
use Rattle.line_journal.proofs.Entries.{StationLog-push}
use Rattle.calm_channel.specs.Aligned.{AlignedFrom, InForceFrom, unaligned}
use Rattle.calm_channel.proofs.Places.{handed}

-- what holds of the additions of each element of a list, with those before it
pub along-each : {A B : Type 0} (adds : List A → List B → A → List B) (Q : B → Type 0) (xs : List A)
    → ((before : List A) (added : List B) (x : A) (later : List A) → xs ≡ before ++ x ∷ later → All Q (adds before added x)) → All Q (along adds xs)
unfolding along_from
along-each {A = A} {B = B} adds Q xs each = go [] [] xs refl (All-nil Q)
  where
    go : (before : List A) (added : List B) (rest : List A) → xs ≡ before ++ rest → All Q added → All Q (along_from adds before added rest)
    go before added [] are holds = holds
    go before added (x ∷ rest) are holds =
        go (before ++ x ∷ []) (added ++ adds before added x) rest (are ∙ sym (append_assoc before (x ∷ []) rest))
        (All-append Q added (adds before added x) holds (each before added x rest are))

-- an exchange in force keeps the alarm off
unaligned-off : (f : Fields) (me peer : ℕ) (log : List Call) (call : Call) → is_some (InForceWith f me peer (log ++ call ∷ [])) ≡ true
    → AlarmState f me peer (log ++ call ∷ []) Unaligned ≡ false
unaligned-off f me peer [] call is = ap not is
unaligned-off f me peer (first ∷ log) call is = ap not is

abbrev turned_on : Turn
turned_on = record { alarm = Unaligned; on = true }

alarm-parts : (at station : ℕ) (change : Change) (time me peer : ℕ) → alarm_line at station change ≡ unaligned time me peer
    → (at ≡ time) × (station ≡ me) × (change.peer ≡ peer) × (change.turn ≡ turned_on)
alarm-parts at station change time me peer is = (cc, cc, cc, cc)

module _ (f : Fields) (journal : List Entry) (me peer tick : ℕ) (in_force : InForceFrom f journal me peer tick) where
  -- a line that doesn't turn the alarm on from the tick on
  abbrev IsFine : Line → Type 0
  IsFine told = (time : ℕ) → tick ≤ time → told ≡ unaligned time me peer → ⊥

  estimates-fine : (before : List Entry) (entry : Entry) (what : What) → All IsFine (estimates f before entry what)
  estimates-fine before entry (Took station values) = All-nil IsFine
  estimates-fine before entry (Slot station first second) = All-nil IsFine
  estimates-fine before entry (Came station from bits) = go (brings_exchange f station from before entry)
    where
      go : (b : Bool) → All IsFine (cond b (map (est_line f station from entry) (option_to_list (crossing_in_force f station from (before ++ entry ∷ [])))) [])
      go true = All-map IsFine (est_line f station from entry) (option_to_list (crossing_in_force f station from (before ++ entry ∷ []))) (λ k d inside time late is. absurd (cc))
      go false = All-nil IsFine
  estimates-fine before entry (SendFailed station from) = All-nil IsFine
  estimates-fine before entry (TakeFailed station from) = All-nil IsFine

  -- a change that doesn't
  abbrev IsQuiet : ℕ → ℕ → Change → Type 0
  IsQuiet time station change = tick ≤ time → station ≡ me → change.peer ≡ peer → change.turn ≡ turned_on → ⊥

  changes-quiet : (time station : ℕ) (log : List Call) (call : Call) → (tick ≤ time → station ≡ me → is_some (InForceWith f me peer (log ++ call ∷ [])) ≡ true)
      → All (IsQuiet time station) (changes_by f station log call)
  changes-quiet time station log call holds =
      All-flat_map (IsQuiet time station) (changes_of f station log call) (peers f station) (λ (other : ℕ).
      let new : Alarm → Bool = AlarmState f station other (log ++ call ∷ []) in
      All-map (IsQuiet time station) (λ turn. record { peer = other; turn = turn }) (turns (AlarmState f station other log) new)
      (All-map (λ (turn : Turn). IsQuiet time station (record { peer = other; turn = turn })) (λ alarm. record { alarm = alarm; on = new alarm }) _
      (λ k d inside late here same_peer is. one other _ late here same_peer is)))
    where
      one : (other : ℕ) (alarm : Alarm) → tick ≤ time → station ≡ me → other ≡ peer
          → ◌≡◌ {A = Turn} (record { alarm = alarm; on = AlarmState f station other (log ++ call ∷ []) alarm }) turned_on → ⊥
      one other alarm late here same_peer is =
          let same_alarm : alarm ≡ Unaligned = ap (λ (turn : Turn). turn.alarm) is in
          let on : AlarmState f station other (log ++ call ∷ []) alarm ≡ true = ap (λ (turn : Turn). turn.on) is in
          let off = unaligned-off f me peer log call (holds late here) in
          false≢true (sym off
          ∙ ap (λ (n : ℕ). AlarmState f n peer (log ++ call ∷ []) Unaligned) (sym here)
          ∙ ap (λ (n : ℕ). AlarmState f station n (log ++ call ∷ []) Unaligned) (sym same_peer)
          ∙ ap (λ (a : Alarm). AlarmState f station other (log ++ call ∷ []) a) (sym same_alarm)
          ∙ on)

  decisions-fine : (before later : List Entry) (entry : Entry) → journal ≡ before ++ entry ∷ later
      → All IsFine (decisions f (station_of entry.what) before entry)
  decisions-fine before later entry are =
      let station = station_of entry.what in
      let log = StationLog station before in
      let call = handed station (stamp_at station entry) entry.what refl in
      let at : tick ≤ entry.time → station ≡ me → is_some (InForceWith f me peer (log ++ call.0 ∷ [])) ≡ true =
      (λ late here.
      let one : StationLog station (before ++ entry ∷ []) ≡ log ++ call.0 ∷ [] = StationLog-push station before entry ∙ ap (λ calls. log ++ calls) call.1 in
      ap (λ (l : List Call). is_some (InForceWith f me peer l)) (sym one ∙ ap (λ (n : ℕ). StationLog n (before ++ entry ∷ [])) here)
      ∙ in_force before later entry are here late) in
      let changes : All (IsQuiet entry.time station) (flat_map (changes_by f station log) (calls_by station entry)) =
      subst (λ (calls : List Call). All (IsQuiet entry.time station) (flat_map (changes_by f station log) calls)) (sym call.1)
      (subst (All (IsQuiet entry.time station)) (sym (append-nil (changes_by f station log call.0))) (changes-quiet entry.time station log call.0 at)) in
      All-append IsFine (map (set_line entry.time station) (flat_map (judged_by f station log) (calls_by station entry)))
      (map (alarm_line entry.time station) (flat_map (changes_by f station log) (calls_by station entry)))
      (All-map IsFine (set_line entry.time station) (flat_map (judged_by f station log) (calls_by station entry)) (λ k d inside time late is. absurd (cc)))
      (All-map IsFine (alarm_line entry.time station) (flat_map (changes_by f station log) (calls_by station entry))
      (λ k d inside time late is. alarm entry.time station _ (changes k d inside) time late is))
    where
      alarm : (at station : ℕ) (change : Change) → IsQuiet at station change → IsFine (alarm_line at station change)
      alarm at station change quiet time late is =
          let parts = alarm-parts at station change time me peer is in
          quiet (subst (λ (t : ℕ). tick ≤ t) (sym parts.0) late) parts.1 parts.2 parts.3

  -- so the report tells nothing of it
  pub aligned : AlignedFrom f journal me peer tick
  aligned time late there =
      All-contains IsFine (Lines f journal) (unaligned time me peer)
      (along-each (λ before so_far entry. lines_of f before entry) IsFine journal
      (λ before so_far entry later are.
      All-append IsFine (estimates f before entry entry.what) (decisions f (station_of entry.what) before entry)
      (estimates-fine before entry entry.what) (decisions-fine before later entry are)))
      there time late refl
