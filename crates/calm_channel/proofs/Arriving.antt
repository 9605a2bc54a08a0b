-- Which messages a calm run has accepted: those that have come, each with its stamp.
use Rattle.std.proofs.Common.{◌≡◌, ℕ, suc, ◌+◌, ◌*◌, ◌/◌, ◌≤◌, Bool, true, false, cond, List, [], ◌∷◌, ◌++◌, All, AllPairs, filter, flat_map, get_or, length, length-append, map, option_to_list, slice_get, take, Option, None, Some, arith, refl, ap, sym, subst, ◌∙◌, append-nil, append_assoc}
use Rattle.std.specs.Prelude.{◌&&◌, nat_le, nat_lt}
use Rattle.std.specs.Option.{ForSome}
use Rattle.std.proofs.Math.Seq.{get_or-append_seam}
use Rattle.std.proofs.lemmas.Bool.Decides.{nat_tests}
use Rattle.std.proofs.lemmas.List.{append_cancel_left, get_or_append_left, map-append}
use Rattle.std.proofs.lemmas.List.Elements.{All-append, All-cons, All-head, All-map, All-nil, All-tail, All-weaker, filter-append}
use Rattle.std.proofs.lemmas.Simd.{map-map}
use Rattle.ld_base.proofs.Accepted.{AreInRange-from_no_fault}
use Rattle.ld_base.specs.Message.{Contents}
use Rattle.ld_base.specs.Script.{first_due}
use Rattle.ld_base.specs.Settings.{setting_fault}
use Rattle.ld_base.specs.declared.fields.Fields.{Fields}
use Rattle.payload_map.specs.Sent.{Slot as Loaded, whole}
use Rattle.pingpong.specs.declared.journal.Entry.{Entry}
use Rattle.relay_message.specs.MessageOf.{spelled}
use Rattle.relay_message.specs.Messages.{added}
use Rattle.relay_core.specs.Accepted.{Accepted, Completed, accepted_among, accepted_of, completed_by, is_addressed, next_number}
use Rattle.relay_core.specs.Calls.{AreCalls, AreStations}
use Rattle.relay_core.specs.Line.{Line, Messages}
use Rattle.relay_core.specs.Log.{now, stamp_of as handed}
use Rattle.relay_core.specs.declared.call.Call.{Call}
use Rattle.relay_core.specs.declared.call.Call.TheVariants as made
use Rattle.relay_core.specs.Sent.{Sent, Slots}
use Rattle.relay_core.specs.declared.receipt.Receipt.{Receipt}
use Rattle.relay_core.proofs.Calls.{Completed-push, now-push}
use Rattle.sample_store.specs.Along.{along_from}
use Rattle.sample_store.proofs.Alongs.{along-push}
use Rattle.waveform_reader.specs.Scenario.{Setup}
use Rattle.waveform_reader.specs.Sound.{IsSetup}
use Rattle.line_journal.specs.Crossings.{Start, Starts}
use Rattle.line_world.specs.Journals.{AreFirst, IsEntry}
use Rattle.line_journal.specs.Stations.{ArePair}
use Rattle.line_world.specs.Occasions.{Moment}
use Rattle.line_world.specs.Occasions.Occasion.{arrival, departure, slot}
use Rattle.line_world.specs.Run.{State, after, outcome_by, run_through}
use Rattle.relay_core.specs.StationLog.{StationLog, calls_by, stamp_at}
use Rattle.line_world.specs.World.{stamp_of}
use Rattle.line_world.proofs.FirstSlots.{world-idle}
use Rattle.line_world.proofs.Moments.{IsSoFar}
use Rattle.calm_channel.specs.Calm.{IsCalm, delay_of_line, transit}
use Rattle.calm_channel.specs.Coming.{AcceptedAre, Come, asked, has_come, receipt_of}
use Rattle.calm_channel.proofs.Bits.{joined-front, sent-are}
use Rattle.calm_channel.proofs.Clocked.{entry-stamped, log-all, now-most, stamps-rise}
use Rattle.calm_channel.proofs.Events.{ValuesFit, run-calls, run-leads, run-so_far}
use Rattle.calm_channel.proofs.Keeping.{asked-journal, delay-positive, journal_of, kept-all, outcome_of, sent-journal, slot-starts, slot-unheard, slot_at, steady}
use Rattle.calm_channel.proofs.Logs.{IsNoSlot, came, came-elsewhere, came-there, entries, line-same, log-more, starts-same, untouched-deaf, untouched-still}
use Rattle.calm_channel.proofs.Pace.{all-paced, at, touches}
use Rattle.calm_channel.proofs.Walk.{asked-itself, asked-push, first-before, run-push, walk}
use Rattle.calm_channel.proofs.Whole.{Next, next-over, whole-over}

-- the law of an undamaged line
abbrev pub Undamaged : Fields → Type 0
Undamaged f =
    (me peer n : ℕ) (own other : List Call) → setting_fault f ≡ None → AreStations f me peer → AreCalls other
    → ForSome (slice_get (Slots f peer me other) 0) (λ slot. slot.loaded ≡ None) → n ≤ 256 * length (Slots f peer me other)
    → Line peer own ≡ take n (flat_map (λ bits. bits) (Sent f peer me other))
    → map (λ r. r.message) (Accepted f me peer own) ≡ whole spelled f.channels (take (n / 256) (Slots f peer me other))

-- what the laws of lower crates say of a scenario
pub record Wanted (s : Setup) : Type 0 where
  pub fit : ValuesFit s
  pub undamaged : Undamaged s.settings

-- receipts at one stamp are known by their messages
heads : {A : Type 0} (x y : A) (xs ys : List A) → x ∷ xs ≡ y ∷ ys → (x ≡ y) × (xs ≡ ys)
heads x y xs ys same = (cc, cc)

same-receipts : (at : ℕ) (xs ys : List Receipt) → All (λ r. r.at ≡ at) xs → All (λ r. r.at ≡ at) ys → map (λ r. r.message) xs ≡ map (λ r. r.message) ys → xs ≡ ys
same-receipts at [] [] all_x all_y same = refl
same-receipts at [] (y ∷ ys) all_x all_y same = absurd (cc)
same-receipts at (x ∷ xs) [] all_x all_y same = absurd (cc)
same-receipts at (x ∷ xs) (y ∷ ys) all_x all_y same =
    let parts = heads x.message y.message (map (λ (r : Receipt). r.message) xs) (map (λ (r : Receipt). r.message) ys) same in
    let P = λ (r : Receipt). r.at ≡ at in
    let stamps : x.at ≡ y.at = All-head P x xs all_x ∙ sym (All-head P y ys all_y) in
    ap (λ (r : Receipt). r ∷ xs)
    (ap (λ (m : Contents). record { message = m; at = x.at }) parts.0 ∙ ap (λ (t : ℕ). record { message = y.message; at = t }) stamps)
    ∙ ap (λ (rs : List Receipt). y ∷ rs) (same-receipts at xs ys (All-tail P x xs all_x) (All-tail P y ys all_y) parts.1)

-- what is accepted with some receipts more has their stamp
pub record More (at : ℕ) (old new : List Receipt) : Type 0 where
  pub more : List Receipt
  pub are : new ≡ old ++ more
  pub stamped : All (λ r. r.at ≡ at) more

accepted-one : (me peer at : ℕ) (accepted : List Receipt) (r : Receipt) → r.at ≡ at → All (λ r. r.at ≡ at) (accepted_of me peer accepted r)
accepted-one me peer at accepted r is = go (is_addressed peer me r.message && nat_le (next_number accepted) r.message.number)
  where
    go : (b : Bool) → All (λ r. r.at ≡ at) (cond b (r ∷ []) [])
    go true = All-cons (λ (r : Receipt). r.at ≡ at) r [] is (All-nil (λ (r : Receipt). r.at ≡ at))
    go false = All-nil (λ (r : Receipt). r.at ≡ at)

accepted-more : (me peer at : ℕ) (old new : List Receipt) → All (λ r. r.at ≡ at) new → More at (accepted_among me peer old) (accepted_among me peer (old ++ new))
accepted-more me peer at old [] all =
    record { more = []; are = ap (accepted_among me peer) (append-nil old) ∙ sym (append-nil (accepted_among me peer old)); stamped = All-nil (λ (r : Receipt). r.at ≡ at) }
accepted-more me peer at old (r ∷ new) all =
    let P = λ (r : Receipt). r.at ≡ at in
    let rest = accepted-more me peer at (old ++ r ∷ []) new (All-tail P r new all) in
    let one : List Receipt = accepted_of me peer (accepted_among me peer old) r in
    record {
      more = one ++ rest.more;
      are =
          ap (accepted_among me peer) (sym (append_assoc old (r ∷ []) new)) ∙ rest.are
          ∙ ap (λ (rs : List Receipt). rs ++ rest.more) (along-push (λ before accepted r. accepted_of me peer accepted r) old r)
          ∙ append_assoc (accepted_among me peer old) one rest.more;
      stamped = All-append P one rest.more (accepted-one me peer at (accepted_among me peer old) r (All-head P r new all)) rest.stamped;
    }

pub accepted-call : (f : Fields) (me peer : ℕ) (log : List Call) (call : Call)
    → More (now (log ++ call ∷ [])) (Accepted f me peer log) (Accepted f me peer (log ++ call ∷ []))
accepted-call f me peer log call =
    let at : ℕ = now (log ++ call ∷ []) in
    let new : List Receipt = completed_by f peer log call in
    let ms : List Contents = added (Messages f peer) log (call ∷ []) in
    subst (λ (rs : List Receipt). More at (Accepted f me peer log) (accepted_among me peer rs)) (sym (Completed-push f peer log call))
    (accepted-more me peer at (Completed f peer log) new
    (All-map (λ (r : Receipt). r.at ≡ at) (λ (m : Contents). record { message = m; at = at }) ms (λ k d inside. refl)))

-- the terminal's time with an entry more is the stamp of the entry
module _ (s : Setup) (sound : IsSetup s) (me : ℕ) (there : (1 ≤ me) × (me ≤ 3)) where
  earlier : (journal : List Entry) (entry : Entry) → AllPairs (λ earlier later. earlier.time ≤ later.time) (journal ++ entry ∷ []) → All (λ e. e.time ≤ entry.time) journal
  earlier journal entry order k d inside =
      let all : List Entry = journal ++ entry ∷ [] in
      let long : length all ≡ suc (length journal) = length-append journal (entry ∷ []) ∙ (omega arith) in
      let pair = order k (length journal) d inside (omega (arith, long)) in
      subst (λ (e : Entry). e.time ≤ entry.time) (get_or_append_left journal (entry ∷ []) d k inside)
      (subst (λ (e : Entry). (get_or all k d).time ≤ e.time) (get_or-append_seam journal entry [] d) pair)

  pub now-is : (these : List Moment) (journal : List Entry) (entry : Entry) (call : Call) → AreFirst s these → (run_through s these).journal ≡ journal ++ entry ∷ []
      → StationLog me (journal ++ entry ∷ []) ≡ StationLog me journal ++ call ∷ [] → calls_by me entry ≡ call ∷ []
      → now (StationLog me journal ++ call ∷ []) ≡ stamp_of s me entry.time
  now-is these journal entry call first is log_is calls_are =
      let so_far = subst (IsSoFar s s.end) is (run-so_far s these first) in
      let whole : List Entry = journal ++ entry ∷ [] in
      let past = earlier journal entry so_far.order in
      let at_last : get_or whole (length journal) entry ≡ entry = get_or-append_seam journal entry [] entry in
      let is_entry : IsEntry s entry =
      subst (IsEntry s) at_last (so_far.entries (length journal) entry (omega (arith, length-append journal (entry ∷ [])))) in
      let own : handed call ≡ stamp_of s me entry.time =
      All-head (λ (call : Call). handed call ≡ stamp_of s me entry.time) call []
      (subst (All (λ (call : Call). handed call ≡ stamp_of s me entry.time)) calls_are (entry-stamped s me entry is_entry)) in
      let before : All (λ (call : Call). handed call ≤ stamp_of s me entry.time) (StationLog me journal) =
      log-all (λ (call : Call). handed call ≤ stamp_of s me entry.time) me journal
      (λ k d inside.
      let e : Entry = get_or journal k d in
      let e_is : IsEntry s e = subst (IsEntry s) (get_or_append_left journal (entry ∷ []) d k inside) (so_far.entries k d (omega (arith, inside, length-append journal (entry ∷ [])))) in
      let rises = stamps-rise s sound me there e.time entry.time (past k d inside) in
      All-weaker (λ (call : Call). handed call ≡ stamp_of s me e.time) (λ (call : Call). handed call ≤ stamp_of s me entry.time) (λ call same. omega (arith, same, rises))
      (calls_by me e) (entry-stamped s me e e_is)) in
      let most = now-most (StationLog me journal) 0 (stamp_of s me entry.time) (omega arith) before in
      now-push (StationLog me journal) call ∙ (omega (arith, own, most))

module _ (s : Setup) (sound : IsSetup s) (calm : IsCalm s) (wanted : Wanted s) (from to : ℕ) (pair : ArePair s.settings.stations from to) where
  abbrev f : Fields
  f = s.settings

  abbrev journal : List Moment → List Entry
  journal these = (run_through s these).journal

  abbrev taken : List Moment → List Receipt
  taken these = Accepted f to from (StationLog to (journal these))

  abbrev began : List Moment → List Start
  began these = Starts f from to (journal these)

  -- the messages accepted are those that have come
  pub messages-are : (these : List Moment) → AreFirst s these
      → map (λ r. r.message) (taken these) ≡ map (λ r. r.message) (Come s from to (asked from to these) (began these))
  messages-are these first =
      let range = AreInRange-from_no_fault f sound.settings in
      let kept = kept-all s sound calm from to pair these first in
      let k = kept.keeps in
      let line = k.on_line in
      let slots : List (Loaded Contents) = Slots f from to (StationLog from (journal these)) in
      let frames : List (List ℕ) = Sent f from to (StationLog from (journal these)) in
      let sent = sent-are f slots range.channels.1 in
      let front = line.line_is ∙ sym (joined-front line.come frames sent) in
      let turned : AreStations f to from = record { one = pair.other_there; another = pair.one_there; differ = λ same. pair.differ (sym same) } in
      let within : 256 * line.come ≤ 256 * length slots = omega (arith, line.within, k.order, k.count) in
      let quotient : 256 * line.come / 256 ≡ line.come = omega arith in
      let calls = run-calls s sound calm wanted.fit these first from pair.one_there in
      let idle = world-idle s from to these (journal these) pair.one_there range.stations.1 sound.end.0 first (run-leads s these) in
      let law = wanted.undamaged to from (256 * line.come) (StationLog to (journal these)) (StationLog from (journal these)) sound.settings turned calls idle within front in
      let over = whole-over f.channels (delay_of_line s from to) (asked from to these) line.come range.channels.0 line.early line.late line.come 0 slots (omega arith) (omega (arith, line.within, k.order, k.count)) in
      law ∙ ap (λ (n : ℕ). whole spelled f.channels (take n slots)) quotient ∙ sym over
      ∙ ap (λ (starts : List Start). map (λ (start : Start). start.message) (filter (has_come s from to (asked from to these)) starts)) (sym k.starts)
      ∙ sym (map-map (λ (r : Receipt). r.message) (receipt_of s from to) (filter (has_come s from to (asked from to these)) (began these)))

  abbrev Arrived : ℕ → List Moment → Type 0
  Arrived ticks these = taken these ≡ Come s from to ticks (began these)

  journal-push : (these : List Moment) (m : Moment) → journal (these ++ m ∷ []) ≡ (after s (run_through s these) m).journal
  journal-push these m = ap (λ (state : State). state.journal) (run-push s these m)

  -- a moment that doesn't touch the line
  arrived-untouched : (ticks : ℕ) (these : List Moment) (m : Moment) → touches from to m.occasion ≡ false → Arrived ticks these → Arrived ticks (these ++ m ∷ [])
  arrived-untouched ticks these m is arrived =
      let old : List Entry = journal these in
      let outcome = outcome_by (run_through s these).lines m.time m.occasion in
      let new : List Entry = entries s old m.time from to m.occasion outcome in
      let deaf = untouched-deaf s old m.time from to m.occasion outcome is in
      let still = untouched-still s old m.time from to m.occasion outcome is in
      ap (λ (j : List Entry). Accepted f to from (StationLog to j)) (journal-push these m)
      ∙ ap (Accepted f to from) (log-more to old new) ∙ (line-same f to from (StationLog to old) (StationLog to new) deaf).1
      ∙ arrived
      ∙ ap (Come s from to ticks) (sym (ap (Starts f from to) (journal-push these m) ∙ starts-same f from to old new still))

  -- a message that has just begun hasn't come
  none-come : (ticks time : ℕ) (starts : List Start) (loaded : Option Contents) → ticks ≤ time + transit s from to
      → Come s from to ticks (starts ++ map (λ m. record { message = m; time = time }) (option_to_list loaded)) ≡ Come s from to ticks starts
  none-come ticks time starts loaded late =
      ap (map (receipt_of s from to)) (filter-append (has_come s from to ticks) starts (map (λ m. record { message = m; time = time }) (option_to_list loaded)) ∙ go loaded)
    where
      go : (loaded : Option Contents) → filter (has_come s from to ticks) starts ++ filter (has_come s from to ticks) (map (λ m. record { message = m; time = time }) (option_to_list loaded))
          ≡ filter (has_come s from to ticks) starts
      go None = append-nil (filter (has_come s from to ticks) starts)
      go (Some m) =
          let test : nat_lt (time + transit s from to) ticks ≡ false = grind (arith, nat_tests) in
          ap (λ (b : Bool). filter (has_come s from to ticks) starts ++ cond b (record { message = m; time = time } ∷ []) []) test
          ∙ append-nil (filter (has_come s from to ticks) starts)

  arrived-slot : (sent : ℕ) (these : List Moment) → Arrived (125 * sent + 1) these → Arrived (125 * sent + 1) (these ++ at (125 * sent) (slot from) ∷ [])
  arrived-slot sent these arrived =
      let time : ℕ = 125 * sent in
      let ticks : ℕ = 125 * sent + 1 in
      let old : List Entry = journal these in
      let some = delay-positive s sound calm from to pair in
      ap (λ (j : List Entry). Accepted f to from (StationLog to j)) (journal-push these (at time (slot from)))
      ∙ ap (Accepted f to from) (slot-unheard s from to pair.differ old time)
      ∙ arrived
      ∙ sym (ap (λ (j : List Entry). Come s from to ticks (Starts f from to j)) (journal-push these (at time (slot from)))
      ∙ ap (Come s from to ticks) (slot-starts s from to old time)
      ∙ none-come ticks time (began these) (slot_at s from to old time).loaded (omega (arith, some)))

  arrived-sent : (sent : ℕ) (these : List Moment) → AreFirst s (these ++ at (125 * sent) (departure from to) ∷ []) → Arrived (125 * sent + 1) these
      → Arrived (125 * sent + 1) (these ++ at (125 * sent) (departure from to) ∷ [])
  arrived-sent sent these first arrived =
      let kept = kept-all s sound calm from to pair these (first-before s these (at (125 * sent) (departure from to)) first) in
      let same = journal-push these (at (125 * sent) (departure from to))
      ∙ sent-journal s from to (steady s sound calm from to pair) (asked from to these) kept.sent kept.slots (125 * sent) (run_through s these) kept.keeps in
      ap (λ (j : List Entry). Accepted f to from (StationLog to j)) same ∙ arrived
      ∙ sym (ap (λ (j : List Entry). Come s from to (125 * sent + 1) (Starts f from to j)) same)

  -- the line is asked
  abbrev asking : ℕ → Moment
  asking ticks = at ticks (arrival to from)

  record Brings (ticks : ℕ) (these : List Moment) : Type 0 where
    more : More (stamp_of s to ticks) (taken these) (taken (these ++ asking ticks ∷ []))
    starts : began (these ++ asking ticks ∷ []) ≡ began these

  brings : (ticks : ℕ) (these : List Moment) → AreFirst s (these ++ asking ticks ∷ []) → Brings ticks these
  brings ticks these first =
      let kept = kept-all s sound calm from to pair these (first-before s these (asking ticks) first) in
      let is = journal-push these (asking ticks)
      ∙ asked-journal s from to (steady s sound calm from to pair) ticks (asked from to these) kept.sent kept.slots (run_through s these) kept.keeps in
      go (first_due kept.keeps.queue ticks) is
    where
      old : List Entry
      old = journal these

      few : to ≤ 3
      few = let most = (AreInRange-from_no_fault f sound.settings).stations.1 in omega (arith, most, pair.other_there.1)

      go : (due : Option (List ℕ)) → journal (these ++ asking ticks ∷ []) ≡ journal_of s from to old ticks (outcome_of s from to due) → Brings ticks these
      go None is =
          let same = is ∙ append-nil old in
          record {
            more = record {
              more = [];
              are = ap (λ (j : List Entry). Accepted f to from (StationLog to j)) same ∙ sym (append-nil (taken these));
              stamped = All-nil (λ (r : Receipt). r.at ≡ stamp_of s to ticks);
            };
            starts = ap (Starts f from to) same;
          }
      go (Some bits) is =
          let entry : Entry = came s old ticks from to bits in
          let call : Call = made.Bits (stamp_at to entry) from bits in
          let logged : StationLog to (old ++ entry ∷ []) ≡ StationLog to old ++ call ∷ [] =
          log-more to old (entry ∷ []) ∙ ap (λ (calls : List Call). StationLog to old ++ calls) (came-there s old ticks from to bits) in
          let handed_it : calls_by to entry ≡ call ∷ [] = sym (append-nil (calls_by to entry)) ∙ came-there s old ticks from to bits in
          let now_it = now-is s sound to (pair.other_there.0, few) (these ++ asking ticks ∷ []) old entry call first is logged handed_it in
          let accepted = subst (λ (t : ℕ). More t (taken these) (Accepted f to from (StationLog to old ++ call ∷ []))) now_it (accepted-call f to from (StationLog to old) call) in
          record {
            more = subst (λ (rs : List Receipt). More (stamp_of s to ticks) (taken these) rs)
                (sym (ap (λ (j : List Entry). Accepted f to from (StationLog to j)) is ∙ ap (Accepted f to from) logged)) accepted;
            starts =
                ap (Starts f from to) is
                ∙ starts-same f from to old (entry ∷ []) (subst (All IsNoSlot) (sym (came-elsewhere s old ticks from to bits pair.differ)) (All-nil IsNoSlot));
          }

  arrived-asked : (ticks : ℕ) (these : List Moment) → AreFirst s (these ++ asking ticks ∷ []) → asked from to these ≡ ticks → Arrived ticks these
      → Arrived (suc ticks) (these ++ asking ticks ∷ [])
  arrived-asked ticks these first counted arrived =
      let kept = kept-all s sound calm from to pair these (first-before s these (asking ticks) first) in
      let b = brings ticks these first in
      let msg = λ (r : Receipt). r.message in
      let receipt = receipt_of s from to in
      let slots : List (Loaded Contents) = Slots f from to (StationLog from (journal these)) in
      let next = subst (λ (starts : List Start). Next (transit s from to) ticks starts) (sym kept.keeps.starts) (next-over (transit s from to) ticks 0 slots) in
      let old : List Receipt = Come s from to ticks (began these) in
      let come : Come s from to (suc ticks) (began these) ≡ old ++ map receipt next.come =
      ap (map receipt) next.are ∙ map-append receipt (filter (has_come s from to ticks) (began these)) next.come in
      let counted_now : asked from to (these ++ asking ticks ∷ []) ≡ suc ticks =
      asked-push from to these (asking ticks) ∙ ap (λ (b : Bool). asked from to these + cond b 1 0) (asked-itself from to) ∙ (omega (arith, counted)) in
      let new_come : Come s from to (asked from to (these ++ asking ticks ∷ [])) (began (these ++ asking ticks ∷ [])) ≡ old ++ map receipt next.come =
      ap (λ (n : ℕ). Come s from to n (began (these ++ asking ticks ∷ []))) counted_now ∙ ap (Come s from to (suc ticks)) b.starts ∙ come in
      let new_taken : taken (these ++ asking ticks ∷ []) ≡ old ++ b.more.more = b.more.are ∙ ap (λ (rs : List Receipt). rs ++ b.more.more) arrived in
      let same : map msg old ++ map msg b.more.more ≡ map msg old ++ map msg (map receipt next.come) =
      sym (map-append msg old b.more.more) ∙ ap (map msg) (sym new_taken) ∙ messages-are (these ++ asking ticks ∷ []) first
      ∙ ap (map msg) new_come ∙ map-append msg old (map receipt next.come) in
      let stamped : All (λ r. r.at ≡ stamp_of s to ticks) (map receipt next.come) =
      All-map (λ (r : Receipt). r.at ≡ stamp_of s to ticks) receipt next.come
      (All-weaker (λ (start : Start). start.time + transit s from to ≡ ticks) (λ (start : Start). (receipt start).at ≡ stamp_of s to ticks)
      (λ start now. ap (stamp_of s to) now) next.come next.now) in
      let gained : b.more.more ≡ map receipt next.come =
      same-receipts (stamp_of s to ticks) b.more.more (map receipt next.come) b.more.stamped stamped (append_cancel_left (map msg old) (map msg b.more.more) (map msg (map receipt next.come)) same) in
      new_taken ∙ ap (λ (rs : List Receipt). old ++ rs) gained ∙ sym (ap (Come s from to (suc ticks)) b.starts ∙ come)

  arrived-first : Arrived 0 []
  unfolding along_from
  arrived-first = refl

  pub arrived-all : (these : List Moment) → AreFirst s these → Arrived (asked from to these) these
  arrived-all these first =
      let stations = (AreInRange-from_no_fault f sound.settings).stations in
      let reached = walk s from to (λ ticks sent slots these. Arrived ticks these)
      (λ ticks sent slots these m is arrived. arrived-untouched ticks these m is arrived)
      (λ ticks sent these first counted low arrived. arrived-asked ticks these first counted arrived)
      (λ sent these arrived. arrived-slot sent these arrived)
      (λ sent these first arrived. arrived-sent sent these first arrived)
      (all-paced f from to stations.0 stations.1 pair s.end) arrived-first these first in
      reached.holds

-- so it is on each line of a calm run
pub accepted-are : (s : Setup) → IsSetup s → IsCalm s → Wanted s → AcceptedAre s
accepted-are s sound calm wanted these first from to pair = arrived-all s sound calm wanted from to pair these first
