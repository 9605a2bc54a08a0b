-- In a calm run every message is accepted as it was sent.
use Rattle.std.proofs.Common.{◌≡◌, ℕ, zero, suc, ◌-◌, ◌*◌, ◌≤◌, ◌<◌, ℤ, Bool, true, false, cond, ◌&&◌, List, [], ◌∷◌, ◌++◌, All, count_by, filter, find, flat_map, get_or, is_none, is_some, length, length-append, map, option_map, Option, None, Some, arith, refl, ap, sym, subst, ◌∙◌, append-nil, append_assoc}
use Rattle.std.specs.Prelude.{◌==◌, nat_lt}
use Rattle.std.specs.Ordering.{int_eq}
use Rattle.std.proofs.Math.Seq.{get_or-append_seam}
use Rattle.std.proofs.lemmas.Bool.{and_from, eq-eqb}
use Rattle.std.proofs.lemmas.Bool.Decides.{Decides-int_eq}
use Rattle.std.proofs.lemmas.List.Elements.{All-append, All-drop, All-filter, All-map, All-nil, All-weaker}
use Rattle.std.proofs.lemmas.List.Sums.{sum_by-le}
use Rattle.ld_base.specs.Message.{Contents}
use Rattle.ld_base.specs.declared.fields.Fields.{Fields}
use Rattle.ld_base.specs.declared.message.Echo.{Echo}
use Rattle.ld_base.specs.declared.phases.Phases.{Phases}
use Rattle.pingpong.specs.declared.journal.Entry.{Entry}
use Rattle.pingpong.specs.declared.journal.What.{What}
use Rattle.pingpong.specs.declared.journal.What.TheVariants.{Came, SendFailed, TakeFailed, Took}
use Rattle.relay_core.specs.Accepted.{Accepted}
use Rattle.relay_core.specs.Decided.{accepted_by}
use Rattle.relay_core.specs.declared.call.Call.{Call}
use Rattle.relay_core.specs.declared.call.Call.TheVariants as made
use Rattle.relay_core.specs.declared.receipt.Receipt.{Receipt}
use Rattle.sample_store.specs.Along.{along, along_from}
use Rattle.sample_store.proofs.Alongs.{along-push}
use Rattle.waveform_reader.specs.Scenario.{Setup}
use Rattle.waveform_reader.specs.Shapes.{value_at}
use Rattle.waveform_reader.specs.Sound.{IsSetup}
use Rattle.line_journal.specs.Crossings.{Forged, Start, Starts, accepted_with, arrivals_of, arrivals_with, are_same_phases, is_same, is_same_echo, slot_time}
use Rattle.line_world.specs.Journals.{AreFirst, IsEntry}
use Rattle.line_journal.specs.Stations.{ArePair}
use Rattle.line_world.specs.Occasions.{Moment, Occasion, moments}
use Rattle.line_world.specs.Occasions.Occasion.{arrival, departure, sampling, slot}
use Rattle.line_world.specs.Run.{State, outcome_by, run_through}
use Rattle.relay_core.specs.StationLog.{StationLog, calls_by, stamp_at}
use Rattle.line_world.specs.World.{Outcome, entry_of, frames_at, happens, number_of, slot_with}
use Rattle.line_world.specs.World.Outcome.{fails, gives, nothing}
use Rattle.line_journal.specs.declared.crossing.Arrival.{Arrival}
use Rattle.line_world.proofs.Moments.{IsSoFar}
use Rattle.calm_channel.specs.Coming.{AcceptedAre, Come, asked, has_come, receipt_of}
use Rattle.calm_channel.proofs.Events.{run-so_far}
use Rattle.calm_channel.proofs.Logs.{IsNoSlot, came-elsewhere, came-there, log-more, starts-same}
use Rattle.calm_channel.proofs.Walk.{run-push}

-- a message says the same as itself
same-echo : (echo : Option Echo) → is_same_echo echo echo ≡ true
same-echo None = refl
same-echo (Some echo) = and_from (echo.sent == echo.sent) (echo.came == echo.came) (eq-eqb echo.sent echo.sent refl) (eq-eqb echo.came echo.came refl)

same-phases : (phases : Phases) → are_same_phases phases phases ≡ true
same-phases phases =
    let own = λ (z : ℤ). (Decides-int_eq z z).1 refl in
    and_from (int_eq phases.a phases.a && int_eq phases.b phases.b) (int_eq phases.c phases.c)
    (and_from (int_eq phases.a phases.a) (int_eq phases.b phases.b) (own phases.a) (own phases.b)) (own phases.c)

same-itself : (m : Contents) → is_same m m ≡ true
same-itself m =
    let own = λ (n : ℕ). eq-eqb n n refl in
    let ends = and_from (m.from == m.from) (m.to == m.to) (own m.from) (own m.to) in
    let number = and_from ((m.from == m.from) && (m.to == m.to)) (m.number == m.number) ends (own m.number) in
    let sent = and_from ((m.from == m.from) && (m.to == m.to) && (m.number == m.number)) (m.sent == m.sent) number (own m.sent) in
    and_from _ (are_same_phases m.phases m.phases) (and_from _ (is_same_echo m.echo m.echo) sent (same-echo m.echo)) (same-phases m.phases)

-- what passes a test is found
find-some : {A : Type 0} (test : A → Bool) (xs : List A) (k : ℕ) (d : A) → k < length xs → test (get_or xs k d) ≡ true → is_some (find test xs) ≡ true
find-some test [] k d inside passes = absurd (omega (arith, inside))
find-some test (x ∷ xs) k d inside passes = go (test x) refl k inside passes (λ k inside passes. find-some test xs k d inside passes)
  where
    go : (b : Bool) → test x ≡ b → (k : ℕ) → k < length (x ∷ xs) → test (get_or (x ∷ xs) k d) ≡ true
        → ((k : ℕ) → k < length xs → test (get_or xs k d) ≡ true → is_some (find test xs) ≡ true) → is_some (cond b (Some x) (find test xs)) ≡ true
    go true is k inside passes rest = refl
    go false is zero inside passes rest = absurd (cc)
    go false is (suc k) inside passes rest = rest k (omega (arith, inside)) passes

-- the slot of a message is known where it began
abbrev IsKnown : List Start → Contents → Type 0
IsKnown starts m = is_some (find (λ start. is_same m start.message) starts) ≡ true

all-known : (starts : List Start) → All (λ start. IsKnown starts start.message) starts
all-known starts k d inside =
    let m : Contents = (get_or starts k d).message in
    find-some (λ start. is_same m start.message) starts k d inside (same-itself m)

abbrev IsHonest : Arrival → Type 0
IsHonest a = is_none a.began ≡ false

timed : (found : Option Start) → is_some found ≡ true → is_none (option_map (λ start. start.time) found) ≡ false
timed None is = absurd (cc)
timed (Some start) is = refl

-- all arrivals of a journal
abbrev arriving : Fields → List Entry → List Arrival
arriving f journal = along (λ before so_far entry. arrivals_of f before entry entry.what) journal

module _ (s : Setup) (sound : IsSetup s) (accepted : AcceptedAre s) where
  abbrev f : Fields
  f = s.settings

  abbrev journal : List Moment → List Entry
  journal these = (run_through s these).journal

  abbrev AreHonest : List Entry → Type 0
  AreHonest entries = All IsHonest (arriving f entries)

  -- where bits come, with what is accepted of them
  came-honest : (these : List Moment) (m : Moment) (receiver sender : ℕ) (bits : List ℕ) → AreFirst s (these ++ m ∷ [])
      → journal (these ++ m ∷ []) ≡ journal these ++ entry_of s m.time (Came receiver sender bits) ∷ []
      → All IsHonest (arrivals_with f receiver sender (journal these) (entry_of s m.time (Came receiver sender bits)))
  came-honest these m receiver sender bits first is =
      let old : List Entry = journal these in
      let entry : Entry = entry_of s m.time (Came receiver sender bits) in
      let so_far = subst (IsSoFar s s.end) is (run-so_far s (these ++ m ∷ []) first) in
      let at_last : get_or (old ++ entry ∷ []) (length old) entry ≡ entry = get_or-append_seam old entry [] entry in
      let is_entry : IsEntry s entry = subst (IsEntry s) at_last (so_far.entries (length old) entry (omega (arith, length-append old (entry ∷ [])))) in
      let pair : ArePair s.settings.stations receiver sender = is_entry.names in
      let turned : ArePair s.settings.stations sender receiver = record { one_there = pair.other_there; other_there = pair.one_there; differ = λ same. pair.differ (sym same) } in
      let call : Call = made.Bits (stamp_at receiver entry) sender bits in
      let handed : calls_by receiver entry ≡ call ∷ [] = sym (append-nil (calls_by receiver entry)) ∙ came-there s old m.time sender receiver bits in
      let logged : StationLog receiver (old ++ entry ∷ []) ≡ StationLog receiver old ++ call ∷ [] =
      log-more receiver old (entry ∷ []) ∙ ap (λ (calls : List Call). StationLog receiver old ++ calls) (came-there s old m.time sender receiver bits) in
      let starts : List Start = Starts f sender receiver old in
      let same_starts : Starts f sender receiver (old ++ entry ∷ []) ≡ starts =
      starts-same f sender receiver old (entry ∷ [])
      (subst (All IsNoSlot) (sym (came-elsewhere s old m.time sender receiver bits turned.differ)) (All-nil IsNoSlot)) in
      let ticks : ℕ = asked sender receiver (these ++ m ∷ []) in
      let all : Accepted f receiver sender (StationLog receiver old ++ call ∷ []) ≡ Come s sender receiver ticks starts =
      sym (ap (Accepted f receiver sender) (ap (StationLog receiver) is ∙ logged))
      ∙ accepted (these ++ m ∷ []) first sender receiver turned
      ∙ ap (Come s sender receiver ticks) (ap (Starts f sender receiver) is ∙ same_starts) in
      let known : All (λ r. IsKnown starts r.message) (Come s sender receiver ticks starts) =
      All-map (λ (r : Receipt). IsKnown starts r.message) (receipt_of s sender receiver) (filter (has_come s sender receiver ticks) starts)
      (All-filter (has_come s sender receiver ticks) (λ (start : Start). IsKnown starts start.message) starts (all-known starts)) in
      let new : All (λ r. IsKnown starts r.message) (accepted_by f receiver sender (StationLog receiver old) call) =
      All-drop (λ (r : Receipt). IsKnown starts r.message) (length (Accepted f receiver sender (StationLog receiver old)))
      (Accepted f receiver sender (StationLog receiver old ++ call ∷ [])) (subst (All (λ (r : Receipt). IsKnown starts r.message)) (sym all) known) in
      let with_entry : accepted_with f receiver sender old entry ≡ accepted_by f receiver sender (StationLog receiver old) call =
      ap (flat_map (accepted_by f receiver sender (StationLog receiver old))) handed ∙ append-nil (accepted_by f receiver sender (StationLog receiver old) call) in
      All-map IsHonest (λ (r : Receipt). record { came = entry.time; began = slot_time f sender receiver old r.message }) (accepted_with f receiver sender old entry)
      (All-weaker (λ (r : Receipt). IsKnown starts r.message) (λ (r : Receipt). is_none (slot_time f sender receiver old r.message) ≡ false)
      (λ r is_known. timed (find (λ start. is_same r.message start.message) starts) is_known) (accepted_with f receiver sender old entry)
      (subst (All (λ (r : Receipt). IsKnown starts r.message)) (sym with_entry) new))

  -- an entry more
  one-honest : (old : List Entry) (entry : Entry) → AreHonest old → All IsHonest (arrivals_of f old entry entry.what) → AreHonest (old ++ entry ∷ [])
  one-honest old entry honest new =
      subst (All IsHonest) (sym (along-push (λ before so_far entry. arrivals_of f before entry entry.what) old entry))
      (All-append IsHonest (arriving f old) (arrivals_of f old entry entry.what) honest new)

  none-honest : (old : List Entry) → AreHonest old → AreHonest (old ++ [])
  none-honest old honest = subst AreHonest (sym (append-nil old)) honest

  happens-honest : (these : List Moment) (m : Moment) (o : Occasion) (outcome : Outcome) → AreFirst s (these ++ m ∷ [])
      → journal (these ++ m ∷ []) ≡ journal these ++ map (entry_of s m.time) (happens s (journal these) m.time o outcome)
      → AreHonest (journal these) → AreHonest (journal these ++ map (entry_of s m.time) (happens s (journal these) m.time o outcome))
  happens-honest these m (arrival receiver sender) nothing first is honest = none-honest (journal these) honest
  happens-honest these m (arrival receiver sender) (gives bits) first is honest =
      one-honest (journal these) (entry_of s m.time (Came receiver sender bits)) honest (came-honest these m receiver sender bits first is)
  happens-honest these m (arrival receiver sender) fails first is honest =
      one-honest (journal these) (entry_of s m.time (TakeFailed receiver sender)) honest (All-nil IsHonest)
  happens-honest these m (sampling station) outcome first is honest = go (nat_lt (number_of s station (m.time - 1)) (number_of s station m.time))
    where
      what : What
      what = Took station (value_at s.settings s.shapes station m.time)

      go : (b : Bool) → AreHonest (journal these ++ map (entry_of s m.time) (cond b (what ∷ []) []))
      go true = one-honest (journal these) (entry_of s m.time what) honest (All-nil IsHonest)
      go false = none-honest (journal these) honest
  happens-honest these m (slot station) outcome first is honest =
      one-honest (journal these) (entry_of s m.time (slot_with station (frames_at s (journal these) m.time station))) honest (All-nil IsHonest)
  happens-honest these m (departure sender receiver) nothing first is honest = none-honest (journal these) honest
  happens-honest these m (departure sender receiver) (gives bits) first is honest = none-honest (journal these) honest
  happens-honest these m (departure sender receiver) fails first is honest =
      one-honest (journal these) (entry_of s m.time (SendFailed sender receiver)) honest (All-nil IsHonest)

  moment-honest : (these : List Moment) (m : Moment) → AreFirst s (these ++ m ∷ []) → AreHonest (journal these) → AreHonest (journal (these ++ m ∷ []))
  moment-honest these m first honest =
      let is = ap (λ (state : State). state.journal) (run-push s these m) in
      subst AreHonest (sym is)
      (happens-honest these m m.occasion (outcome_by (run_through s these).lines m.time m.occasion) first is honest)

  along_run : (these ms left : List Moment) → these ++ (ms ++ left) ≡ moments s.settings s.end → AreHonest (journal these) → AreHonest (journal (these ++ ms))
  along_run these [] left are honest = subst (λ (all : List Moment). AreHonest (journal all)) (sym (append-nil these)) honest
  along_run these (m ∷ ms) left are honest =
      let split : (these ++ m ∷ []) ++ (ms ++ left) ≡ moments s.settings s.end = append_assoc these (m ∷ []) (ms ++ left) ∙ are in
      subst (λ (all : List Moment). AreHonest (journal all)) (append_assoc these (m ∷ []) ms)
      (along_run (these ++ m ∷ []) ms left split (moment-honest these m (record { left = ms ++ left; are = split }) honest))

  none-yet : AreHonest []
  unfolding along_from
  none-yet = All-nil IsHonest

  pub honest-all : (these : List Moment) → AreFirst s these → Forged f (journal these) ≡ 0
  honest-all these first =
      let honest = along_run [] these first.left first.are none-yet in
      let arrivals : List Arrival = arriving f (journal these) in
      let counts : count_by (λ a. is_none a.began) arrivals ≤ length arrivals * 0 =
      sum_by-le (λ (a : Arrival). cond (is_none a.began) 1 0) 0 arrivals
      (All-weaker IsHonest (λ (a : Arrival). cond (is_none a.began) 1 0 ≤ 0) (λ a is. rw is (omega arith)) arrivals honest) in
      omega (arith, counts)
