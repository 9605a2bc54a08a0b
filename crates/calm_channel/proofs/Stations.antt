-- What a run keeps of a station that sends to a peer, moment by moment.
use Rattle.std.specs.Prelude.{◌-◌, ◌%◌, ◌/◌, ◌==◌, nat_le, nat_lt, not, option_map}
use Rattle.std.specs.Int.{div_ceil}
use Rattle.std.proofs.Common.{◌≡◌, ℕ, ◌+◌, ◌*◌, ◌<◌, ◌≤◌, Bool, true, false, cond, List, [], ◌∷◌, ◌++◌, All, Option, None, Some, map, option_to_list, arith, refl, ap, sym, subst, ◌∙◌, append_assoc, append-nil}
use Rattle.std.proofs.lemmas.Bool.{and_from, eq-eqb, eqb-true, le-leb, ltb-false, ltb-true}
use Rattle.std.proofs.lemmas.List.Elements.{All-cons, All-map, All-nil}
use Rattle.std.proofs.lemmas.List.Sums.{fold_push}
use Rattle.ld_base.specs.Message.{Contents}
use Rattle.ld_base.specs.declared.fields.Fields.{Fields}
use Rattle.ld_base.specs.declared.message.Echo.{Echo}
use Rattle.ld_base.specs.declared.phases.Phases.{Phases}
use Rattle.payload_map.specs.Sent.{Slot}
use Rattle.pingpong.specs.declared.journal.Entry.{Entry}
use Rattle.pingpong.specs.declared.journal.What.{What}
use Rattle.pingpong.specs.declared.journal.What.TheVariants.{Came, SendFailed, TakeFailed, Took}
use Rattle.sample_store.specs.Along.{along_from}
use Rattle.sample_store.specs.Offers.{next_number, own_number, under}
use Rattle.sample_store.specs.declared.ring.Numbered.{Numbered}
use Rattle.relay_core.specs.Accepted.{Accepted, last_of}
use Rattle.relay_core.specs.Line.{is_locked_from}
use Rattle.relay_core.specs.Log.{now}
use Rattle.relay_core.specs.declared.call.Call.{Call}
use Rattle.relay_core.specs.declared.call.Call.TheVariants as made
use Rattle.relay_core.specs.Sent.{Slots, begins, echo_of, message_of, ready}
use Rattle.waveform_reader.specs.Scenario.{Setup}
use Rattle.waveform_reader.specs.Shapes.{value_at}
use Rattle.waveform_reader.specs.Sound.{IsSetup}
use Rattle.line_journal.specs.Crossings.{Start, Starts}
use Rattle.line_world.specs.Journals.{AreFirst}
use Rattle.line_journal.specs.Stations.{ArePair}
use Rattle.line_world.specs.Occasions.{Moment, Occasion, moments}
use Rattle.line_world.specs.Occasions.Occasion.{arrival, departure, sampling, slot}
use Rattle.line_world.specs.Run.{outcome_by, run_through}
use Rattle.relay_core.specs.StationLog.{StationLog, calls_by, calls_of, stamp_at}
use Rattle.line_world.specs.World.{Outcome, entry_of, frames_at, happens, number_of, slot_with, stamp_of}
use Rattle.line_world.specs.World.Outcome.{fails, gives, nothing}
use Rattle.calm_channel.proofs.Additions.{Holds, IsOther, entries-other, now-call, now-entries, one-sample, one-slot, taken_in}
use Rattle.calm_channel.proofs.Clocked.{log-all}
use Rattle.calm_channel.proofs.Numbers.{few_stations, are-numbers, quick, sample-on_grid, stamps-up}
use Rattle.calm_channel.proofs.Pace.{at as moment_of}
use Rattle.calm_channel.proofs.Sending.{AreNumbers, HasBegun, HasBegun-none, HasTaken, HasTaken-none, begins-ready, began, next_number-most, newest_of, passed, sampled, unsampled}
use Rattle.calm_channel.proofs.Walk.{run-push}
use Rattle.calm_channel.proofs.Steps.{AreInStep, AreInStep-at, IsInStep, Marks, is_sampling, is_slot, marked, marks, start, steps}

-- the journal of a run through some moments
abbrev pub journal_of : Setup → List Moment → List Entry
journal_of s these = (run_through s these).journal

-- a message that began in a slot says when, and which message its sender had accepted last
pub record IsSpoken (s : Setup) (me peer : ℕ) (one : Start) : Type 0 where
  pub before : List Moment
  pub left : List Moment
  pub are : before ++ moment_of one.time (slot me) ∷ left ≡ moments s.settings s.end
  pub echo : one.message.echo ≡ echo_of (last_of (Accepted s.settings me peer (StationLog me (journal_of s before))))
  pub sent : one.message.sent ≡ stamp_of s me one.time

module _ (s : Setup) (kept : IsSetup s) (me peer : ℕ) (pair : ArePair s.settings.stations me peer) where
  abbrev f : Fields
  f = s.settings

  pub quick_enough : 125 * (div_ceil 36 f.channels - 1) ≤ f.spacing
  quick_enough = omega (arith, quick f kept.settings)

  pub own_numbers : AreNumbers f.spacing (number_of s me)
  own_numbers = are-numbers s kept me pair.one_there

  abbrev pub Taken : ℕ → List Numbered → Type 0
  Taken = HasTaken f.channels f.spacing quick_enough (number_of s me) own_numbers (IsSpoken s me peer)

  abbrev pub Began : ℕ → List (Slot Contents) → List Start → Type 0
  Began = HasBegun f.channels f.spacing quick_enough (number_of s me) own_numbers (IsSpoken s me peer)

  -- after some first moments
  pub record Keeps (these : List Moment) : Type 0 where
    pub has_taken : Taken (marks me peer these).samples (taken_in f me (StationLog me (journal_of s these)))
    pub has_begun : Began (marks me peer these).slots (Slots f me peer (StationLog me (journal_of s these))) (Starts f me peer (journal_of s these))
    pub time : now (StationLog me (journal_of s these)) ≤ stamp_of s me (marks me peer these).latest

  keeps-none : Keeps []
  unfolding along_from
  keeps-none = record {
    has_taken = HasTaken-none f.channels f.spacing quick_enough (number_of s me) own_numbers (IsSpoken s me peer);
    has_begun = HasBegun-none f.channels f.spacing quick_enough (number_of s me) own_numbers (IsSpoken s me peer);
    time = omega arith;
  }

  -- one moment more
  module _ (done : List Moment) (t : ℕ) where
    abbrev old : List Entry
    old = journal_of s done

    abbrev with_moment : Occasion → List Moment
    with_moment o = done ++ moment_of t o ∷ []

    abbrev whats : Occasion → List What
    whats o = happens s old t o (outcome_by (run_through s done).lines t o)

    journal-more : (o : Occasion) → journal_of s (with_moment o) ≡ old ++ map (entry_of s t) (whats o)
    journal-more o = ap (λ state. state.journal) (run-push s done (moment_of t o))

    marks-more : (o : Occasion) → marks me peer (with_moment o) ≡ marked me peer (marks me peer done) (moment_of t o)
    marks-more o = fold_push (marked me peer) start done (moment_of t o)

    -- the station's time
    time-more : (o : Occasion) → Keeps done → IsInStep me peer (marks me peer done) (moment_of t o)
        → now (StationLog me (journal_of s (with_moment o))) ≤ stamp_of s me (marks me peer (with_moment o)).latest
    time-more o before step =
        let early : now (StationLog me old) ≤ stamp_of s me t = omega (arith, before.time, stamps-up s kept me pair.one_there (marks me peer done).latest t step.later) in
        let late = now-entries me (stamp_of s me t) (map (entry_of s t) (whats o)) old
        (All-map (λ entry. stamp_at me entry ≡ stamp_of s me t) (entry_of s t) (whats o) (λ k d inside. refl)) early in
        subst (λ (m : Marks). now (StationLog me (journal_of s (with_moment o))) ≤ stamp_of s me m.latest) (sym (marks-more o))
        (subst (λ (j : List Entry). now (StationLog me j) ≤ stamp_of s me t) (sym (journal-more o)) late)

    -- from what the entries hold
    keeps-with : (o : Occasion) (ticks turns : ℕ) (taken : List Numbered) (sent : List (Slot Contents)) (starts : List Start) → Keeps done
        → IsInStep me peer (marks me peer done) (moment_of t o)
        → (marked me peer (marks me peer done) (moment_of t o)).samples ≡ ticks → (marked me peer (marks me peer done) (moment_of t o)).slots ≡ turns
        → Holds f me peer (old ++ map (entry_of s t) (whats o)) taken sent starts → Taken ticks taken → Began turns sent starts → Keeps (with_moment o)
    keeps-with o ticks turns taken sent starts before step samples_are slots_are holds has_taken has_begun =
        let journal = journal_of s (with_moment o) in
        let there : Holds f me peer journal taken sent starts = subst (λ (j : List Entry). Holds f me peer j taken sent starts) (sym (journal-more o)) holds in
        let one : (marks me peer (with_moment o)).samples ≡ ticks = ap (λ (m : Marks). m.samples) (marks-more o) ∙ samples_are in
        let two : (marks me peer (with_moment o)).slots ≡ turns = ap (λ (m : Marks). m.slots) (marks-more o) ∙ slots_are in
        record {
          has_taken =
              subst (λ (n : ℕ). Taken n (taken_in f me (StationLog me journal))) (sym one)
              (subst (λ (x : List Numbered). Taken ticks x) (sym there.taken_are) has_taken);
          has_begun =
              subst (λ (n : ℕ). Began n (Slots f me peer (StationLog me journal)) (Starts f me peer journal)) (sym two)
              (subst (λ (x : List (Slot Contents)). Began turns x (Starts f me peer journal)) (sym there.slots_are)
              (subst (λ (x : List Start). Began turns sent x) (sym there.starts_are) has_begun));
          time = time-more o before step;
        }

    abbrev taken : List Numbered
    taken = taken_in f me (StationLog me old)

    abbrev sent : List (Slot Contents)
    sent = Slots f me peer (StationLog me old)

    abbrev starts : List Start
    starts = Starts f me peer old

    held : Holds f me peer old taken sent starts
    held = record { taken_are = refl; slots_are = refl; starts_are = refl }

    -- a moment of another kind
    others : (o : Occasion) → is_sampling me o ≡ false → is_slot me o ≡ false → All (λ what. All IsOther (calls_of me (stamp_of s me t) what)) (whats o) → Keeps done
        → IsInStep me peer (marks me peer done) (moment_of t o) → Keeps (with_moment o)
    others o no_sample no_slot all before step =
        keeps-with o (marks me peer done).samples (marks me peer done).slots taken sent starts before step
        (ap (λ (b : Bool). (marks me peer done).samples + cond b 1 0) no_sample ∙ omega arith)
        (ap (λ (b : Bool). (marks me peer done).slots + cond b 1 0) no_slot ∙ omega arith)
        (entries-other f me peer old taken sent starts held (map (entry_of s t) (whats o))
        (log-all IsOther me (map (entry_of s t) (whats o)) (All-map (λ entry. All IsOther (calls_by me entry)) (entry_of s t) (whats o) all)))
        before.has_taken before.has_begun

    if-other : (b : Bool) (call : Call) → IsOther call → All IsOther (cond b (call ∷ []) [])
    if-other true call other = All-cons IsOther call [] other (All-nil IsOther)
    if-other false call other = All-nil IsOther

    abbrev at : ℕ
    at = stamp_of s me t

    abbrev AreOthers : What → Type 0
    AreOthers what = All IsOther (calls_of me at what)

    arrivals-other : (receiver sender : ℕ) (outcome : Outcome) → All AreOthers (happens s old t (arrival receiver sender) outcome)
    arrivals-other receiver sender nothing = All-nil AreOthers
    arrivals-other receiver sender (gives bits) =
        All-cons AreOthers (Came receiver sender bits) [] (if-other (receiver == me) (made.Bits at sender bits) tt) (All-nil AreOthers)
    arrivals-other receiver sender fails =
        All-cons AreOthers (TakeFailed receiver sender) [] (if-other (receiver == me) (made.Fault at sender) tt) (All-nil AreOthers)

    departures-other : (sender receiver : ℕ) (outcome : Outcome) → All AreOthers (happens s old t (departure sender receiver) outcome)
    departures-other sender receiver nothing = All-nil AreOthers
    departures-other sender receiver (gives bits) = All-nil AreOthers
    departures-other sender receiver fails =
        All-cons AreOthers (SendFailed sender receiver) [] (if-other (sender == me) (made.Fault at receiver) tt) (All-nil AreOthers)

    samplings-other : (station : ℕ) (outcome : Outcome) → (station == me) ≡ false → All AreOthers (happens s old t (sampling station) outcome)
    samplings-other station outcome away = go (nat_lt (number_of s station (t - 1)) (number_of s station t))
      where
        go : (b : Bool) → All AreOthers (cond b (Took station (value_at f s.shapes station t) ∷ []) [])
        go true =
            All-cons AreOthers (Took station (value_at f s.shapes station t)) []
            (subst (λ (b : Bool). All IsOther (cond b (made.Sample at (value_at f s.shapes station t) ∷ []) [])) (sym away) (All-nil IsOther))
            (All-nil AreOthers)
        go false = All-nil AreOthers

    slots-other : (station : ℕ) (outcome : Outcome) → (station == me) ≡ false → All AreOthers (happens s old t (slot station) outcome)
    slots-other station outcome away =
        All-cons AreOthers (slot_with station (frames_at s old t station)) []
        (subst (λ (b : Bool). All IsOther (cond b (made.Slot at ∷ []) [])) (sym away) (All-nil IsOther))
        (All-nil AreOthers)

    itself : (me == me) ≡ true
    itself = eq-eqb me me refl

    early : (o : Occasion) → Keeps done → IsInStep me peer (marks me peer done) (moment_of t o) → now (StationLog me old) ≤ at
    early o before step = omega (arith, before.time, stamps-up s kept me pair.one_there (marks me peer done).latest t step.later)

    -- the station's own sample
    own-sampling : Keeps done → IsInStep me peer (marks me peer done) (moment_of t (sampling me)) → Keeps (with_moment (sampling me))
    own-sampling before step = go (nat_lt (number_of s me (t - 1)) (number_of s me t)) refl
      where
        m : Marks
        m = marks me peer done

        is_t : m.samples ≡ t
        is_t = step.at_sampling itself

        samples_are : (marked me peer m (moment_of t (sampling me))).samples ≡ m.samples + 1
        samples_are = ap (λ (b : Bool). m.samples + cond b 1 0) itself

        values : Phases
        values = value_at f s.shapes me t

        go : (b : Bool) → nat_lt (number_of s me (t - 1)) (number_of s me t) ≡ b → Keeps (with_moment (sampling me))
        go true is =
            let more : number_of s me (t - 1) < number_of s me t = ltb-true (number_of s me (t - 1)) (number_of s me t) is in
            let entry = entry_of s t (Took me values) in
            let calls : calls_by me entry ≡ made.Sample at values ∷ [] = ap (λ (b : Bool). cond b (made.Sample at values ∷ []) []) itself in
            let at_most : All (λ x. x.number ≤ number_of s me (t - 1)) taken = subst (λ (n : ℕ). All (λ x. x.number ≤ number_of s me (n - 1)) taken) is_t before.has_taken.most in
            let above : next_number taken ≤ number_of s me t = omega (arith, next_number-most taken (number_of s me (t - 1)) at_most, more) in
            let takes : own_number f.spacing taken at ≡ Some (number_of s me t) =
            ap (λ (b : Bool). cond b (Some (number_of s me t)) None)
            (and_from (nat_le (at % f.spacing) 1) (nat_le (next_number taken) (at / f.spacing))
            (le-leb (at % f.spacing) 1 (sample-on_grid s kept me pair.one_there t more)) (le-leb (next_number taken) (at / f.spacing) above)) in
            let x : Numbered = record { number = number_of s me m.samples; values = values } in
            let same : taken ++ under (own_number f.spacing taken at) values ≡ taken ++ x ∷ [] =
            ap (λ (o : Option ℕ). taken ++ under o values) takes
            ∙ ap (λ (n : ℕ). taken ++ record { number = number_of s me n; values = values } ∷ []) (sym is_t) in
            let whats_are : old ++ map (entry_of s t) (whats (sampling me)) ≡ old ++ entry ∷ [] =
            ap (λ (b : Bool). old ++ map (entry_of s t) (cond b (Took me values ∷ []) [])) is in
            let holds = one-sample f me peer old taken sent starts held entry at at values calls
            (now-call (StationLog me old) (made.Sample at values) (early (sampling me) before step)) in
            keeps-with (sampling me) (m.samples + 1) m.slots (taken ++ x ∷ []) sent starts before step samples_are (omega arith)
            (subst (λ (j : List Entry). Holds f me peer j (taken ++ x ∷ []) sent starts) (sym whats_are)
            (subst (λ (xs : List Numbered). Holds f me peer (old ++ entry ∷ []) xs sent starts) same holds))
            (sampled f.channels f.spacing quick_enough (number_of s me) own_numbers (IsSpoken s me peer) m.samples taken before.has_taken values)
            before.has_begun
        go false is =
            let still : number_of s me t ≤ number_of s me (t - 1) = ltb-false (number_of s me (t - 1)) (number_of s me t) is in
            let whats_are : old ++ map (entry_of s t) (whats (sampling me)) ≡ old =
            ap (λ (b : Bool). old ++ map (entry_of s t) (cond b (Took me values ∷ []) [])) is ∙ append-nil old in
            keeps-with (sampling me) (m.samples + 1) m.slots taken sent starts before step samples_are (omega arith)
            (subst (λ (j : List Entry). Holds f me peer j taken sent starts) (sym whats_are) held)
            (unsampled f.channels f.spacing quick_enough (number_of s me) own_numbers (IsSpoken s me peer) m.samples taken before.has_taken
            (subst (λ (n : ℕ). number_of s me n ≤ number_of s me (n - 1)) (sym is_t) still))
            before.has_begun

    -- the station's own slot
    own-slot : (left : List Moment) → done ++ moment_of t (slot me) ∷ left ≡ moments f s.end → Keeps done → IsInStep me peer (marks me peer done) (moment_of t (slot me))
        → Keeps (with_moment (slot me))
    own-slot left are before step = go (begins f.channels sent (ready f me peer log time)) refl
      where
        m : Marks
        m = marks me peer done

        log : List Call
        log = StationLog me old

        time : ℕ
        time = now (log ++ made.Slot at ∷ [])

        echo : Option Echo
        echo = echo_of (last_of (Accepted f me peer log))

        yellow : Bool
        yellow = not (is_locked_from f peer log)

        entry : Entry
        entry = entry_of s t (slot_with me (frames_at s old t me))

        calls : calls_by me entry ≡ made.Slot at ∷ []
        calls = ap (λ (b : Bool). cond b (made.Slot at ∷ []) []) itself

        says : (x : Numbered) → (message_of me peer time echo x).number ≡ x.number
        says x = refl

        stamped : time ≡ at
        stamped = now-call log (made.Slot at) (early (slot me) before step)

        samples_are : (marked me peer m (moment_of t (slot me))).samples ≡ m.samples
        samples_are = omega arith

        slots_are : (marked me peer m (moment_of t (slot me))).slots ≡ m.slots + 1
        slots_are = ap (λ (b : Bool). m.slots + cond b 1 0) itself

        spoken : (x : Contents) → begins f.channels sent (ready f me peer log time) ≡ Some x → IsSpoken s me peer (record { message = x; time = t })
        spoken x is = from (newest_of taken) refl
          where
            from : (newest : Option Numbered) → newest_of taken ≡ newest → IsSpoken s me peer (record { message = x; time = t })
            from None none = absurd (let nothing = sym (begins-ready f.channels sent (ready f me peer log time) x is) ∙ ap (option_map (message_of me peer time echo)) none in cc)
            from (Some sample) one =
                let told = sym (begins-ready f.channels sent (ready f me peer log time) x is) ∙ ap (option_map (message_of me peer time echo)) one in
                let same : x ≡ message_of me peer time echo sample = cc in
                record { before = done; left = left; are = are; echo = ap (λ (m : Contents). m.echo) same; sent = ap (λ (m : Contents). m.sent) same ∙ stamped }

        with_loaded : Option Contents → Slot Contents
        with_loaded loaded = record { loaded = loaded; yellow = yellow }

        holds : (loaded : Option Contents) → begins f.channels sent (ready f me peer log time) ≡ loaded
            → Holds f me peer (old ++ entry ∷ []) taken (sent ++ with_loaded loaded ∷ []) (starts ++ map (λ m. record { message = m; time = t }) (option_to_list loaded))
        holds loaded is = one-slot f me peer old taken sent starts held entry at (with_loaded loaded) calls (ap (λ (o : Option Contents). with_loaded o ∷ []) is)

        go : (loaded : Option Contents) → begins f.channels sent (ready f me peer log time) ≡ loaded → Keeps (with_moment (slot me))
        go None is =
            keeps-with (slot me) m.samples (m.slots + 1) taken (sent ++ with_loaded None ∷ []) starts before step samples_are slots_are
            (subst (Holds f me peer (old ++ entry ∷ []) taken (sent ++ with_loaded None ∷ [])) (append-nil starts) (holds None is))
            before.has_taken
            (passed f.channels f.spacing quick_enough (number_of s me) own_numbers (IsSpoken s me peer) m.samples m.slots taken sent starts before.has_taken before.has_begun
            t (step.at_slot itself).2 (step.at_slot itself).0 (message_of me peer time echo) says yellow is)
        go (Some x) is =
            keeps-with (slot me) m.samples (m.slots + 1) taken (sent ++ with_loaded (Some x) ∷ []) (starts ++ record { message = x; time = t } ∷ [])
            before step samples_are slots_are (holds (Some x) is)
            before.has_taken
            (began f.channels f.spacing quick_enough (number_of s me) own_numbers (IsSpoken s me peer) m.samples m.slots taken sent starts before.has_taken before.has_begun
            t (step.at_slot itself).2 (step.at_slot itself).0 (message_of me peer time echo) says yellow x is (spoken x is))

    keeps-more : (o : Occasion) (left : List Moment) → done ++ moment_of t o ∷ left ≡ moments f s.end → Keeps done → IsInStep me peer (marks me peer done) (moment_of t o)
        → Keeps (with_moment o)
    keeps-more (arrival receiver sender) left are before step =
        others (arrival receiver sender) refl refl (arrivals-other receiver sender (outcome_by (run_through s done).lines t (arrival receiver sender))) before step
    keeps-more (departure sender receiver) left are before step =
        others (departure sender receiver) refl refl (departures-other sender receiver (outcome_by (run_through s done).lines t (departure sender receiver))) before step
    keeps-more (sampling station) left are before step = go (station == me) refl
      where
        go : (b : Bool) → (station == me) ≡ b → Keeps (with_moment (sampling station))
        go false away = others (sampling station) away refl (samplings-other station nothing away) before step
        go true here =
            let same : me ≡ station = sym (eqb-true station me here) in
            subst (λ (station : ℕ). IsInStep me peer (marks me peer done) (moment_of t (sampling station)) → Keeps (with_moment (sampling station))) same (own-sampling before) step
    keeps-more (slot station) left are before step = go (station == me) refl
      where
        go : (b : Bool) → (station == me) ≡ b → Keeps (with_moment (slot station))
        go false away = others (slot station) refl away (slots-other station nothing away) before step
        go true here =
            let same : me ≡ station = sym (eqb-true station me here) in
            subst (λ (station : ℕ). done ++ moment_of t (slot station) ∷ left ≡ moments f s.end → IsInStep me peer (marks me peer done) (moment_of t (slot station))
            → Keeps (with_moment (slot station))) same (λ are. own-slot left are before) are step

  -- the moments of a scenario are in step
  in_step : AreInStep me peer (moments f s.end) start
  in_step = (steps f me peer s.end (few_stations s kept).0 (few_stations s kept).1 pair).0

  pub moment-in_step : (done : List Moment) (x : Moment) (left : List Moment) → done ++ x ∷ left ≡ moments f s.end → IsInStep me peer (marks me peer done) x
  moment-in_step done x left are = AreInStep-at me peer done x left start (subst (λ (these : List Moment). AreInStep me peer these start) (sym are) in_step)

  keeps-through : (rest done left : List Moment) → done ++ (rest ++ left) ≡ moments f s.end → Keeps done → Keeps (done ++ rest)
  keeps-through [] done left are before = subst Keeps (sym (append-nil done)) before
  keeps-through (x ∷ rest) done left are before =
      subst Keeps (append_assoc done (x ∷ []) rest)
      (keeps-through rest (done ++ x ∷ []) left (append_assoc done (x ∷ []) (rest ++ left) ∙ are)
      (keeps-more done x.time x.occasion (rest ++ left) are before (moment-in_step done x (rest ++ left) are)))

  pub keeps : (these : List Moment) → AreFirst s these → Keeps these
  keeps these first = keeps-through these [] first.left first.are keeps-none
