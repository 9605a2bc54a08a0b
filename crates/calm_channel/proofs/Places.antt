-- The moment at which an entry of a run's journal came about.
use Rattle.std.specs.Prelude.{◌-◌, nat_lt}
use Rattle.std.proofs.Common.{◌≡◌, ◌⊎◌, ℕ, ◌<◌, ◌≤◌, inl, inr, Bool, true, false, cond, List, [], ◌∷◌, ◌++◌, map, length, arith, refl, ap, sym, ◌∙◌, append_assoc, append-nil}
use Rattle.std.proofs.lemmas.Bool.{cases_lt, eq-eqb}
use Rattle.std.proofs.lemmas.List.{length-append, length_push}
use Rattle.pingpong.specs.declared.journal.Entry.{Entry}
use Rattle.pingpong.specs.declared.journal.What.{What}
use Rattle.pingpong.specs.declared.journal.What.TheVariants.{Came, SendFailed, Slot, TakeFailed, Took}
use Rattle.relay_core.specs.declared.call.Call.{Call}
use Rattle.relay_core.specs.Log as log
use Rattle.relay_core.specs.declared.call.Call.TheVariants as made
use Rattle.waveform_reader.specs.Scenario.{Setup}
use Rattle.waveform_reader.specs.Shapes.{value_at}
use Rattle.line_world.specs.Occasions.{Moment, Occasion, moments}
use Rattle.line_world.specs.Occasions.Occasion.{arrival, departure, sampling, slot}
use Rattle.line_journal.specs.Report.{station_of}
use Rattle.line_world.specs.Run.{outcome_by, run_through}
use Rattle.relay_core.specs.StationLog.{calls_of}
use Rattle.line_world.specs.World.{Outcome, entry_of, frames_at, happens, number_of, slot_with}
use Rattle.line_world.specs.World.Outcome.{fails, gives, nothing}
use Rattle.calm_channel.proofs.Stations.{journal_of}
use Rattle.calm_channel.proofs.Walk.{run-push}

-- none or one entry comes of a moment
few : (s : Setup) (before : List Entry) (t : ℕ) (o : Occasion) (outcome : Outcome)
    → (happens s before t o outcome ≡ []) ⊎ ((what : What) × (happens s before t o outcome ≡ what ∷ []))
few s before t (arrival receiver sender) nothing = inl refl
few s before t (arrival receiver sender) (gives bits) = inr (Came receiver sender bits, refl)
few s before t (arrival receiver sender) fails = inr (TakeFailed receiver sender, refl)
few s before t (sampling station) outcome = go (nat_lt (number_of s station (t - 1)) (number_of s station t))
  where
    go : (b : Bool) → (cond b (Took station (value_at s.settings s.shapes station t) ∷ []) [] ≡ [])
        ⊎ ((what : What) × (cond b (Took station (value_at s.settings s.shapes station t) ∷ []) [] ≡ what ∷ []))
    go true = inr (Took station (value_at s.settings s.shapes station t), refl)
    go false = inl refl
few s before t (slot station) outcome = inr (slot_with station (frames_at s before t station), refl)
few s before t (departure sender receiver) nothing = inl refl
few s before t (departure sender receiver) (gives bits) = inl refl
few s before t (departure sender receiver) fails = inr (SendFailed sender receiver, refl)

-- lists that are one, and whose fronts are as long, have one front
same-front : (xs ys : List Entry) (x y : Entry) (more others : List Entry) → length xs ≡ length ys → xs ++ x ∷ more ≡ ys ++ y ∷ others → (xs ≡ ys) × (x ≡ y)
same-front [] [] x y more others long is = (refl, cc)
same-front [] (z ∷ ys) x y more others long is = absurd (omega (arith, long))
same-front (z ∷ xs) [] x y more others long is = absurd (omega (arith, long))
same-front (z ∷ xs) (w ∷ ys) x y more others long is =
    let rest : xs ++ x ∷ more ≡ ys ++ y ∷ others = cc in
    let first : z ≡ w = cc in
    let found = same-front xs ys x y more others (omega (arith, long)) rest in
    (cc (first, found.0), found.1)

module _ (s : Setup) where
  journal-more : (done : List Moment) (x : Moment)
      → journal_of s (done ++ x ∷ []) ≡ journal_of s done ++ map (entry_of s x.time) (happens s (journal_of s done) x.time x.occasion (outcome_by (run_through s done).lines x.time x.occasion))
  journal-more done x = ap (λ state. state.journal) (run-push s done x)

  -- a journal only grows
  grows : (rest done : List Moment) → (more : List Entry) × (journal_of s (done ++ rest) ≡ journal_of s done ++ more)
  grows [] done = ([], ap (journal_of s) (append-nil done) ∙ sym (append-nil (journal_of s done)))
  grows (x ∷ rest) done =
      let later = grows rest (done ++ x ∷ []) in
      let gained : List Entry = map (entry_of s x.time) (happens s (journal_of s done) x.time x.occasion (outcome_by (run_through s done).lines x.time x.occasion)) in (
        gained ++ later.0,
        ap (journal_of s) (sym (append_assoc done (x ∷ []) rest)) ∙ later.1 ∙ ap (λ (j : List Entry). j ++ later.0) (journal-more done x)
            ∙ append_assoc (journal_of s done) gained later.0,
      )

  -- a moment at which an entry came about behind some others
  pub record CameAbout (before : List Entry) (entry : Entry) : Type 0 where
    pub done : List Moment
    pub moment : Moment
    pub left : List Moment
    pub are : done ++ moment ∷ left ≡ moments s.settings s.end
    pub journal : journal_of s done ≡ before
    pub what : What
    pub is : entry ≡ entry_of s moment.time what
    pub next : journal_of s (done ++ moment ∷ []) ≡ before ++ entry ∷ []

  came_about : (rest done left : List Moment) (before later : List Entry) (entry : Entry) → done ++ (rest ++ left) ≡ moments s.settings s.end
      → journal_of s (done ++ rest) ≡ before ++ entry ∷ later → length (journal_of s done) ≤ length before → CameAbout before entry
  came_about [] done left before later entry are is long =
      absurd (omega (arith, long, ap length (sym (ap (journal_of s) (append-nil done)) ∙ is), length-append before (entry ∷ later)))
  came_about (x ∷ rest) done left before later entry are is long =
      go (few s (journal_of s done) x.time x.occasion (outcome_by (run_through s done).lines x.time x.occasion)) (came_about rest (done ++ x ∷ []) left before later entry next_are next_is)
    where
      next_are : (done ++ x ∷ []) ++ (rest ++ left) ≡ moments s.settings s.end
      next_are = append_assoc done (x ∷ []) (rest ++ left) ∙ are

      next_is : journal_of s ((done ++ x ∷ []) ++ rest) ≡ before ++ entry ∷ later
      next_is = ap (journal_of s) (append_assoc done (x ∷ []) rest) ∙ is

      whats : List What
      whats = happens s (journal_of s done) x.time x.occasion (outcome_by (run_through s done).lines x.time x.occasion)

      one : (what : What) → whats ≡ what ∷ [] → length (journal_of s done) ≡ length before → CameAbout before entry
      one what alone short =
          let first : journal_of s (done ++ x ∷ []) ≡ journal_of s done ++ entry_of s x.time what ∷ [] =
          journal-more done x ∙ ap (λ (ws : List What). journal_of s done ++ map (entry_of s x.time) ws) alone in
          let more = grows rest (done ++ x ∷ []) in
          let whole : journal_of s done ++ entry_of s x.time what ∷ more.0 ≡ before ++ entry ∷ later =
          sym (append_assoc (journal_of s done) (entry_of s x.time what ∷ []) more.0) ∙ ap (λ (j : List Entry). j ++ more.0) (sym first) ∙ sym more.1 ∙ next_is in
          let same = same-front (journal_of s done) before (entry_of s x.time what) entry more.0 later short whole in
          record {
            done = done;
            moment = x;
            left = rest ++ left;
            are = are;
            journal = same.0;
            what = what;
            is = sym same.1;
            next = first ∙ ap (λ (j : List Entry). j ++ entry_of s x.time what ∷ []) same.0 ∙ ap (λ (e : Entry). before ++ e ∷ []) same.1;
          }

      go : (whats ≡ []) ⊎ ((what : What) × (whats ≡ what ∷ [])) → (length (journal_of s (done ++ x ∷ [])) ≤ length before → CameAbout before entry) → CameAbout before entry
      go (inl none) again =
          let same : journal_of s (done ++ x ∷ []) ≡ journal_of s done =
          journal-more done x ∙ ap (λ (ws : List What). journal_of s done ++ map (entry_of s x.time) ws) none ∙ append-nil (journal_of s done) in
          again (omega (arith, ap length same, long))
      go (inr found) again = by_length (cases_lt (length (journal_of s done)) (length before))
        where
          by_length : (length (journal_of s done) < length before) ⊎ (length before ≤ length (journal_of s done)) → CameAbout before entry
          by_length (inl less) =
              let longer = ap length (journal-more done x ∙ ap (λ (ws : List What). journal_of s done ++ map (entry_of s x.time) ws) found.1) in
              again (omega (arith, longer, length_push (journal_of s done) (entry_of s x.time found.0), less))
          by_length (inr no_less) = one found.0 found.1 (omega (arith, long, no_less))

  pub entry-moment : (these left : List Moment) (before later : List Entry) (entry : Entry) → these ++ left ≡ moments s.settings s.end
      → journal_of s these ≡ before ++ entry ∷ later → CameAbout before entry
  entry-moment these left before later entry are is = came_about these [] left before later entry are is (omega arith)

-- an entry hands its station a call at its stamp
pub handed : (me at : ℕ) (what : What) → station_of what ≡ me → (call : Call) × (calls_of me at what ≡ call ∷ []) × (log.stamp_of call ≡ at)
handed me at (Took station values) is = (made.Sample at values, ap (λ (b : Bool). cond b (made.Sample at values ∷ []) []) (eq-eqb station me is), refl)
handed me at (Slot station first second) is = (made.Slot at, ap (λ (b : Bool). cond b (made.Slot at ∷ []) []) (eq-eqb station me is), refl)
handed me at (Came station peer bits) is = (made.Bits at peer bits, ap (λ (b : Bool). cond b (made.Bits at peer bits ∷ []) []) (eq-eqb station me is), refl)
handed me at (SendFailed station peer) is = (made.Fault at peer, ap (λ (b : Bool). cond b (made.Fault at peer ∷ []) []) (eq-eqb station me is), refl)
handed me at (TakeFailed station peer) is = (made.Fault at peer, ap (λ (b : Bool). cond b (made.Fault at peer ∷ []) []) (eq-eqb station me is), refl)
