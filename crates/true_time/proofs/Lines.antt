-- The lines of a report that tell an estimate tell that of an exchange in force.
use Rattle.std.specs.Prelude.{Contains, ℤ, option_map}
use Rattle.std.specs.List.{flat_map}
use Rattle.std.specs.Option.{option_to_list}
use Rattle.std.proofs.Common.{◌≡◌, ℕ, ◌≤◌, Bool, true, false, cond, List, [], ◌∷◌, ◌++◌, All, get_or, length, map, Option, None, Some, take, inl, inr, refl, ap, sym, subst, ◌∙◌}
use Rattle.std.proofs.Math.Seq.{take-length}
use Rattle.std.proofs.lemmas.List.Elements.{Contains-append_cases, Contains-get_or}
use Rattle.std.proofs.lemmas.Option.{get_or_from_slice_get, slice_get_within}
use Rattle.ld_base.specs.declared.fields.Fields.{Fields}
use Rattle.pingpong.specs.Exchange.{estimate2, round_trip}
use Rattle.pingpong.specs.declared.journal.Entry.{Entry}
use Rattle.pingpong.specs.declared.journal.What.{What}
use Rattle.pingpong.specs.declared.journal.What.TheVariants.{Came, SendFailed, Slot, TakeFailed, Took}
use Rattle.relay_core.specs.Answers.{changes_by, judged_by}
use Rattle.relay_core.specs.declared.answers.Change.{Change}
use Rattle.relay_core.specs.declared.answers.Judged.{Judged}
use Rattle.relay_core.proofs.Calls.{added-is}
use Rattle.sample_store.specs.Along.{along_from}
use Rattle.line_journal.specs.Stations.{ArePair, Names}
use Rattle.line_journal.specs.Report.{Lines, alarm_line, bound_of, brings_exchange, crossing_in_force, error_of, est_line, estimates, lines_of, set_line, station_of}
use Rattle.relay_core.specs.StationLog.{StationLog, calls_by}
use Rattle.line_journal.specs.declared.crossing.Crossing.{Crossing}
use Rattle.line_journal.specs.declared.line.Line.{Line}
use Rattle.line_journal.specs.declared.line.Line.TheVariants as line
use Rattle.line_journal.proofs.Entries.{Lines-push}
use Rattle.true_time.specs.Estimates.{EstimatesAreBounded, IsInForce}
use Rattle.true_time.specs.Lines.{ErrsWithin, HasBound}
use Rattle.true_time.specs.Places.{IsAt}
use Rattle.true_time.specs.TrueTime.{AllAreTraced}
use Rattle.true_time.proofs.Alongs.{along-grows, comes-with, take-one}
use Rattle.true_time.proofs.Elements.{in-mapped, none-in, option-in}

-- what happened at a place names stations of the line
name-at : (P : What → Type 0) (journal : List Entry) (place : ℕ) (entry : Entry) → All (λ (e : Entry). P e.what) journal → IsAt journal place entry → P entry.what
name-at P journal place entry names is_at =
    subst (λ (e : Entry). P e.what) (get_or_from_slice_get journal place entry entry is_at) (names place entry (slice_get_within journal place entry is_at))

Lines-none : (f : Fields) → Lines f [] ≡ []
unfolding along_from
Lines-none f = refl

-- what holds of each line of an estimate, of a set and of an alarm holds of all lines
module _ (f : Fields) (journal : List Entry) (names : All (λ (e : Entry). Names f.stations e.what) journal) (P : Line → Type 0)
    (of_estimate : (me peer place : ℕ) (entry : Entry) (crossing : Crossing) → ArePair f.stations me peer → IsInForce f me peer journal place entry crossing → P (est_line f me peer entry crossing))
    (of_set : (time me : ℕ) (judged : Judged) → P (set_line time me judged)) (of_alarm : (time me : ℕ) (change : Change) → P (alarm_line time me change)) where
  estimate-line : (place : ℕ) (entry : Entry) (line : Line) → IsAt journal place entry → (what : What) → entry.what ≡ what
      → Contains (estimates f (take place journal) entry what) line → P line
  estimate-line place entry line is_at (Took station values) is has = absurd (none-in line has)
  estimate-line place entry line is_at (Slot station first second) is has = absurd (none-in line has)
  estimate-line place entry line is_at (SendFailed station peer) is has = absurd (none-in line has)
  estimate-line place entry line is_at (TakeFailed station peer) is has = absurd (none-in line has)
  estimate-line place entry line is_at (Came station peer bits) is has = go (brings_exchange f station peer (take place journal) entry) has
    where
      pair : ArePair f.stations station peer
      pair = subst (Names f.stations) is (name-at (Names f.stations) journal place entry names is_at)

      go : (b : Bool) → Contains (cond b (map (est_line f station peer entry) (option_to_list (crossing_in_force f station peer (take place journal ++ entry ∷ [])))) []) line → P line
      go false has = absurd (none-in line has)
      go true has =
          let (crossing, inside, same) = in-mapped (est_line f station peer entry) (option_to_list (crossing_in_force f station peer (take place journal ++ entry ∷ []))) line has in
          let in_force = option-in (crossing_in_force f station peer (take place journal ++ entry ∷ [])) crossing inside in
          subst P same (of_estimate station peer place entry crossing pair
          (record { is_at = is_at; in_force = ap (crossing_in_force f station peer) (take-one journal place entry is_at) ∙ in_force }))

  line-of : (place : ℕ) (entry : Entry) (line : Line) → IsAt journal place entry → Contains (lines_of f (take place journal) entry) line → P line
  line-of place entry line is_at has =
      let me = station_of entry.what in
      let log = StationLog me (take place journal) in
      let sets = map (set_line entry.time me) (flat_map (judged_by f me log) (calls_by me entry)) in
      let alarms = map (alarm_line entry.time me) (flat_map (changes_by f me log) (calls_by me entry)) in
      elim (Contains-append_cases (estimates f (take place journal) entry entry.what) (sets ++ alarms) line has) [
        | inl estimate ↦ estimate-line place entry line is_at entry.what refl estimate
        | inr decided ↦ elim (Contains-append_cases sets alarms line decided) [
          | inl set ↦ let (judged, inside, same) = in-mapped (set_line entry.time me) (flat_map (judged_by f me log) (calls_by me entry)) line set in subst P same (of_set entry.time me judged)
          | inr alarm ↦ let (change, inside, same) = in-mapped (alarm_line entry.time me) (flat_map (changes_by f me log) (calls_by me entry)) line alarm in subst P same (of_alarm entry.time me change)
        ]
      ]

  pub lines-all : All P (Lines f journal)
  lines-all k d inside =
      let line = get_or (Lines f journal) k d in
      let has = subst (λ entries. Contains (Lines f entries) line) (sym (take-length journal)) (Contains-get_or (Lines f journal) k d inside) in
      let found = comes-with (Lines f) (along-grows (λ before so_far entry. lines_of f before entry)) (Lines-none f) journal (length journal) line has in
      line-of found.place found.element line found.is_at
      (subst (λ lines. Contains lines line) (added-is (Lines f) (take found.place journal) (found.element ∷ []) _ (Lines-push f (take found.place journal) found.element)) found.brought)

-- an estimate's error is within its bound, where it has one
some-mapped : {A B : Type 0} (g : A → B) (o : Option A) (b : B) → option_map g o ≡ Some b → (x : A) × (o ≡ Some x) × (g x ≡ b)
some-mapped g None b is = absurd (cc)
some-mapped g (Some x) b is = (x, refl, (let same : g x ≡ b = cc in same))

within : (time me peer : ℕ) (estimate round_trip : ℤ) (error : ℕ) (bound : Option ℕ) → ((b : ℕ) → bound ≡ Some b → error ≤ b)
    → ErrsWithin (line.Est time me peer estimate round_trip error bound)
within time me peer estimate round_trip error None each = tt
within time me peer estimate round_trip error (Some b) each = each b refl

bounded : (time me peer : ℕ) (estimate round_trip : ℤ) (error : ℕ) (bound : Option ℕ) (b : ℕ) → bound ≡ Some b → HasBound (line.Est time me peer estimate round_trip error bound)
bounded time me peer estimate round_trip error None b some = absurd (cc)
bounded time me peer estimate round_trip error (Some x) b some = tt

pub lines-within : (f : Fields) (journal : List Entry) → All (λ (e : Entry). Names f.stations e.what) journal → EstimatesAreBounded f journal → All ErrsWithin (Lines f journal)
lines-within f journal names estimates = lines-all f journal names ErrsWithin estimate (λ time me judged. tt) (λ time me change. tt)
  where
    estimate : (me peer place : ℕ) (entry : Entry) (crossing : Crossing) → ArePair f.stations me peer → IsInForce f me peer journal place entry crossing
        → ErrsWithin (est_line f me peer entry crossing)
    estimate me peer place entry crossing pair is =
        within entry.time me peer (estimate2 crossing.exchange) (round_trip crossing.exchange) (error_of me peer entry crossing.exchange) (option_map (bound_of f.drift entry.time) crossing.legs)
        (λ b some. let (legs, known, same) = some-mapped (bound_of f.drift entry.time) crossing.legs b some in
        subst (λ n. error_of me peer entry crossing.exchange ≤ n) same ((estimates me peer place entry crossing pair is).bounded legs known))

pub lines-bounded : (f : Fields) (journal : List Entry) → All (λ (e : Entry). Names f.stations e.what) journal → AllAreTraced f journal → All HasBound (Lines f journal)
lines-bounded f journal names traced = lines-all f journal names HasBound estimate (λ time me judged. tt) (λ time me change. tt)
  where
    estimate : (me peer place : ℕ) (entry : Entry) (crossing : Crossing) → ArePair f.stations me peer → IsInForce f me peer journal place entry crossing
        → HasBound (est_line f me peer entry crossing)
    estimate me peer place entry crossing pair is =
        let (legs, known) = traced me peer place entry crossing pair is in
        bounded entry.time me peer (estimate2 crossing.exchange) (round_trip crossing.exchange) (error_of me peer entry crossing.exchange) (option_map (bound_of f.drift entry.time) crossing.legs)
        (bound_of f.drift entry.time legs) (ap (option_map (bound_of f.drift entry.time)) known)
