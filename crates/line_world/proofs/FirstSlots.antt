-- Before its first slot a station has taken no sample, so no message begins in that slot.
use Rattle.std.proofs.Common.{◌≡◌, ◌≢◌, ◌⊎◌, ℕ, zero, suc, ◌≤◌, inl, inr, Bool, true, false, cond, List, [], ◌∷◌, ◌++◌, map, Some, arith, refl, ap, sym, subst, ◌∙◌}
use Rattle.std.specs.Prelude.{◌==◌, ◌-◌, nat_le, All, filter, slice_get}
use Rattle.std.specs.List.{flat_map}
use Rattle.std.specs.Option.{ForSome}
use Rattle.std.proofs.lemmas.Bool.{cases_eq, le-leb, le-ltb}
use Rattle.std.proofs.lemmas.Bool.Decides.{nat_tests}
use Rattle.std.proofs.lemmas.List.Concat.{flat_map-append}
use Rattle.std.proofs.lemmas.List.Elements.{All-append, All-cons, All-nil}
use Rattle.ld_base.specs.declared.fields.Fields.{Fields}
use Rattle.ld_base.specs.declared.phases.Phases.{Phases}
use Rattle.pingpong.specs.declared.journal.Entry.{Entry}
use Rattle.pingpong.specs.declared.journal.What.{What}
use Rattle.pingpong.specs.declared.journal.What.TheVariants.{Came, SendFailed, Slot, TakeFailed, Took}
use Rattle.relay_core.specs.declared.call.Call.{Call}
use Rattle.relay_core.specs.declared.call.Call.TheVariants as made
use Rattle.relay_core.specs.Sent.{Slots}
use Rattle.waveform_reader.specs.Scenario.{Setup}
use Rattle.waveform_reader.specs.Sound.{IsStation}
use Rattle.line_world.specs.Journals.{AreFirst}
use Rattle.line_world.specs.Occasions.{Moment, Occasion, arrivals, at_tick, moments, moments_at, samplings, slot_of, slots}
use Rattle.line_world.specs.Occasions.Occasion.{arrival, departure, sampling, slot}
use Rattle.relay_core.specs.StationLog.{StationLog, calls_by, calls_of, stamp_at}
use Rattle.line_world.specs.World.{Event, Leads, Outcome, entries_of, entry_of, frames_at, happens, journal_with, number_of, slot_with}
use Rattle.line_world.specs.World.Outcome.{fails, gives, nothing}
use Rattle.line_world.proofs.Quiets.{StartsIdle, StartsIdle-first, StartsIdle-more, StartsIdle-slot, IsIdle, IsQuiet, first-idle}

-- up to the first slot of a station, which comes, all moments are those of tick 0
abbrev Opens : ℕ → List Moment → Type 0
Opens me [] = ⊥
Opens me (m ∷ ms) = (m.time ≡ 0) × (m.occasion ≢ slot me → Opens me ms)

Opens-more : (me : ℕ) (xs ys : List Moment) → Opens me xs → Opens me (xs ++ ys)
Opens-more me [] ys opens = absurd opens
Opens-more me (m ∷ xs) ys opens = (opens.0, λ other. Opens-more me xs ys (opens.1 other))

Opens-behind : (me : ℕ) (these others : List Occasion) → Opens me (at_tick 0 others) → Opens me (at_tick 0 (these ++ others))
Opens-behind me [] others opens = opens
Opens-behind me (o ∷ these) others opens = (refl, λ other. Opens-behind me these others opens)

-- the slot of a station that is there is one of tick 0
Opens-slots : (f : Fields) (me : ℕ) (p : ℕ → Bool) (some : List ℕ) (k : ℕ) → slice_get some k ≡ Some me → p me ≡ true
    → Opens me (at_tick 0 (flat_map (slot_of f) (filter p some)))
Opens-slots f me p [] k is passes = absurd (cc)
Opens-slots f me p (station ∷ some) k is passes = go (p station) refl k is (λ k is. Opens-slots f me p some k is passes)
  where
    go : (b : Bool) → p station ≡ b → (k : ℕ) → slice_get (station ∷ some) k ≡ Some me
        → ((k : ℕ) → slice_get some k ≡ Some me → Opens me (at_tick 0 (flat_map (slot_of f) (filter p some))))
        → Opens me (at_tick 0 (flat_map (slot_of f) (cond b (station ∷ filter p some) (filter p some))))
    go true test zero is rest = let same : station ≡ me = cc in (refl, λ other. absurd (other (ap slot same)))
    go true test (suc k) is rest = Opens-behind me (slot_of f station) (flat_map (slot_of f) (filter p some)) (rest k is)
    go false test zero is rest = let same : station ≡ me = cc in absurd (cc (ap p same))
    go false test (suc k) is rest = rest k is

-- the place of one of the three
place_among : (me : ℕ) → 1 ≤ me → me ≤ 3 → slice_get (1 ∷ 2 ∷ 3 ∷ []) (me - 1) ≡ Some me
place_among zero low high = absurd (omega (arith, low))
place_among (suc zero) low high = refl
place_among (suc (suc zero)) low high = refl
place_among (suc (suc (suc zero))) low high = refl
place_among (suc (suc (suc (suc n)))) low high = absurd (omega (arith, high))

-- so open the moments of a scenario
Opens-moments : (f : Fields) (me n : ℕ) → IsStation f.stations me → f.stations ≤ 3 → 1 ≤ n → Opens me (moments f n)
unfolding moments
Opens-moments f me zero is few some = absurd (omega (arith, some))
Opens-moments f me (suc zero) is few some =
    Opens-behind me (arrivals f ++ samplings f) (slots f 0)
    (Opens-slots f me (λ station. nat_le station f.stations) (1 ∷ 2 ∷ 3 ∷ []) (me - 1) (place_among me is.0 (omega (arith, is.1, few))) (le-leb me f.stations is.1))
Opens-moments f me (suc (suc n)) is few some = Opens-more me (moments f (suc n)) (moments_at f (suc n)) (Opens-moments f me (suc n) is few (omega arith))

-- none or one call
if_quiet : (b : Bool) (call : Call) → IsQuiet call → All IsQuiet (cond b (call ∷ []) [])
if_quiet true call quiet = All-cons IsQuiet call [] quiet (All-nil IsQuiet)
if_quiet false call quiet = All-nil IsQuiet

-- what happens at tick 0 hands in no sample
calls-quiet : (me at : ℕ) (what : What) → ((station : ℕ) (values : Phases) → what ≡ Took station values → ⊥) → All IsQuiet (calls_of me at what)
calls-quiet me at (Took station values) other = absurd (other station values refl)
calls-quiet me at (Slot station first second) other = if_quiet (station == me) (made.Slot at) tt
calls-quiet me at (Came station peer bits) other = if_quiet (station == me) (made.Bits at peer bits) tt
calls-quiet me at (SendFailed station peer) other = if_quiet (station == me) (made.Fault at peer) tt
calls-quiet me at (TakeFailed station peer) other = if_quiet (station == me) (made.Fault at peer) tt

module _ (s : Setup) (me : ℕ) where
  one-quiet : (what : What) → ((station : ℕ) (values : Phases) → what ≡ Took station values → ⊥) → All IsQuiet (StationLog me (entry_of s 0 what ∷ []))
  one-quiet what other = All-append IsQuiet (calls_by me (entry_of s 0 what)) [] (calls-quiet me (stamp_at me (entry_of s 0 what)) what other) (All-nil IsQuiet)

  happens-quiet : (before : List Entry) (o : Occasion) (outcome : Outcome) → All IsQuiet (StationLog me (map (entry_of s 0) (happens s before 0 o outcome)))
  happens-quiet before (arrival receiver sender) nothing = All-nil IsQuiet
  happens-quiet before (arrival receiver sender) (gives bits) = one-quiet (Came receiver sender bits) (λ station values is. absurd (cc))
  happens-quiet before (arrival receiver sender) fails = one-quiet (TakeFailed receiver sender) (λ station values is. absurd (cc))
  happens-quiet before (sampling station) outcome = rw (le-ltb (number_of s station 0) (number_of s station 0) (omega arith)) (All-nil IsQuiet)
  happens-quiet before (slot station) outcome = one-quiet (slot_with station (frames_at s before 0 station)) (λ station values is. absurd (cc))
  happens-quiet before (departure sender receiver) nothing = All-nil IsQuiet
  happens-quiet before (departure sender receiver) (gives bits) = All-nil IsQuiet
  happens-quiet before (departure sender receiver) fails = one-quiet (SendFailed sender receiver) (λ station values is. absurd (cc))

  entries-quiet : (before : List Entry) (event : Event) → event.moment.time ≡ 0 → All IsQuiet (StationLog me (entries_of s before event))
  entries-quiet before event now =
      subst (λ (time : ℕ). All IsQuiet (StationLog me (map (entry_of s time) (happens s before time event.moment.occasion event.outcome)))) (sym now)
      (happens-quiet before event.moment.occasion event.outcome)

  -- and a station's slot is a call to send
  slot-log : (before : List Entry) (time : ℕ) (o : Occasion) (outcome : Outcome) → o ≡ slot me
      → (at : ℕ) × (StationLog me (map (entry_of s time) (happens s before time o outcome)) ≡ made.Slot at ∷ [])
  slot-log before time o outcome is = subst IsSlot (sym is) (stamp_at me (entry_of s time (slot_with me (frames_at s before time me))), itself)
    where
      IsSlot : Occasion → Type 0
      IsSlot o = (at : ℕ) × (StationLog me (map (entry_of s time) (happens s before time o outcome)) ≡ made.Slot at ∷ [])

      itself : StationLog me (map (entry_of s time) (happens s before time (slot me) outcome)) ≡ made.Slot (stamp_at me (entry_of s time (slot_with me (frames_at s before time me)))) ∷ []
      itself = let same : (me == me) ≡ true = grind (arith, nat_tests) in rw same refl

-- an occasion is a station's slot, or it isn't
is_slot : (o : Occasion) (me : ℕ) → (o ≡ slot me) ⊎ (o ≢ slot me)
is_slot (arrival receiver sender) me = inr (λ is. absurd (cc))
is_slot (sampling station) me = inr (λ is. absurd (cc))
is_slot (slot station) me = elim (cases_eq station me) [ inl same ↦ inl (ap slot same) | inr differ ↦ inr (λ is. differ (cc)) ]
is_slot (departure sender receiver) me = inr (λ is. absurd (cc))

module _ (s : Setup) (me peer : ℕ) where
  abbrev Starts : List Entry → Type 0
  Starts journal = StartsIdle s.settings me peer (StationLog me journal)

  -- events behind the first slot leave it
  Starts-events : (journal : List Entry) (events : List Event) → Starts journal → Starts (journal_with s journal events)
  Starts-events journal [] starts = starts
  Starts-events journal (event ∷ events) starts =
      Starts-events (journal ++ entries_of s journal event) events
      (subst (StartsIdle s.settings me peer) (sym (flat_map-append (calls_by me) journal (entries_of s journal event)))
      (StartsIdle-more s.settings me peer (StationLog me journal) (StationLog me (entries_of s journal event)) starts))

  abbrev IsIdleFirst : List Entry → Type 0
  IsIdleFirst journal = ForSome (slice_get (Slots s.settings me peer (StationLog me journal)) 0) IsIdle

  -- events that open with those of tick 0
  events-idle : (journal : List Entry) (events : List Event) (left : List Moment) → All IsQuiet (StationLog me journal) → Opens me (map (λ event. event.moment) events ++ left)
      → IsIdleFirst (journal_with s journal events)
  events-idle journal [] left quiet opens = first-idle s.settings me peer (StationLog me journal) quiet
  events-idle journal (event ∷ events) left quiet opens =
      let new = entries_of s journal event in
      let more = flat_map-append (calls_by me) journal new in
      elim (is_slot event.moment.occasion me) [
        | inl is ↦
            let log = slot-log s me journal event.moment.time event.moment.occasion event.outcome is in
            let begins = StartsIdle-slot s.settings me peer (StationLog me journal) log.0 quiet in
            StartsIdle-first s.settings me peer (StationLog me (journal_with s (journal ++ new) events))
            (Starts-events (journal ++ new) events
            (subst (StartsIdle s.settings me peer) (sym (more ∙ ap (λ (calls : List Call). StationLog me journal ++ calls) log.1)) begins))
        | inr other ↦
            events-idle (journal ++ new) events left
            (subst (All IsQuiet) (sym more) (All-append IsQuiet (StationLog me journal) (StationLog me new) quiet (entries-quiet s me journal event opens.0)))
            (opens.1 other)
      ]

  pub world-idle : (these : List Moment) (journal : List Entry) → IsStation s.settings.stations me → s.settings.stations ≤ 3 → 1 ≤ s.end → AreFirst s these → Leads s these [] journal
      → IsIdleFirst journal
  world-idle these journal is few some first leads =
      let opens = subst (Opens me) (sym first.are) (Opens-moments s.settings me s.end is few some) in
      subst IsIdleFirst (sym leads.journal)
      (events-idle [] leads.events first.left (All-nil IsQuiet) (subst (λ (ms : List Moment). Opens me (ms ++ first.left)) (sym leads.moments) opens))
