-- The times of entries are those of the moments that lead to them.
use Rattle.std.proofs.Common.{◌≡◌, ℕ, zero, suc, ◌<◌, ◌≤◌, List, [], ◌∷◌, ◌++◌, map, arith, refl, sym, subst}
use Rattle.std.specs.Prelude.{All}
use Rattle.std.proofs.lemmas.List.Elements.{All-append, All-cons, All-head, All-nil, All-tail, All-weaker}
use Rattle.ld_base.specs.declared.fields.Fields.{Fields}
use Rattle.pingpong.specs.declared.journal.Entry.{Entry}
use Rattle.pingpong.specs.declared.journal.What.{What}
use Rattle.waveform_reader.specs.Scenario.{Setup}
use Rattle.line_world.specs.Occasions.{Moment, Occasion, at_tick, moments, moments_at, occasions}
use Rattle.line_world.specs.World.{Event, Leads, entries_of, entry_of, happens, journal_with}
use Rattle.line_world.proofs.Idle.{moments_more, moments_none}

module _ (P : ℕ → Type 0) where
  abbrev At : Entry → Type 0
  At entry = P entry.time

  abbrev Then : Moment → Type 0
  Then moment = P moment.time

  timed : (s : Setup) (time : ℕ) (whats : List What) → P time → All At (map (entry_of s time) whats)
  timed s time [] is = All-nil At
  timed s time (what ∷ whats) is = All-cons At (entry_of s time what) (map (entry_of s time) whats) is (timed s time whats is)

  events_timed : (s : Setup) (journal : List Entry) (events : List Event) → All Then (map (λ event. event.moment) events) → All At journal
      → All At (journal_with s journal events)
  events_timed s journal [] all so_far = so_far
  events_timed s journal (event ∷ events) all so_far =
      events_timed s (journal ++ entries_of s journal event) events
      (All-tail Then event.moment (map (λ event. event.moment) events) all)
      (All-append At journal (entries_of s journal event) so_far
      (timed s event.moment.time (happens s journal event.moment.time event.moment.occasion event.outcome)
      (All-head Then event.moment (map (λ event. event.moment) events) all)))

  -- what holds of the times of moments and of the entries before holds of those that they lead to
  led_timed : (s : Setup) (these : List Moment) (old new : List Entry) → All Then these → All At old → Leads s these old new → All At new
  led_timed s these old new all so_far leads =
      subst (λ (journal : List Entry). All At journal) (sym leads.journal)
      (events_timed s old leads.events (subst (λ (ms : List Moment). All Then ms) (sym leads.moments) all) so_far)

  at_once : (tick : ℕ) (these : List Occasion) → P tick → All Then (at_tick tick these)
  at_once tick [] is = All-nil Then
  at_once tick (o ∷ these) is = All-cons Then (record { time = tick; occasion = o }) (at_tick tick these) is (at_once tick these is)

-- the moments of the ticks below one come before it
moments_before : (f : Fields) (n : ℕ) → All (λ (m : Moment). m.time < n) (moments f n)
moments_before f zero = subst (λ (ms : List Moment). All (λ (m : Moment). m.time < zero) ms) (sym (moments_none f)) (All-nil (λ (m : Moment). m.time < zero))
moments_before f (suc n) =
    subst (λ (ms : List Moment). All (λ (m : Moment). m.time < suc n) ms) (sym (moments_more f n))
    (All-append (λ (m : Moment). m.time < suc n) (moments f n) (moments_at f n)
    (All-weaker (λ (m : Moment). m.time < n) (λ (m : Moment). m.time < suc n) (λ m h. omega arith) (moments f n) (moments_before f n))
    (at_once (λ t. t < suc n) n (occasions f n) (omega arith)))

-- and so do the entries that they lead to
pub times_before : (s : Setup) (n : ℕ) (journal : List Entry) → Leads s (moments s.settings n) [] journal → All (λ entry. entry.time < n) journal
times_before s n journal leads =
    led_timed (λ t. t < n) s (moments s.settings n) [] journal (moments_before s.settings n) (All-nil (λ (entry : Entry). entry.time < n)) leads

-- a tick adds entries of its own alone
pub times_skipped : (s : Setup) (next tick : ℕ) (old new : List Entry) → All (λ entry. entry.time < next) old → Leads s (moments_at s.settings tick) old new
    → All (λ entry. next ≤ entry.time → entry.time ≡ tick) new
times_skipped s next tick old new before leads =
    led_timed (λ t. next ≤ t → t ≡ tick) s (moments_at s.settings tick) old new (at_once (λ t. next ≤ t → t ≡ tick) tick (occasions s.settings tick) (λ h. refl))
    (All-weaker (λ (entry : Entry). entry.time < next) (λ (entry : Entry). next ≤ entry.time → entry.time ≡ tick) (λ entry h late. absurd (omega (arith, h, late))) old before) leads
