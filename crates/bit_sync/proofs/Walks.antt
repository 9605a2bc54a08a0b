-- How a reading goes on: with each step, to its end, and on a longer line.
use Rattle.std.proofs.Common.{◌≡◌, ℕ, zero, suc, ◌+◌, ◌-◌, ◌*◌, ◌/◌, ◌<◌, ◌≤◌, ◌⊎◌, Bool, true, false, not, List, [], ◌++◌, length, take, drop, Option, Some, None, refl, arith, ap, sym, ◌∙◌, inl, inr, length-append}
use Rattle.std.specs.Prelude.{if◌then◌else◌, option_map, nat_le}
use Rattle.std.proofs.lemmas.Bool.{cases_lt}
use Rattle.std.proofs.lemmas.Bool.Decides.{nat_tests}
use Rattle.std.proofs.lemmas.List.{append_assoc, append-nil, drop-append-le, length-drop, take-append-le}
use Rattle.bit_sync.specs.Frames.{Event, Place, Reading, Rules, frame_judged, frames, lock_from, lock_made, onward, place_after, position, steps, unread, with_step}
use Rattle.bit_sync.specs.Frames.Place.{hunts, locked}
use Rattle.bit_sync.proofs.Locks.{lock_found, lock_is, locks_longer, header_longer}

-- a value that is made of another
pub from_map : {A B : Type 0} (f : A → B) (o : Option A) (y : B) → option_map f o ≡ Some y → (x : A) × (o ≡ Some x) × (f x ≡ y)
from_map f None y e = absurd (cc)
from_map f (Some x) y e = (x, refl, cc)

-- an option is none or some
pub some_or_none : (o : Option Reading) → (o ≡ None) ⊎ ((step : Reading) × (o ≡ Some step))
some_or_none None = inl refl
some_or_none (Some step) = inr (step, refl)

-- a value under a test
pub from_test : {A : Type 0} (b : Bool) (x y : A) → (if b then Some x else None) ≡ Some y → (b ≡ true) × (x ≡ y)
from_test true x y e = (refl, cc)
from_test false x y e = absurd (cc)

-- a test that passes
le_test : (a b : ℕ) → a ≤ b → nat_le a b ≡ true
le_test a b h = grind (arith, nat_tests)

-- a test that doesn't
lt_test : (a b : ℕ) → b < a → nat_le a b ≡ false
lt_test a b h = grind (arith, nat_tests)

-- what a test that passed says
pub test_le : (a b : ℕ) → nat_le a b ≡ true → a ≤ b
test_le a b h = grind (arith, nat_tests)

-- a step in which a lock is made
pub step_locks : (r : Rules) (bits : List ℕ) (h p : ℕ) → lock_from r.words bits h ≡ Some p
    → onward r bits (hunts h) ≡ Some (lock_made r bits p)
step_locks r bits h p e = ap (option_map (lock_made r bits)) e

-- no step while no lock is found
pub hunts_on : (r : Rules) (bits : List ℕ) (h : ℕ) → lock_from r.words bits h ≡ None → onward r bits (hunts h) ≡ None
hunts_on r bits h e = ap (option_map (lock_made r bits)) e

-- no lock is found where no step is taken
pub no_step : (r : Rules) (bits : List ℕ) (h : ℕ) → onward r bits (hunts h) ≡ None → lock_from r.words bits h ≡ None
no_step r bits h e = unmade (lock_from r.words bits h) e
  where
    unmade : (o : Option ℕ) → option_map (lock_made r bits) o ≡ None → o ≡ None
    unmade None e = refl
    unmade (Some p) e = absurd (cc)

-- a step in which a frame ends
pub step_frame : (r : Rules) (bits : List ℕ) (at missed : ℕ) (odd : Bool) → at + 256 ≤ length bits
    → onward r bits (locked at odd missed) ≡ Some (frame_judged r at odd missed (take 256 (drop at bits)))
step_frame r bits at missed odd within = rw (le_test (at + 256) (length bits) within)

-- no step before all bits of a frame are there
pub frame_open : (r : Rules) (bits : List ℕ) (at missed : ℕ) (odd : Bool) → length bits < at + 256
    → onward r bits (locked at odd missed) ≡ None
frame_open r bits at missed odd few = rw (lt_test (at + 256) (length bits) few)

-- where a reading stands after a frame
pub position_after : (r : Rules) (at : ℕ) (odd : Bool) (missed : ℕ) → position (place_after r at odd missed) ≡ at
position_after r at odd missed = by_test (nat_le r.misses missed)
  where
    by_test : (b : Bool) → position (if b then hunts at else locked at (not odd) missed) ≡ at
    by_test true = refl
    by_test false = refl

-- each step goes on by 256 bits at least, and no further than the line
pub record GoesOn (bits : List ℕ) (old new : Place) : Type 0 where
  pub further : position old + 256 ≤ position new
  pub within : position new ≤ length bits

-- a step goes on so
pub step_goes : (r : Rules) (bits : List ℕ) (place : Place) (step : Reading) → onward r bits place ≡ Some step
    → GoesOn bits place step.place
step_goes r bits (hunts h) step e =
    let made = from_map (lock_made r bits) (lock_from r.words bits h) step e in
    let lock = lock_found r.words bits h made.0 made.1 in
    let at : position step.place ≡ made.0 + 256 = ap (λ (s : Reading). position s.place) (sym made.2) in
    record { further = omega (arith, lock.from); within = omega (arith, lock.whole) }
step_goes r bits (locked at odd missed) step e =
    let judged = from_test (nat_le (at + 256) (length bits)) _ step e in
    let end : position step.place ≡ at + 256 = ap (λ (s : Reading). position s.place) (sym judged.1) ∙ position_after r (at + 256) odd _ in
    let whole = test_le (at + 256) (length bits) judged.0 in
    record { further = omega arith; within = omega arith }

-- without 256 bits more there is no step
pub no_more : (r : Rules) (bits : List ℕ) (place : Place) → length bits < position place + 256 → onward r bits place ≡ None
no_more r bits place few = by_cases (onward r bits place) refl
  where
    by_cases : (o : Option Reading) → onward r bits place ≡ o → onward r bits place ≡ None
    by_cases None e = e
    by_cases (Some step) e = let on = step_goes r bits place step e in absurd (omega (arith, on.further, on.within))

-- the lock that is made on a line is made on a longer one
made_longer : (r : Rules) (bits more : List ℕ) (p : ℕ) → p + 272 ≤ length bits → lock_made r (bits ++ more) p ≡ lock_made r bits p
made_longer r bits more p within = rw (header_longer bits more (p + 256) (omega arith))

-- a step on a line is one on a longer line
pub step_longer : (r : Rules) (bits more : List ℕ) (place : Place) (step : Reading) → onward r bits place ≡ Some step
    → onward r (bits ++ more) place ≡ Some step
step_longer r bits more (hunts h) step e =
    let made = from_map (lock_made r bits) (lock_from r.words bits h) step e in
    let lock = lock_found r.words bits h made.0 made.1 in
    let whole : made.0 + 272 ≤ length bits = lock.whole in
    let longer = lock_is r.words (bits ++ more) h made.0 (record {
      from = lock.from;
      whole = omega (arith, length-append bits more);
      there = locks_longer r.words bits more made.0 whole ∙ lock.there;
      before = λ q from below. locks_longer r.words bits more q (omega arith) ∙ lock.before q from below;
    }) in
    step_locks r (bits ++ more) h made.0 longer ∙ ap Some (made_longer r bits more made.0 whole ∙ made.2)
step_longer r bits more (locked at odd missed) step e =
    let judged = from_test (nat_le (at + 256) (length bits)) _ step e in
    let whole = test_le (at + 256) (length bits) judged.0 in
    let room : 256 ≤ length (drop at bits) = omega (arith, length-drop at bits) in
    let same : take 256 (drop at (bits ++ more)) ≡ take 256 (drop at bits) = ap (take 256) (drop-append-le at bits more (omega arith)) ∙ take-append-le 256 (drop at bits) more room in
    step_frame r (bits ++ more) at missed odd (omega (arith, length-append bits more))
    ∙ ap Some (ap (frame_judged r at odd missed) same ∙ judged.1)

-- it stays
stays : (r : Rules) (bits : List ℕ) (s : Reading) → onward r bits s.place ≡ None → with_step s (onward r bits s.place) ≡ s
stays r bits s e = ap (with_step s) e

-- after any number of steps
stays_so : (n : ℕ) (r : Rules) (bits : List ℕ) (s : Reading) → onward r bits s.place ≡ None → steps n r bits s ≡ s
unfolding steps
stays_so zero r bits s e = refl
stays_so (suc n) r bits s e = ap (steps n r bits) (stays r bits s e) ∙ stays_so n r bits s e

-- some steps and then some more
more_steps : (n m : ℕ) (r : Rules) (bits : List ℕ) (s : Reading) → steps (n + m) r bits s ≡ steps m r bits (steps n r bits s)
unfolding steps
more_steps zero m r bits s = let e : 0 + m ≡ m = omega arith in ap (λ k. steps k r bits s) e
more_steps (suc n) m r bits s =
    let e : suc n + m ≡ suc (n + m) = omega arith in
    ap (λ k. steps k r bits s) e ∙ more_steps n m r bits (with_step s (onward r bits s.place))

-- enough steps come to the end
enough : (n : ℕ) (r : Rules) (bits : List ℕ) (s : Reading) → length bits < position s.place + 256 * (n + 1)
    → onward r bits (steps n r bits s).place ≡ None
unfolding steps
enough zero r bits s few = no_more r bits s.place (omega arith)
enough (suc n) r bits s few =
    elim (some_or_none (onward r bits s.place)) [
      | inl none ↦ ap (λ (t : Reading). onward r bits t.place) (ap (steps n r bits) (stays r bits s none) ∙ stays_so n r bits s none) ∙ none
      | inr some ↦
          let on = step_goes r bits s.place some.0 some.1 in
          let less : length bits < position (with_step s (Some some.0)).place + 256 * (n + 1) = omega (arith, on.further) in
          ap (λ (t : Reading). onward r bits (steps n r bits t).place) (ap (with_step s) some.1)
          ∙ enough n r bits (with_step s (Some some.0)) less
    ]

-- two numbers of steps that come to the end come to the same
same_end : (n m : ℕ) (r : Rules) (bits : List ℕ) (s : Reading) → onward r bits (steps n r bits s).place ≡ None
    → onward r bits (steps m r bits s).place ≡ None → steps n r bits s ≡ steps m r bits s
same_end n m r bits s end_n end_m =
    elim (cases_lt n m) [
      | inl less ↦ let e : n + (m - n) ≡ m = omega arith in sym (stays_so (m - n) r bits (steps n r bits s) end_n) ∙ sym (more_steps n (m - n) r bits s) ∙ ap (λ k. steps k r bits s) e
      | inr more ↦ let e : m + (n - m) ≡ n = omega arith in sym (sym (stays_so (n - m) r bits (steps m r bits s) end_m) ∙ sym (more_steps m (n - m) r bits s) ∙ ap (λ k. steps k r bits s) e)
    ]

-- the reading of a line comes to its end
pub frames_done : (r : Rules) (bits : List ℕ) → onward r bits (frames r bits).place ≡ None
unfolding frames
frames_done r bits = enough (length bits / 256) r bits unread (omega arith)

-- the steps on a line are steps on a longer one
steps_longer : (n : ℕ) (r : Rules) (bits more : List ℕ) (s : Reading) → (m : ℕ) × (steps n r bits s ≡ steps m r (bits ++ more) s)
unfolding steps
steps_longer zero r bits more s = (0, refl)
steps_longer (suc n) r bits more s =
    elim (some_or_none (onward r bits s.place)) [
      | inl none ↦ (0, ap (steps n r bits) (stays r bits s none) ∙ stays_so n r bits s none)
      | inr some ↦
          let rest = steps_longer n r bits more (with_step s (Some some.0)) in
          let longer = ap (with_step s) (step_longer r bits more s.place some.0 some.1) in
          (suc rest.0, ap (steps n r bits) (ap (with_step s) some.1) ∙ rest.1 ∙ sym (ap (steps rest.0 r (bits ++ more)) longer))
    ]

-- the reading of a longer line is that of the shorter one, and some steps more
pub frames_longer : (k : ℕ) (r : Rules) (bits more : List ℕ)
    → onward r (bits ++ more) (steps k r (bits ++ more) (frames r bits)).place ≡ None
    → frames r (bits ++ more) ≡ steps k r (bits ++ more) (frames r bits)
unfolding frames
frames_longer k r bits more end =
    let done : onward r (bits ++ more) (steps (length (bits ++ more) / 256) r (bits ++ more) unread).place ≡ None = enough (length (bits ++ more) / 256) r (bits ++ more) unread (omega arith) in
    let longer = steps_longer (length bits / 256) r bits more unread in
    let all : steps (longer.0 + k) r (bits ++ more) unread ≡ steps k r (bits ++ more) (steps (length bits / 256) r bits unread) =
    more_steps longer.0 k r (bits ++ more) unread ∙ ap (steps k r (bits ++ more)) (sym longer.1) in
    let end' : onward r (bits ++ more) (steps (longer.0 + k) r (bits ++ more) unread).place ≡ None = ap (λ (s : Reading). onward r (bits ++ more) s.place) all ∙ end in
    same_end (length (bits ++ more) / 256) (longer.0 + k) r (bits ++ more) unread done end' ∙ all

-- with more bits the reading stays where no step is taken
pub frames_stay : (r : Rules) (bits more : List ℕ) → onward r (bits ++ more) (frames r bits).place ≡ None
    → frames r (bits ++ more) ≡ frames r bits
unfolding steps
frames_stay r bits more none = frames_longer 0 r bits more none

-- with more bits the reading takes one step where no second one is taken
pub frames_step : (r : Rules) (bits more : List ℕ) (step : Reading) → onward r (bits ++ more) (frames r bits).place ≡ Some step
    → length (bits ++ more) < position step.place + 256
    → frames r (bits ++ more) ≡ record { events = (frames r bits).events ++ step.events; place = step.place }
unfolding steps
frames_step r bits more step e few =
    let after : with_step (frames r bits) (onward r (bits ++ more) (frames r bits).place)
    ≡ record { events = (frames r bits).events ++ step.events; place = step.place } =
    ap (with_step (frames r bits)) e in
    let end = no_more r (bits ++ more) step.place few in
    let done : onward r (bits ++ more) (with_step (frames r bits) (onward r (bits ++ more) (frames r bits).place)).place ≡ None =
    ap (λ (s : Reading). onward r (bits ++ more) s.place) after ∙ end in
    frames_longer 1 r bits more done ∙ after

-- the events of some steps begin with those before
events_first : (n : ℕ) (r : Rules) (bits : List ℕ) (s : Reading)
    → (later : List Event) × ((steps n r bits s).events ≡ s.events ++ later)
unfolding steps
events_first zero r bits s = ([], sym (append-nil s.events))
events_first (suc n) r bits s =
    elim (some_or_none (onward r bits s.place)) [
      | inl none ↦ ([], ap (λ (t : Reading). t.events) (ap (steps n r bits) (stays r bits s none) ∙ stays_so n r bits s none) ∙ sym (append-nil s.events))
      | inr some ↦
          let step : Reading = some.0 in
          let rest = events_first n r bits (with_step s (Some step)) in
          (step.events ++ rest.0, ap (λ (t : Reading). (steps n r bits t).events) (ap (with_step s) some.1) ∙ rest.1 ∙ append_assoc s.events step.events rest.0)
    ]

-- a longer line has what was read of the shorter one first
pub longer_first : (r : Rules) (bits more : List ℕ)
    → (later : List Event) × ((frames r (bits ++ more)).events ≡ (frames r bits).events ++ later)
longer_first r bits more =
    let n : ℕ = length (bits ++ more) / 256 in
    let end = enough n r (bits ++ more) (frames r bits) (omega arith) in
    let first = events_first n r (bits ++ more) (frames r bits) in
    (first.0, ap (λ (t : Reading). t.events) (frames_longer n r bits more end) ∙ first.1)
