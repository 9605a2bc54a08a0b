-- What happens while up to 256 bits come.
use Rattle.std.proofs.Common.{◌≡◌, ℕ, zero, suc, ◌+◌, ◌-◌, ◌/◌, ◌<◌, ◌≤◌, Bool, true, false, not, ◌&&◌, ◌||◌, eqb, List, [], ◌∷◌, ◌++◌, length, take, drop, Option, None, Some, refl, arith, ap, lit≤, sym, ◌∙◌, inl, inr, length-append}
use Rattle.std.specs.Prelude.{if◌then◌else◌, nat_le}
use Rattle.std.proofs.lemmas.Bool.{cases_lt}
use Rattle.std.proofs.lemmas.Bool.Decides.{nat_tests}
use Rattle.std.proofs.lemmas.List.{append-nil, append_assoc, append_cancel_left, take-take}
use Rattle.ld_base.specs.Words.{HeaderWords}
use Rattle.c3794_frame.specs.FrameOf.{header_of, word}
use Rattle.c3794_frame.specs.Numbers.{number}
use Rattle.bit_sync.specs.Frames.{Event, Place, Reading, Rules, are_both, ending, frame_judged, frames, gained, got, gots, listed, lock_from, lock_made, locks_at, is_locked, missed_after, onward, place_after, position, steps, unread, with_step}
use Rattle.bit_sync.specs.Frames.Event.{locks, ends, loses}
use Rattle.bit_sync.specs.Frames.Place.{hunts, locked}
use Rattle.bit_sync.specs.declared.told.Got.{Got}
use Rattle.bit_sync.proofs.Hunts.{gots-append}
use Rattle.bit_sync.proofs.Locks.{lock_found, locks_longer, none_locks}
use Rattle.bit_sync.proofs.Walks.{frames_done, frames_longer, frames_stay, from_map, from_test, no_more, no_step, position_after, some_or_none, step_frame, step_goes}

-- no frame ends where no frame is told
told_none : (xs : List Got) (frame : Option Got) → xs ≡ xs ++ listed frame → frame ≡ None
told_none xs None e = refl
told_none xs (Some g) e =
    let same : [] ≡ g ∷ [] = append_cancel_left xs [] (g ∷ []) (append-nil xs ∙ e) in
    absurd (cc)

-- the frame that ends is the one that is told
told_some : (xs : List Got) (g : Got) (frame : Option Got) → xs ++ g ∷ [] ≡ xs ++ listed frame → frame ≡ Some g
told_some xs g frame e = by_list frame (append_cancel_left xs (g ∷ []) (listed frame) e)
  where
    by_list : (frame : Option Got) → g ∷ [] ≡ listed frame → frame ≡ Some g
    by_list None same = absurd (cc)
    by_list (Some h) same = cc

-- without a step and without a frame nothing happens
gained_none : (place : Place) → gained place place None ≡ []
gained_none (hunts h) = refl
gained_none (locked at odd missed) = refl

-- what a reading with one step more has
one_step : (r : Rules) (line more : List ℕ) (step : Reading) → onward r (line ++ more) (frames r line).place ≡ Some step
    → onward r (line ++ more) step.place ≡ None
    → frames r (line ++ more) ≡ record { events = (frames r line).events ++ step.events; place = step.place }
unfolding steps
one_step r line more step e end =
    let after = ap (with_step (frames r line)) e in
    frames_longer 1 r line more (ap (λ (s : Reading). onward r (line ++ more) s.place) after ∙ end) ∙ after

-- with two
two_steps : (r : Rules) (line more : List ℕ) (first second : Reading) → onward r (line ++ more) (frames r line).place ≡ Some first
    → onward r (line ++ more) first.place ≡ Some second
    → onward r (line ++ more) second.place ≡ None
    → frames r (line ++ more) ≡ record { events = (frames r line).events ++ first.events ++ second.events; place = second.place }
unfolding steps
two_steps r line more first second e e' end =
    let bits : List ℕ = line ++ more in
    let one = ap (with_step (frames r line)) e in
    let two : with_step (with_step (frames r line) (onward r bits (frames r line).place)) (onward r bits (with_step (frames r line) (onward r bits (frames r line).place)).place)
    ≡ record { events = (frames r line).events ++ first.events ++ second.events; place = second.place } =
    ap (λ (s : Reading). with_step s (onward r bits s.place)) one ∙ ap (with_step (with_step (frames r line) (Some first))) e' in
    frames_longer 2 r line more (ap (λ (s : Reading). onward r bits s.place) two ∙ end) ∙ two

-- a frame that ends, by whether the lock ends with it
ending_gained : (r : Rules) (at missed : ℕ) (odd odd' : Bool) (missed' : ℕ) (g : Got)
    → ending r (at + 256) g missed ≡ gained (locked at odd' missed') (place_after r (at + 256) odd missed) (Some g)
ending_gained r at missed odd odd' missed' g = by_test (nat_le r.misses missed)
  where
    by_test : (t : Bool) → (if t then ends (at + 256) g ∷ loses (at + 256) ∷ [] else ends (at + 256) g ∷ [])
        ≡ gained (locked at odd' missed') (if t then hunts (at + 256) else locked (at + 256) (not odd) missed) (Some g)
    by_test true = refl
    by_test false = refl

-- its frame
gots-ending : (r : Rules) (at missed : ℕ) (g : Got) → gots (ending r at g missed) ≡ g ∷ []
gots-ending r at missed g = by_test (nat_le r.misses missed)
  where
    by_test : (t : Bool) → gots (if t then ends at g ∷ loses at ∷ [] else ends at g ∷ []) ≡ g ∷ []
    by_test true = refl
    by_test false = refl

-- the second word of a lock, where it isn't word B
pick : (x y z w : Bool) → ((x && y) || (z && w)) ≡ true → w ≡ false → y ≡ true
pick x true z w h e = refl
pick true false true true h e = absurd (cc)
pick true false true false h e = absurd (cc)
pick true false false w h e = absurd (cc)
pick false false true true h e = absurd (cc)
pick false false true false h e = absurd (cc)
pick false false false w h e = absurd (cc)

-- the word behind the first of a lock is the one that is expected there
expected : (words : HeaderWords) (first second : ℕ) → are_both words first second ≡ true
    → eqb second (word words (eqb second (word words true))) ≡ true
expected words first second both = by_test (eqb second (word words true)) refl
  where
    by_test : (t : Bool) → eqb second (word words true) ≡ t → eqb second (word words (eqb second (word words true))) ≡ true
    by_test true e = ap (λ o. eqb second (word words o)) e ∙ e
    by_test false e =
        ap (λ o. eqb second (word words o)) e
        ∙ pick (eqb first (word words true)) (eqb second (word words false)) (eqb first (word words false)) (eqb second (word words true)) both e

-- without a miss the lock goes on
pub unmissed : (misses : ℕ) → 1 ≤ misses → nat_le misses 0 ≡ false
unmissed misses some = grind (arith, nat_tests)

-- the first frame of a lock has its expected word
first_frame : (r : Rules) (at : ℕ) (odd : Bool) (frame : List ℕ) → 1 ≤ r.misses → eqb (header_of frame) (word r.words odd) ≡ true
    → frame_judged r at odd 0 frame ≡ record { events = ends (at + 256) (got r odd frame) ∷ []; place = locked (at + 256) (not odd) 0 }
first_frame r at odd frame misses passes =
    let none : missed_after r odd frame 0 ≡ 0 = ap (λ t. if t then 0 else 0 + 1) passes in
    let g : Got = got r odd frame in
    let judged : ℕ → Reading = λ m. record { events = ending r (at + 256) g m; place = place_after r (at + 256) odd m } in
    let by_test : Bool → Reading = λ t. record {
      events = if t
          then ends (at + 256) g ∷ loses (at + 256) ∷ []
          else ends (at + 256) g ∷ [];
      place = if t then hunts (at + 256) else locked (at + 256) (not odd) 0;
    } in
    ap judged none ∙ ap by_test (unmissed r.misses misses)

-- what is said of a longer line
Gains : Rules → List ℕ → List ℕ → Option Got → Type 0
Gains r line more frame = (frames r (line ++ more)).events ≡ (frames r line).events ++ gained (frames r line).place (frames r (line ++ more)).place frame

-- by a reading and its events
by_reading : (r : Rules) (line more : List ℕ) (frame told : Option Got) (reading : Reading) (events : List Event)
    → frames r (line ++ more) ≡ reading → reading.events ≡ (frames r line).events ++ events
    → frame ≡ told → gained (frames r line).place reading.place told ≡ events → Gains r line more frame
unfolding Gains
by_reading r line more frame told reading events is has which gains =
    let e : List Event = (frames r line).events in
    let p : Place = (frames r line).place in
    ap (λ (s : Reading). s.events) is ∙ has
    ∙ sym (ap (λ f. e ++ gained p (frames r (line ++ more)).place f) which ∙ ap (λ (s : Reading). e ++ gained p s.place told) is ∙ ap (λ g. e ++ g) gains)

-- nothing happens
stays : (r : Rules) (line more : List ℕ) (frame : Option Got)
    → gots (frames r (line ++ more)).events ≡ gots (frames r line).events ++ listed frame
    → onward r (line ++ more) (frames r line).place ≡ None
    → Gains r line more frame
stays r line more frame told none =
    let same = frames_stay r line more none in
    let which = told_none (gots (frames r line).events) frame (sym (ap (λ (s : Reading). gots s.events) same) ∙ told) in
    by_reading r line more frame None (frames r line) [] same (sym (append-nil (frames r line).events)) which (gained_none (frames r line).place)

-- a lock that is made among the new bits
late : (r : Rules) (line more : List ℕ) (h q : ℕ) → (frames r line).place ≡ hunts h → h ≤ q
    → locks_at r.words (line ++ more) q ≡ true → length line < q + 272
late r line more h q place from there =
    elim (cases_lt (length line) (q + 272)) [
      | inl new ↦ new
      | inr old ↦
          let done : onward r line (hunts h) ≡ None = rw place at (frames_done r line) in
          let no = locks_longer r.words line more q old ∙ none_locks r.words line h q (no_step r line h done) from old in
          absurd (cc)
    ]

-- only a lock is made
lock_alone : (r : Rules) (line more : List ℕ) (frame : Option Got) (h q : ℕ)
    → gots (frames r (line ++ more)).events ≡ gots (frames r line).events ++ listed frame → (frames r line).place ≡ hunts h
    → onward r (line ++ more) (frames r line).place ≡ Some (lock_made r (line ++ more) q)
    → onward r (line ++ more) (lock_made r (line ++ more) q).place ≡ None → Gains r line more frame
lock_alone r line more frame h q told place step end =
    let e : List Event = (frames r line).events in
    let reading = one_step r line more (lock_made r (line ++ more) q) step end in
    let same : gots (frames r (line ++ more)).events ≡ gots e = ap (λ (s : Reading). gots s.events) reading ∙ gots-append e (locks (q + 272) ∷ []) ∙ append-nil (gots e) in
    let which = told_none (gots e) frame (sym same ∙ told) in
    let odd : Bool = eqb (header_of (drop (q + 256) (line ++ more))) (word r.words true) in
    let at : q + 256 + 16 ≡ q + 272 = omega arith in
    let gains : gained (frames r line).place (locked (q + 256) odd 0) None ≡ locks (q + 272) ∷ [] =
    ap (λ p. gained p (locked (q + 256) odd 0) None) place ∙ ap (λ n. locks n ∷ []) at in
    by_reading r line more frame None _ (locks (q + 272) ∷ []) reading refl which gains

-- a lock is made, and its first frame ends
lock_and_frame : (r : Rules) (line more : List ℕ) (frame : Option Got) (h q : ℕ) (second : Reading) → 1 ≤ r.misses
    → length more ≤ 256
    → gots (frames r (line ++ more)).events ≡ gots (frames r line).events ++ listed frame → (frames r line).place ≡ hunts h
    → h ≤ q → locks_at r.words (line ++ more) q ≡ true
    → onward r (line ++ more) (frames r line).place ≡ Some (lock_made r (line ++ more) q)
    → onward r (line ++ more) (lock_made r (line ++ more) q).place ≡ Some second → Gains r line more frame
lock_and_frame r line more frame h q second misses few told place from there step step2 =
    let bits : List ℕ = line ++ more in
    let e : List Event = (frames r line).events in
    let header : ℕ = header_of (drop (q + 256) bits) in
    let odd : Bool = eqb header (word r.words true) in
    let fr : List ℕ = take 256 (drop (q + 256) bits) in
    let size : length bits ≡ length line + length more = length-append line more in
    let new : length line < q + 272 = late r line more h q place from there in
    let judged = from_test (nat_le (q + 256 + 256) (length bits)) (frame_judged r (q + 256) odd 0 fr) second step2 in
    let same_header : header_of fr ≡ header = ap number (take-take 16 256 (drop (q + 256) bits) (lit≤ tt)) in
    let passes : eqb (header_of fr) (word r.words odd) ≡ true = ap (λ n. eqb n (word r.words odd)) same_header ∙ expected r.words (header_of (drop q bits)) header there in
    let g : Got = got r odd fr in
    let last : Reading = record { events = ends (q + 256 + 256) g ∷ []; place = locked (q + 256 + 256) (not odd) 0 } in
    let is : second ≡ last = sym judged.1 ∙ first_frame r (q + 256) odd fr misses passes in
    let step2' : onward r bits (lock_made r bits q).place ≡ Some last = step2 ∙ ap Some is in
    let end : onward r bits last.place ≡ None = no_more r bits last.place (omega arith) in
    let reading = two_steps r line more (lock_made r bits q) last step step2' end in
    let one : gots (e ++ locks (q + 272) ∷ []) ≡ gots e = gots-append e (locks (q + 272) ∷ []) ∙ append-nil (gots e) in
    let all : gots (frames r bits).events ≡ gots e ++ g ∷ [] =
    ap (λ (s : Reading). gots s.events) reading
    ∙ gots-append (e ++ locks (q + 272) ∷ []) last.events
    ∙ ap (λ xs. xs ++ g ∷ []) one in
    let which = told_some (gots e) g frame (sym all ∙ told) in
    let at : q + 256 + 256 - 240 ≡ q + 272 = omega arith in
    let gains : gained (frames r line).place last.place (Some g) ≡ locks (q + 272) ∷ last.events =
    ap (λ p. gained p last.place (Some g)) place ∙ ap (λ n. locks n ∷ last.events) at in
    by_reading r line more frame (Some g) _ (locks (q + 272) ∷ last.events) reading (append_assoc e (locks (q + 272) ∷ []) last.events) which gains

-- the present frame hasn't come whole
present : (r : Rules) (line : List ℕ) (at missed : ℕ) (odd : Bool) → (frames r line).place ≡ locked at odd missed
    → length line < at + 256
present r line at missed odd place =
    elim (cases_lt (length line) (at + 256)) [
      | inl short ↦ short
      | inr whole ↦
          let none : onward r line (locked at odd missed) ≡ None = rw place at (frames_done r line) in
          let some = step_frame r line at missed odd whole in
          absurd (cc)
    ]

-- a frame ends
frame_alone : (r : Rules) (line more : List ℕ) (frame : Option Got) (at missed : ℕ) (odd : Bool) (step : Reading)
    → length more ≤ 256
    → gots (frames r (line ++ more)).events ≡ gots (frames r line).events ++ listed frame
    → (frames r line).place ≡ locked at odd missed
    → onward r (line ++ more) (frames r line).place ≡ Some step → Gains r line more frame
frame_alone r line more frame at missed odd step few told place e =
    let bits : List ℕ = line ++ more in
    let es : List Event = (frames r line).events in
    let fr : List ℕ = take 256 (drop at bits) in
    let g : Got = got r odd fr in
    let m : ℕ = missed_after r odd fr missed in
    let last : Reading = frame_judged r at odd missed fr in
    let size : length bits ≡ length line + length more = length-append line more in
    let short : length line < at + 256 = present r line at missed odd place in
    let e' : onward r bits (locked at odd missed) ≡ Some step = rw place at e in
    let judged = from_test (nat_le (at + 256) (length bits)) last step e' in
    let taken : onward r bits (frames r line).place ≡ Some last = e ∙ ap Some (sym judged.1) in
    let after : position last.place ≡ at + 256 = position_after r (at + 256) odd m in
    let end : onward r bits last.place ≡ None = no_more r bits last.place (omega arith) in
    let reading = one_step r line more last taken end in
    let all : gots (frames r bits).events ≡ gots es ++ g ∷ [] =
    ap (λ (s : Reading). gots s.events) reading ∙ gots-append es last.events ∙ ap (λ xs. gots es ++ xs) (gots-ending r (at + 256) m g) in
    let which = told_some (gots es) g frame (sym all ∙ told) in
    let gains : gained (frames r line).place last.place (Some g) ≡ last.events = ap (λ p. gained p last.place (Some g)) place ∙ sym (ending_gained r at m odd odd missed g) in
    by_reading r line more frame (Some g) _ last.events reading refl which gains

-- what happens while up to 256 bits come
pub gains : (r : Rules) (line more : List ℕ) (frame : Option Got) → 1 ≤ r.misses → length more ≤ 256
    → gots (frames r (line ++ more)).events ≡ gots (frames r line).events ++ listed frame
    → (frames r (line ++ more)).events ≡ (frames r line).events ++ gained (frames r line).place (frames r (line ++ more)).place frame
unfolding Gains
gains r line more frame misses few told =
    elim (some_or_none (onward r (line ++ more) (frames r line).place)) [
      | inl none ↦ stays r line more frame told none
      | inr some ↦ by_place (frames r line).place refl some.0 some.1
    ]
  where
    by_place : (p : Place) → (frames r line).place ≡ p → (step : Reading) → onward r (line ++ more) (frames r line).place ≡ Some step → Gains r line more frame
    by_place (locked at odd missed) place step e = frame_alone r line more frame at missed odd step few told place e
    by_place (hunts h) place step e =
        let e' : onward r (line ++ more) (hunts h) ≡ Some step = rw place at e in
        let made = from_map (lock_made r (line ++ more)) (lock_from r.words (line ++ more) h) step e' in
        let q : ℕ = made.0 in
        let lock = lock_found r.words (line ++ more) h q made.1 in
        let taken : onward r (line ++ more) (frames r line).place ≡ Some (lock_made r (line ++ more) q) = e ∙ ap Some (sym made.2) in
        elim (some_or_none (onward r (line ++ more) (lock_made r (line ++ more) q).place)) [
          | inl none ↦ lock_alone r line more frame h q told place taken none
          | inr second ↦ lock_and_frame r line more frame h q second.0 misses few told place lock.from lock.there taken second.1
        ]

-- any number of steps stays within the line
steps_within : (n : ℕ) (r : Rules) (bits : List ℕ) (s : Reading) → position s.place ≤ length bits
    → position (steps n r bits s).place ≤ length bits
unfolding steps
steps_within zero r bits s within = within
steps_within (suc n) r bits s within =
    elim (some_or_none (onward r bits s.place)) [
      | inl none ↦ steps_within n r bits (with_step s (onward r bits s.place)) (rw (ap (with_step s) none) within)
      | inr some ↦
          let on = step_goes r bits s.place some.0 some.1 in
          steps_within n r bits (with_step s (onward r bits s.place)) (rw (ap (with_step s) some.1) on.within)
    ]

-- where a reading stands on a line
pub places : (r : Rules) (line : List ℕ)
    → (position (frames r line).place ≤ length line) × (is_locked (frames r line).place ≡ true → length line < position (frames r line).place + 256)
unfolding frames
places r line = (steps_within (length line / 256) r line unread (omega arith), λ has. by_place (frames r line).place refl has)
  where
    by_place : (p : Place) → (frames r line).place ≡ p → is_locked (frames r line).place ≡ true → length line < position (frames r line).place + 256
    by_place (hunts h) place has = let no : is_locked (frames r line).place ≡ false = ap is_locked place in absurd (cc)
    by_place (locked at odd missed) place has = let short = present r line at missed odd place in let at' = ap position place in omega arith
