-- Some bits more while a receiver has a lock.
use Rattle.std.proofs.Common.{◌≡◌, ℕ, ◌+◌, ◌-◌, ◌*◌, ◌%◌, ◌^◌, ◌<◌, ◌≤◌, ◌⊎◌, Bool, true, false, not, List, [], ◌∷◌, ◌++◌, length, take, drop, Option, Some, None, refl, arith, ap, sym, ◌∙◌, inl, inr, length-append}
use Rattle.std.specs.Prelude.{if◌then◌else◌, nat_le}
use Rattle.std.proofs.lemmas.List.{append-nil, drop_all, length-drop, take_all}
use Rattle.std.proofs.lemmas.Nat.{mod-mul-add}
use Rattle.c3794_frame.specs.Numbers.{AreBits, number}
use Rattle.c3794_frame.proofs.Numbers.{are_append, are_drop, number-lt, same_number}
use Rattle.bit_sync.specs.Frames.{Event, Place, Reading, Rules, ending, frame_judged, frames, got, gots, missed_after, onward, place_after, position}
use Rattle.bit_sync.specs.Frames.Event.{ends, loses}
use Rattle.bit_sync.specs.Frames.Place.{hunts, locked}
use Rattle.bit_sync.specs.StandsFor.{Keeps, StandsFor}
use Rattle.bit_sync.specs.Step.{Takes, kept, lock_after}
use Rattle.bit_sync.specs.declared.lock.Lock.{Lock}
use Rattle.bit_sync.specs.declared.told.Got.{Got}
use Rattle.bit_sync.proofs.Hunts.{gots-append, mod-mod, number_more, same_pushed}
use Rattle.bit_sync.proofs.Walks.{frame_open, frames_stay, frames_step, position_after, step_frame}

-- a number below a power is its rest
mod_small : (n k : ℕ) → n < 2 ^ k → n % 2 ^ k ≡ n
mod_small n k small = ap (λ x. x % 2 ^ k) (omega arith) ∙ mod-mul-add 0 (2 ^ k) n small

-- where a reading with a lock stands
pub record Locked (r : Rules) (lock : Lock) (register : ℕ) (line : List ℕ) (at : ℕ) : Type 0 where
  pub line_bits : AreBits line
  pub place : (frames r line).place ≡ locked at lock.odd lock.missed
  pub end : at + lock.held ≡ length line
  pub register_is : register % 2 ^ lock.held ≡ number (drop at line) % 2 ^ lock.held

-- by the place
lock_place : (lock : Lock) (register : ℕ) (line : List ℕ) (place : Place) → Keeps (Some lock) register line place
    → (at : ℕ) × (place ≡ locked at lock.odd lock.missed) × (at + lock.held ≡ length line) × (register % 2 ^ lock.held ≡ number (drop at line) % 2 ^ lock.held)
lock_place lock register line (hunts h) keeps = absurd keeps
lock_place lock register line (locked at odd missed) keeps = (at, rw (keeps.0, keeps.1), keeps.2, keeps.3)

-- what stands for a line with a lock has its place
pub locked_from : (r : Rules) (lock : Lock) (register : ℕ) (line : List ℕ) → StandsFor (kept r (Some lock) register) line
    → (at : ℕ) × Locked r lock register line at
locked_from r lock register line stands =
    let at = lock_place lock register line (frames r line).place stands.keeps in
    (at.0, record { line_bits = stands.bits; place = at.1; end = at.2; register_is = at.3 })

-- the bits of the present frame with some more, in the register
pub held_more : (r : Rules) (lock : Lock) (register : ℕ) (line group : List ℕ) (at n v : ℕ) → Locked r lock register line at
    → length group ≡ n → number group ≡ v → lock.held + n ≤ 272
    → (register * 2 ^ n + v) % 2 ^ 272 % 2 ^ (lock.held + n) ≡ number (drop at (line ++ group)) % 2 ^ (lock.held + n)
held_more r lock register line group at n v locks_so long made few =
    let h : ℕ = lock.held in
    let within : at ≤ length line = omega (arith, locks_so.end) in
    mod-mod (register * 2 ^ n + v) 272 (h + n) few ∙ sym (same_pushed register h n v)
    ∙ ap (λ x. (x * 2 ^ n + v) % 2 ^ (h + n)) locks_so.register_is ∙ same_pushed (number (drop at line)) h n v
    ∙ ap (λ x. x % 2 ^ (h + n)) (sym (number_more line group at n v within long made))

-- the frame goes on
pub held_on : (r : Rules) (lock : Lock) (register new held n v : ℕ) (line group : List ℕ)
    → StandsFor (kept r (Some lock) register) line → AreBits group → length group ≡ n → number group ≡ v → held ≡ lock.held + n
    → held < 256
    → new ≡ (register * 2 ^ n + v) % 2 ^ 272
    → Takes (kept r (Some (record { odd = lock.odd; missed = lock.missed; held = held })) new) line group None
held_on r lock register new held n v line group stands are long made count few pushed =
    let from = locked_from r lock register line stands in
    let at : ℕ = from.0 in
    let size : length (line ++ group) ≡ length line + n = length-append line group ∙ ap (λ m. length line + m) long in
    let end : at + lock.held ≡ length line = from.1.end in
    let none : onward r (line ++ group) (frames r line).place ≡ None = rw from.1.place (frame_open r (line ++ group) at lock.missed lock.odd (omega arith)) in
    let same = frames_stay r line group none in
    let place : (frames r (line ++ group)).place ≡ locked at lock.odd lock.missed = ap (λ (s : Reading). s.place) same ∙ from.1.place in
    let more = held_more r lock register line group at n v from.1 long made (omega arith) in
    record {
      stands = record {
        bits = are_append line group stands.bits are;
        keeps = rw (place, pushed, count) (refl, refl, omega arith, more);
      };
      told = ap (λ (s : Reading). gots s.events) same ∙ sym (append-nil (gots (frames r line).events));
      later = rw same (omega arith);
      whole = λ e. absurd (cc);
      past = λ e. absurd (cc);
    }

-- the reading where a frame ends
frame_ends : (r : Rules) (lock : Lock) (register : ℕ) (line group frame : List ℕ) (at : ℕ) → Locked r lock register line at
    → lock.held + length group ≡ 256 → drop at (line ++ group) ≡ frame
    → (frames r (line ++ group) ≡ record {
      events = (frames r line).events ++ ending r (at + 256) (got r lock.odd frame) (missed_after r lock.odd frame lock.missed);
      place = place_after r (at + 256) lock.odd (missed_after r lock.odd frame lock.missed);
    })
frame_ends r lock register line group frame at locks_so full is =
    let end : at + lock.held ≡ length line = locks_so.end in
    let size : length (line ++ group) ≡ at + 256 = length-append line group ∙ (omega arith) in
    let long : length (drop at (line ++ group)) ≡ 256 = length-drop at (line ++ group) ∙ (omega arith) in
    let whole : take 256 (drop at (line ++ group)) ≡ frame = take_all 256 (drop at (line ++ group)) (omega arith) ∙ is in
    let missed : ℕ = missed_after r lock.odd frame lock.missed in
    let step : onward r (line ++ group) (frames r line).place ≡ Some (frame_judged r at lock.odd lock.missed frame) =
    rw locks_so.place (step_frame r (line ++ group) at lock.missed lock.odd (omega arith) ∙ ap (λ t. Some (frame_judged r at lock.odd lock.missed t)) whole) in
    let after : position (frame_judged r at lock.odd lock.missed frame).place ≡ at + 256 = position_after r (at + 256) lock.odd missed in
    frames_step r line group (frame_judged r at lock.odd lock.missed frame) step (omega arith)

-- where a frame ends: it began at a bit within a frame's length of the line's end, and the longer line ends with it
record FrameEnd (r : Rules) (lock : Lock) (line group frame : List ℕ) (at : ℕ) : Type 0 where
  bits : AreBits (line ++ group)
  short : length line < at + 256
  end : length (line ++ group) ≡ at + 256
  rest : drop (at + 256) (line ++ group) ≡ []
  before : position (frames r line).place ≡ at
  reading : frames r (line ++ group) ≡ record {
    events = (frames r line).events ++ ending r (at + 256) (got r lock.odd frame) (missed_after r lock.odd frame lock.missed);
    place = place_after r (at + 256) lock.odd (missed_after r lock.odd frame lock.missed);
  }

-- by what stands for the line
frame_end : (r : Rules) (lock : Lock) (register : ℕ) (line group frame : List ℕ)
    → StandsFor (kept r (Some lock) register) line → AreBits group → lock.held + length group ≡ 256 → 0 < length group
    → drop (length line - lock.held) (line ++ group) ≡ frame → (at : ℕ) × FrameEnd r lock line group frame at
frame_end r lock register line group frame stands are full some is =
    let from = locked_from r lock register line stands in
    let at : ℕ = from.0 in
    let end : at + lock.held ≡ length line = from.1.end in
    let begin : length line - lock.held ≡ at = omega arith in
    let is' : drop at (line ++ group) ≡ frame = rw begin at is in
    let size : length (line ++ group) ≡ at + 256 = length-append line group ∙ (omega arith) in (
      at,
      record {
        bits = are_append line group stands.bits are;
        short = omega arith;
        end = size;
        rest = drop_all (at + 256) (line ++ group) (omega arith);
        before = ap position from.1.place;
        reading = frame_ends r lock register line group frame at from.1 full is';
      },
    )

-- what is taken in with a frame, by where the reading stands then
taken_frame : (r : Rules) (lock : Lock) (line group frame : List ℕ) (at : ℕ) (after : Option Lock) (register : ℕ) (place : Place) (events : List Event)
    → FrameEnd r lock line group frame at
    → place_after r (at + 256) lock.odd (missed_after r lock.odd frame lock.missed) ≡ place
    → ending r (at + 256) (got r lock.odd frame) (missed_after r lock.odd frame lock.missed) ≡ events
    → gots events ≡ got r lock.odd frame ∷ [] → position place ≡ at + 256
    → Keeps after register (line ++ group) place → Takes (kept r after register) line group (Some (got r lock.odd frame))
taken_frame r lock line group frame at after register place events h stood came told there keeps =
    let e : List Event = (frames r line).events in
    let place' : (frames r (line ++ group)).place ≡ place = ap (λ (s : Reading). s.place) h.reading ∙ stood in
    let position' : position (frames r (line ++ group)).place ≡ at + 256 = ap position place' ∙ there in
    let short = h.short in
    let end = h.end in
    let before = h.before in
    record {
      stands = record { bits = h.bits; keeps = rw place' keeps };
      told = ap (λ (s : Reading). gots s.events) h.reading ∙ gots-append e _ ∙ ap (λ es. gots e ++ gots es) came
          ∙ ap (λ gs. gots e ++ gs) told;
      later = omega arith;
      whole = λ some. omega arith;
      past = λ some. omega arith;
    }

-- a frame ends, and the lock with it
pub frame_lost : (r : Rules) (lock : Lock) (register : ℕ) (line group frame : List ℕ)
    → StandsFor (kept r (Some lock) register) line → AreBits group → lock.held + length group ≡ 256 → 0 < length group
    → drop (length line - lock.held) (line ++ group) ≡ frame → nat_le r.misses (missed_after r lock.odd frame lock.missed) ≡ true
    → Takes (kept r None 0) line group (Some (got r lock.odd frame))
frame_lost r lock register line group frame stands are full some is lost =
    let from = frame_end r lock register line group frame stands are full some is in
    let at : ℕ = from.0 in
    let end = from.1.end in
    let g : Got = got r lock.odd frame in
    let missed : ℕ = missed_after r lock.odd frame lock.missed in
    taken_frame r lock line group frame at None 0 (hunts (at + 256)) (ends (at + 256) g ∷ loses (at + 256) ∷ []) from.1
    (ap (λ t. if t then hunts (at + 256) else locked (at + 256) (not lock.odd) missed) lost)
    (ap (λ t. if t then ends (at + 256) g ∷ loses (at + 256) ∷ [] else ends (at + 256) g ∷ []) lost) refl refl (omega arith, rw from.1.rest refl)

-- a frame ends, and the lock goes on
pub frame_kept : (r : Rules) (lock : Lock) (register new : ℕ) (line group frame : List ℕ)
    → StandsFor (kept r (Some lock) register) line → AreBits group → lock.held + length group ≡ 256 → 0 < length group
    → drop (length line - lock.held) (line ++ group) ≡ frame → nat_le r.misses (missed_after r lock.odd frame lock.missed) ≡ false
    → Takes (kept r (Some (record { odd = not lock.odd; missed = missed_after r lock.odd frame lock.missed; held = 0 })) new) line group (Some (got r lock.odd frame))
frame_kept r lock register new line group frame stands are full some is on =
    let from = frame_end r lock register line group frame stands are full some is in
    let at : ℕ = from.0 in
    let end = from.1.end in
    let g : Got = got r lock.odd frame in
    let missed : ℕ = missed_after r lock.odd frame lock.missed in
    taken_frame r lock line group frame at (Some (record { odd = not lock.odd; missed = missed; held = 0 })) new (locked (at + 256) (not lock.odd) missed) (ends (at + 256) g ∷ []) from.1
    (ap (λ t. if t then hunts (at + 256) else locked (at + 256) (not lock.odd) missed) on)
    (ap (λ t. if t then ends (at + 256) g ∷ loses (at + 256) ∷ [] else ends (at + 256) g ∷ []) on) refl refl (refl, refl, omega arith, omega arith)

-- the bits of a frame in the register are those on the line
pub frame_is : (r : Rules) (lock : Lock) (register n v new : ℕ) (line group frame : List ℕ)
    → StandsFor (kept r (Some lock) register) line → AreBits group → length group ≡ n → number group ≡ v → lock.held + n ≡ 256
    → new ≡ (register * 2 ^ n + v) % 2 ^ 272 → AreBits frame → length frame ≡ 256 → number frame ≡ new % 2 ^ 256
    → drop (length line - lock.held) (line ++ group) ≡ frame
frame_is r lock register n v new line group frame stands are long made full pushed are_f long_f number_f =
    let from = locked_from r lock register line stands in
    let at : ℕ = from.0 in
    let end : at + lock.held ≡ length line = from.1.end in
    let begin : length line - lock.held ≡ at = omega arith in
    let all = are_append line group stands.bits are in
    let size : length (drop at (line ++ group)) ≡ 256 = length-drop at (line ++ group) ∙ (omega (arith, length-append line group)) in
    let small = number-lt (drop at (line ++ group)) (are_drop at (line ++ group) all) in
    let small' : number (drop at (line ++ group)) < 2 ^ 256 = rw size at small in
    let more = held_more r lock register line group at n v from.1 long made (omega arith) in
    let more' : new % 2 ^ 256 ≡ number (drop at (line ++ group)) % 2 ^ 256 = ap (λ x. x % 2 ^ 256) pushed ∙ (rw full at more) in
    let whole : number (drop at (line ++ group)) % 2 ^ 256 ≡ number (drop at (line ++ group)) = mod_small (number (drop at (line ++ group))) 256 small' in
    ap (λ q. drop q (line ++ group)) begin
    ∙ same_number (drop at (line ++ group)) frame (are_drop at (line ++ group) all) are_f (size ∙ sym long_f) (sym (number_f ∙ more' ∙ whole))

-- the lock after a frame, by whether it is lost
pub lost_or_kept : (misses missed : ℕ) (odd : Bool) (lock : Option Lock) → lock ≡ lock_after misses odd missed
    → ((nat_le misses missed ≡ true) × (lock ≡ None)) ⊎ ((nat_le misses missed ≡ false) × (lock ≡ Some (record { odd = not odd; missed = missed; held = 0 })))
lost_or_kept misses missed odd lock e = by_test (nat_le misses missed) refl
  where
    by_test : (t : Bool) → nat_le misses missed ≡ t
        → ((nat_le misses missed ≡ true) × (lock ≡ None)) ⊎ ((nat_le misses missed ≡ false) × (lock ≡ Some (record { odd = not odd; missed = missed; held = 0 })))
    by_test true h = inl (h, e ∙ ap (λ t. if t then None else Some (record { odd = not odd; missed = missed; held = 0 })) h)
    by_test false h = inr (h, e ∙ ap (λ t. if t then None else Some (record { odd = not odd; missed = missed; held = 0 })) h)

-- equal locks
same_some : (a b : Lock) → ◌≡◌ {A = Option Lock} (Some a) (Some b) → a ≡ b
same_some a b e = cc

-- what the code keeps where a frame ends and the lock with it
pub code_lost : (r : Rules) (lock : Lock) (register : ℕ) (line group frame : List ℕ) (got' : Got) (after : Option Lock)
    → StandsFor (kept r (Some lock) register) line → AreBits group → lock.held + length group ≡ 256 → 0 < length group
    → drop (length line - lock.held) (line ++ group) ≡ frame → got' ≡ got r lock.odd frame
    → after ≡ lock_after r.misses lock.odd (missed_after r lock.odd frame lock.missed) → after ≡ None
    → Takes (kept r None 0) line group (Some got')
code_lost r lock register line group frame got' after stands are full some is told e none =
    elim (lost_or_kept r.misses (missed_after r lock.odd frame lock.missed) lock.odd after e) [
      | inl lost ↦ rw told (frame_lost r lock register line group frame stands are full some is lost.0)
      | inr on ↦ let some = on.1 in absurd (cc)
    ]

-- and where the lock goes on
pub code_kept : (r : Rules) (lock : Lock) (register new : ℕ) (line group frame : List ℕ) (got' : Got) (after : Option Lock) (next : Lock)
    → StandsFor (kept r (Some lock) register) line → AreBits group → lock.held + length group ≡ 256
    → 0 < length group → drop (length line - lock.held) (line ++ group) ≡ frame → got' ≡ got r lock.odd frame
    → after ≡ lock_after r.misses lock.odd (missed_after r lock.odd frame lock.missed)
    → after ≡ Some next → Takes (kept r (Some next) new) line group (Some got')
code_kept r lock register new line group frame got' after next stands are full some is told e on =
    elim (lost_or_kept r.misses (missed_after r lock.odd frame lock.missed) lock.odd after e) [
      | inl lost ↦ let none = lost.1 in absurd (cc)
      | inr so ↦
          let same : ◌≡◌ {A = Option Lock} (Some next) (Some (record { odd = not lock.odd; missed = missed_after r lock.odd frame lock.missed; held = 0 })) = sym on ∙ so.1 in
          rw (told, same_some next _ same) (frame_kept r lock register new line group frame stands are full some is so.0)
    ]
