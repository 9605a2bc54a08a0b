-- A line is asked, and a frame goes out on it.
use Rattle.std.proofs.Common.{◌≡◌, ℕ, ◌+◌, ◌*◌, length, Bool, true, false, ◌&&◌, cond, List, [], ◌∷◌, ◌++◌, map, Option, Some, sym, ap, ◌∙◌, refl, arith}
use Rattle.std.specs.Prelude.{◌==◌, if◌then◌else◌, option_map, unwrap_or}
use Rattle.std.specs.List.{list_any}
use Rattle.std.proofs.lemmas.Bool.{and_from, eq-eqb}
use Rattle.std.proofs.lemmas.Bool.Decides.{nat_tests}
use Rattle.c3794_frame.specs.Numbers.{bits_of}
use Rattle.ld_base.specs.Bits.{line_bits}
use Rattle.ld_base.specs.Faults.{next_count}
use Rattle.ld_base.specs.Script.{Script, after_send, after_take, first_due, send_fails, take_fails}
use Rattle.pingpong.specs.declared.journal.Entry.{Entry}
use Rattle.waveform_reader.specs.Scenario.{Setup}
use Rattle.line_world.specs.Occasions.Occasion.{arrival, departure}
use Rattle.line_world.specs.Passes.{Passes, Told, failures, raised}
use Rattle.line_world.specs.Run.{accepted, asked, given, loaded, newest_frame}
use Rattle.line_world.specs.World.{Outcome, arrived, departed, entry_of}
use Rattle.line_world.specs.World.Outcome.{nothing, gives, fails}
use Rattle.line_world.proofs.Turning.{among, is_on, once}

-- a count of faults after an outcome
abbrev pub faulted : Outcome → ℕ → ℕ
faulted nothing n = n
faulted (gives bits) n = n
faulted fails n = next_count n

-- what a script gives, by the wire's answer
pub takes_ok : (t : ℕ) (told : Script) (chunk : Option (List ℕ)) (new : Option Script)
    → (take_fails told.rules t ≡ false) × (chunk ≡ first_due told.queue t) × (new ≡ Some (after_take told t))
    → (given t told ≡ unwrap_or (option_map (λ bits. gives bits) chunk) nothing) × (new ≡ Some (asked t told))
takes_ok t told chunk new by = (
  ap (λ (b : Bool). if b then fails else unwrap_or (option_map (λ bits. gives bits) (first_due told.queue t)) nothing) by.0
      ∙ ap (λ (bits : Option (List ℕ)). unwrap_or (option_map (λ bits. gives bits) bits) nothing) (sym by.1),
  by.2 ∙ ap (λ (b : Bool). Some (if b then told else after_take told t)) (sym by.0),
)

pub takes_err : (t : ℕ) (told : Script) (new : Option Script) → take_fails told.rules t ≡ true → new ≡ Some told
    → (given t told ≡ fails) × (new ≡ Some (asked t told))
takes_err t told new failed is = (
  ap (λ (b : Bool). if b then fails else unwrap_or (option_map (λ bits. gives bits) (first_due told.queue t)) nothing) failed,
  is ∙ ap (λ (b : Bool). Some (if b then told else after_take told t)) (sym failed),
)

-- what becomes of a frame, by the wire's answer
pub sends_ok : (t : ℕ) (told : Script) (frame : List ℕ) (new : Option Script) → send_fails told.rules t ≡ false → new ≡ Some (after_send told t frame)
    → (accepted t told ≡ nothing) × (new ≡ Some (loaded t frame told))
sends_ok t told frame new sound is = (
  ap (λ (b : Bool). if b then fails else nothing) sound,
  is ∙ ap (λ (b : Bool). Some (if b then told else after_send told t frame)) (sym sound),
)

pub sends_err : (t : ℕ) (told : Script) (frame : List ℕ) (new : Option Script) → send_fails told.rules t ≡ true → new ≡ Some told
    → (accepted t told ≡ fails) × (new ≡ Some (loaded t frame told))
sends_err t told frame new failed is = (
  ap (λ (b : Bool). if b then fails else nothing) failed,
  is ∙ ap (λ (b : Bool). Some (if b then told else after_send told t frame)) (sym failed),
)

-- the bits of a frame
pub frame_bits : (bytes : List ℕ) → length bytes ≡ 32 → line_bits 256 bytes ≡ bits_of bytes
unfolding bits_of
frame_bits bytes long =
    let same : 256 ≡ 8 * length bytes = omega arith in
    ap (λ (count : ℕ). line_bits count bytes) same

-- a failed call on another line
elsewhere-test : (from to : ℕ) (w : Told) → is_on from to w ≡ false → ((from == w.from) && (to == w.to)) ≡ false
elsewhere-test from to w off = grind (arith, nat_tests)

same-test : (from to : ℕ) → ((from == from) && (to == to)) ≡ true
same-test from to = and_from (from == from) (to == to) (eq-eqb from from refl) (eq-eqb to to refl)

module _ (s : Setup) (t from to : ℕ) where
  arrived-elsewhere : (o : Outcome) (w : Told) → is_on from to w ≡ false → failures w.from w.to (map (entry_of s t) (arrived to from o)) ≡ 0
  arrived-elsewhere nothing w off = refl
  arrived-elsewhere (gives bits) w off = refl
  arrived-elsewhere fails w off = ap (λ (b : Bool). 0 + cond b 1 0) (elsewhere-test from to w off)

  departed-elsewhere : (o : Outcome) (w : Told) → is_on from to w ≡ false → failures w.from w.to (map (entry_of s t) (departed from to o)) ≡ 0
  departed-elsewhere nothing w off = refl
  departed-elsewhere (gives bits) w off = refl
  departed-elsewhere fails w off = ap (λ (b : Bool). 0 + cond b 1 0) (elsewhere-test from to w off)

  arrived-counts : (o : Outcome) (n : ℕ) → faulted o n ≡ raised (failures from to (map (entry_of s t) (arrived to from o))) n
  arrived-counts nothing n = refl
  arrived-counts (gives bits) n = refl
  arrived-counts fails n = ap (λ (b : Bool). raised (0 + cond b 1 0) n) (sym (same-test from to))

  departed-counts : (o : Outcome) (n : ℕ) → faulted o n ≡ raised (failures from to (map (entry_of s t) (departed from to o))) n
  departed-counts nothing n = refl
  departed-counts (gives bits) n = refl
  departed-counts fails n = ap (λ (b : Bool). raised (0 + cond b 1 0) n) (sym (same-test from to))

  -- by itself
  module _ (n m : ℕ) (old new : List Entry) (script changed : Option Script) (o : Outcome) (counts : m ≡ faulted o n) where
    pub arrival_passes : new ≡ old ++ map (entry_of s t) (arrived to from o)
        → ((told : Script) → script ≡ Some told → (given t told ≡ o) × (changed ≡ Some (asked t told)))
        → Passes s (record { time = t; occasion = arrival to from } ∷ [])
        (record { journal = old; wires = record { from = from; to = to; faults = n; script = script } ∷ [] })
        (record { journal = new; wires = record { from = from; to = to; faults = m; script = changed } ∷ [] })
    arrival_passes is_new by_script =
        once s t from to (given t) (λ journal. asked t) (arrived to from) n m old new script changed o is_new by_script
        (record { time = t; occasion = arrival to from }) (λ state. refl) (λ journal. refl) (counts ∙ arrived-counts o n)

    pub departure_passes : new ≡ old ++ map (entry_of s t) (departed from to o)
        → ((told : Script) → script ≡ Some told → (accepted t told ≡ o) × (changed ≡ Some (loaded t (newest_frame s.settings from to old) told)))
        → Passes s (record { time = t; occasion = departure from to } ∷ [])
        (record { journal = old; wires = record { from = from; to = to; faults = n; script = script } ∷ [] })
        (record { journal = new; wires = record { from = from; to = to; faults = m; script = changed } ∷ [] })
    departure_passes is_new by_script =
        once s t from to (accepted t) (λ journal. loaded t (newest_frame s.settings from to journal)) (departed from to) n m old new script changed o is_new by_script
        (record { time = t; occasion = departure from to }) (λ state. refl) (λ journal. refl) (counts ∙ departed-counts o n)

  -- among the other wires
  module _ (old new : List Entry) (xs ys : List Told) (w v : Told) (none_before : list_any (is_on from to) xs ≡ false) (none_behind : list_any (is_on from to) ys ≡ false) where
    pub arrival_among : Passes s (record { time = t; occasion = arrival to from } ∷ []) (record { journal = old; wires = w ∷ [] }) (record { journal = new; wires = v ∷ [] })
        → Passes s (record { time = t; occasion = arrival to from } ∷ []) (record { journal = old; wires = xs ++ w ∷ ys }) (record { journal = new; wires = xs ++ v ∷ ys })
    arrival_among =
        among s t from to (given t) (λ journal. asked t) (arrived to from) arrived-elsewhere
        (record { time = t; occasion = arrival to from }) (λ state. refl) (λ journal o. refl) old new xs ys w v none_before none_behind

    pub departure_among : Passes s (record { time = t; occasion = departure from to } ∷ []) (record { journal = old; wires = w ∷ [] }) (record { journal = new; wires = v ∷ [] })
        → Passes s (record { time = t; occasion = departure from to } ∷ []) (record { journal = old; wires = xs ++ w ∷ ys }) (record { journal = new; wires = xs ++ v ∷ ys })
    departure_among =
        among s t from to (accepted t) (λ journal. loaded t (newest_frame s.settings from to journal)) (departed from to) departed-elsewhere
        (record { time = t; occasion = departure from to }) (λ state. refl) (λ journal o. refl) old new xs ys w v none_before none_behind
