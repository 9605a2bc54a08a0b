-- What a ring keeps once the values of one set more stand at their place.
use Rattle.std.proofs.Common.{◌≡◌, ◌≢◌, ◌∙◌, sym, ap, refl, ℕ, zero, suc, ◌+◌, ◌-◌, ◌/◌, ◌%◌, ◌<◌, ◌≤◌, min, pos, List, [], ◌∷◌, ◌++◌, length, set, slice_index_or, inl, inr, arith, mul-le-mul_left}
use Rattle.std.proofs.Math.Nat.{add-mod_right}
use Rattle.std.proofs.lemmas.Bool.{cases_lt}
use Rattle.std.proofs.lemmas.List.{length_push, get_or-set_same, get_or-set_other}
use Rattle.ld_base.specs.declared.phases.Phases.{Phases}
use Rattle.ld_base.specs.declared.phases.SampleSet.{SampleSet}
use Rattle.phasor.specs.Ring.{sets_below, quiet, Leaves, IsPushed}
use Rattle.ld_base.specs.Phases.{no_current}
use Rattle.phasor.specs.Window.{Kept}

-- a sample of three zeros is no current
pub no_current_from : (sample : Phases) → sample.a ≡ pos 0 → sample.b ≡ pos 0 → sample.c ≡ pos 0 → sample ≡ no_current
no_current_from sample a b c = λ i. record { a = a i; b = b i; c = c i }

-- the numbers of less than a cycle have places of their own
places_differ : (c k n : ℕ) → 0 < c → k < n → n < k + c → k % c ≢ n % c
places_differ c k n some below near same = elim (cases_lt (k / c) (n / c)) [
  | inl later ↦ absurd (omega (arith, mul-le-mul_left c later))
  | inr sooner ↦ absurd (omega (arith, mul-le-mul_left c sooner))
]

-- as many sets are read
pub length-sets_below : (c : ℕ) (places : List (List Phases)) (count stop : ℕ) → count ≤ stop
    → length (sets_below c places count stop) ≡ count
length-sets_below c places zero stop few = refl
length-sets_below c places (suc count) zero few = absurd (omega arith)
length-sets_below c places (suc count) (suc stop) few =
    omega (arith, length_push (sets_below c places count stop) (record { number = stop; values = slice_index_or places (stop % c) [] }), length-sets_below c places count stop (omega arith))

-- other places don't matter
sets_below-set : (c : ℕ) (places : List (List Phases)) (place : ℕ) (values : List Phases) (count stop : ℕ)
    → ((k : ℕ) → stop ≤ k + count → k < stop → k % c ≢ place)
    → sets_below c (set places place values) count stop ≡ sets_below c places count stop
sets_below-set c places place values zero stop other = refl
sets_below-set c places place values (suc count) zero other = refl
sets_below-set c places place values (suc count) (suc stop) other =
    (λ i. sets_below-set c places place values count stop (λ k from below. other k (omega arith) (omega arith)) i
    ++ record { number = stop; values = get_or-set_other places place (stop % c) values [] (other stop (omega arith) (omega arith)) i } ∷ [])

-- the oldest of the sets read
sets_below-first : (c : ℕ) (places : List (List Phases)) (count first : ℕ)
    → sets_below c places (suc count) (suc (first + count)) ≡ record { number = first; values = slice_index_or places (first % c) [] } ∷ sets_below c places count (suc (first + count))
sets_below-first c places zero first = let same : first + 0 ≡ first = omega arith in rw same refl
sets_below-first c places (suc count) first =
    let next : first + suc count ≡ suc (first + count) = omega arith in
    rw next (ap (λ sets. sets ++ record { number = suc (first + count); values = slice_index_or places (suc (first + count) % c) [] } ∷ []) (sets_below-first c places count first))

-- so it is by any reading
first_read : (c : ℕ) (places : List (List Phases)) (count first next : ℕ) (oldest : SampleSet) (rest : List SampleSet)
    → next ≡ suc (first + count)
    → sets_below c places (suc count) next ≡ oldest ∷ rest
    → (oldest ≡ record { number = first; values = slice_index_or places (first % c) [] }) × (rest ≡ sets_below c places count next)
first_read c places count first next oldest rest is read =
    let all = rw is at read in
    let found = sym (sets_below-first c places count first) ∙ all in
    let others : rest ≡ sets_below c places count (suc (first + count)) = cc in
    (cc, rw is others)

-- a ring by its parts
abbrev ring_of : ℕ → List (List Phases) → ℕ → ℕ → Kept
ring_of cycle places held next = record { cycle = cycle; next = next; sets = sets_below cycle places held next }

module _ (cycle : ℕ) (places : List (List Phases)) (held next : ℕ) (some : 0 < cycle) (few : held ≤ cycle) (reached : held ≤ next) where
  many : length (sets_below cycle places held next) ≡ held
  many = length-sets_below cycle places held next reached

  -- nothing leaves where there is room
  pub Leaves-room : held ≢ cycle → Leaves (ring_of cycle places held next) quiet
  Leaves-room room = record { room = λ _. refl; full = λ oldest rest whole is. absurd (room (omega (arith, many))) }

  -- and else the set that has the next one's place
  pub Leaves-full : held ≡ cycle → Leaves (ring_of cycle places held next) (slice_index_or places (next % cycle) [])
  Leaves-full whole = by held refl
    where
      by : (h : ℕ) → held ≡ h → Leaves (ring_of cycle places held next) (slice_index_or places (next % cycle) [])
      by zero is = absurd (omega arith)
      by (suc count) is =
          let first = next - suc count in
          let last : next ≡ suc (first + count) = omega arith in
          record {
            room = λ room. absurd (omega (arith, many));
            full = λ oldest rest full read.
                let one = first_read cycle places count first next oldest rest last (rw is at read) in
                let apart : first + cycle ≡ next = omega arith in
                let same : next % cycle ≡ first % cycle = ap (λ n. n % cycle) (sym apart) ∙ add-mod_right first cycle in
                (rw (one.0, same) refl, rw one.0 apart);
          }

  -- the newest set stands behind less than a cycle of others
  newest_at : (values : List Phases) (count : ℕ) → length places ≡ 20 → cycle ≤ 20 → count < cycle → count ≤ next
      → sets_below cycle (set places (next % cycle) values) (suc count) (suc next) ≡ sets_below cycle places count next ++ record { number = next; values = values } ∷ []
  newest_at values count all short room reach =
      let within : next % cycle < length places = omega arith in
      (λ i. sets_below-set cycle places (next % cycle) values count next (λ k from below. places_differ cycle k next some below (omega arith)) i
      ++ record { number = next; values = get_or-set_same places (next % cycle) values [] within i } ∷ [])

  -- one set more at its place
  pub IsPushed-set : (values leaving : List Phases) → length places ≡ 20 → cycle ≤ 20 → Leaves (ring_of cycle places held next) leaving
      → IsPushed (ring_of cycle places held next) (ring_of cycle (set places (next % cycle) values) (min cycle (held + 1)) (next + 1))
      (record { number = next; values = values }) leaving
  IsPushed-set values leaving all short leaves =
      let last : next + 1 ≡ suc next = omega arith in
      record {
        leaves = leaves;
        cycle = refl;
        next = refl;
        room = λ room.
            let below : held < cycle = omega (arith, many) in
            let more : min cycle (held + 1) ≡ suc held = omega arith in
            rw (more, last) (newest_at values held all short below reached);
        full = λ oldest rest full read. whole oldest rest (omega (arith, many)) read;
      }
    where
      whole : (oldest : SampleSet) (rest : List SampleSet) → held ≡ cycle → sets_below cycle places held next ≡ oldest ∷ rest
          → sets_below cycle (set places (next % cycle) values) (min cycle (held + 1)) (next + 1) ≡ rest ++ record { number = next; values = values } ∷ []
      whole oldest rest is read = by cycle refl
        where
          by : (k : ℕ) → cycle ≡ k → sets_below cycle (set places (next % cycle) values) (min cycle (held + 1)) (next + 1) ≡ rest ++ record { number = next; values = values } ∷ []
          by zero none = absurd (omega arith)
          by (suc count) full =
              let first = next - suc count in
              let last : next ≡ suc (first + count) = omega arith in
              let held_is : held ≡ suc count = omega arith in
              let one = first_read cycle places count first next oldest rest last (rw held_is at read) in
              let more : min cycle (held + 1) ≡ suc count = omega arith in
              let end : next + 1 ≡ suc next = omega arith in
              rw (more, end, one.1) (newest_at values count all short (omega arith) (omega arith))
