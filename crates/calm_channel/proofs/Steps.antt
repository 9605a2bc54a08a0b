-- The moments of a run in step: which samples, slots and questions of a station have gone by at each of them.
use Rattle.std.specs.Prelude.{◌%◌, ◌==◌, count_by, fold}
use Rattle.std.specs.List.{flat_map}
use Rattle.std.proofs.Common.{◌≡◌, ℕ, zero, suc, ◌+◌, ◌*◌, ◌<◌, ◌≤◌, Bool, true, false, cond, List, [], ◌∷◌, ◌++◌, map, arith, refl, ap, sym, subst, ◌∙◌, append-nil}
use Rattle.std.proofs.lemmas.Bool.{eqb-false, eqb-true}
use Rattle.std.proofs.lemmas.List.{map-append}
use Rattle.std.proofs.lemmas.List.Sums.{fold-append, sum_by-append, sum_by-cons}
use Rattle.ld_base.specs.declared.fields.Fields.{Fields}
use Rattle.line_journal.specs.Stations.{ArePair, Way, stations}
use Rattle.line_world.specs.Occasions.{Moment, Occasion, arrivals, at_tick, moments, moments_at, samplings, slot_of}
use Rattle.line_world.specs.Occasions.Occasion.{arrival, departure, sampling, slot}
use Rattle.calm_channel.specs.Coming.{asked, asks}
use Rattle.calm_channel.proofs.Pace.{each_pair, peers_in, stations_in, ways_in}

-- what has gone by: the samples and the slots of a station, how often it asked the line from a peer, and the tick of the last moment
pub record Marks : Type 0 where
  pub samples : ℕ
  pub slots : ℕ
  pub asks : ℕ
  pub latest : ℕ

abbrev pub start : Marks
start = record { samples = 0; slots = 0; asks = 0; latest = 0 }

abbrev pub is_sampling : ℕ → Occasion → Bool
is_sampling me (arrival receiver sender) = false
is_sampling me (sampling station) = station == me
is_sampling me (slot station) = false
is_sampling me (departure sender receiver) = false

abbrev pub is_slot : ℕ → Occasion → Bool
is_slot me (arrival receiver sender) = false
is_slot me (sampling station) = false
is_slot me (slot station) = station == me
is_slot me (departure sender receiver) = false

-- one moment more
abbrev pub marked : ℕ → ℕ → Marks → Moment → Marks
marked me peer m x = record {
  samples = m.samples + cond (is_sampling me x.occasion) 1 0;
  slots = m.slots + cond (is_slot me x.occasion) 1 0;
  asks = m.asks + cond (asks peer me x.occasion) 1 0;
  latest = x.time;
}

-- those of some first moments
abbrev pub marks : ℕ → ℕ → List Moment → Marks
marks me peer these = fold (marked me peer) start these

-- a moment that comes when it must: each tick has a sample and a question, in that order before the slot, and each 125th a slot
pub record IsInStep (me peer : ℕ) (m : Marks) (x : Moment) : Type 0 where
  pub later : m.latest ≤ x.time
  pub samples : (x.time ≤ m.samples) × (m.samples ≤ x.time + 1)
  pub asks : (x.time ≤ m.asks) × (m.asks ≤ x.time + 1)
  pub slots : x.time ≤ 125 * m.slots
  pub at_sampling : is_sampling me x.occasion ≡ true → m.samples ≡ x.time
  pub at_slot : is_slot me x.occasion ≡ true → (m.samples ≡ x.time + 1) × (m.asks ≡ x.time + 1) × (x.time ≡ 125 * m.slots)

abbrev pub AreInStep : ℕ → ℕ → List Moment → Marks → Type 0
AreInStep me peer [] m = Unit {0}
AreInStep me peer (x ∷ xs) m = IsInStep me peer m x × AreInStep me peer xs (marked me peer m x)

AreInStep-append : (me peer : ℕ) (xs ys : List Moment) (m : Marks) → AreInStep me peer xs m → AreInStep me peer ys (fold (marked me peer) m xs) → AreInStep me peer (xs ++ ys) m
AreInStep-append me peer [] ys m first second = second
AreInStep-append me peer (x ∷ xs) ys m first second = (first.0, AreInStep-append me peer xs ys (marked me peer m x) first.1 second)

pub AreInStep-at : (me peer : ℕ) (done : List Moment) (x : Moment) (rest : List Moment) (m : Marks) → AreInStep me peer (done ++ x ∷ rest) m
    → IsInStep me peer (fold (marked me peer) m done) x
AreInStep-at me peer [] x rest m all = all.0
AreInStep-at me peer (y ∷ done) x rest m all = AreInStep-at me peer done x rest (marked me peer m y) all.1

-- how often a line was asked
pub asks-are : (me peer : ℕ) (these : List Moment) (m : Marks) → (fold (marked me peer) m these).asks ≡ m.asks + asked peer me these
asks-are me peer [] m = omega arith
asks-are me peer (x ∷ xs) m =
    omega (arith, asks-are me peer xs (marked me peer m x), sum_by-cons (λ (moment : Moment). cond (asks peer me moment.occasion) 1 0) x xs)

-- the occasions of one tick
module _ (me peer t : ℕ) where
  abbrev samples_in : List Occasion → ℕ
  samples_in os = count_by (is_sampling me) os

  abbrev slots_in : List Occasion → ℕ
  slots_in os = count_by (is_slot me) os

  abbrev asks_in : List Occasion → ℕ
  asks_in os = count_by (asks peer me) os

  -- so many samples, slots and questions may still come
  record HasRoom (m : Marks) (samples slots asks : ℕ) : Type 0 where
    later : m.latest ≤ t
    samples_least : t ≤ m.samples
    samples_most : m.samples + samples ≤ t + 1
    asks_least : t ≤ m.asks
    asks_most : m.asks + asks ≤ t + 1
    slots_least : t ≤ 125 * m.slots
    slots_most : 125 * (m.slots + slots) ≤ t + 125
    slots_last : 0 < slots → (m.samples ≡ t + 1) × (m.asks ≡ t + 1)

  abbrev moment_of : Occasion → Moment
  moment_of o = record { time = t; occasion = o }

  tick-in_step : (os : List Occasion) (m : Marks) → HasRoom m (samples_in os) (slots_in os) (asks_in os) → AreInStep me peer (at_tick t os) m
  tick-in_step [] m room = tt
  tick-in_step (o ∷ os) m room =
      let a = sum_by-cons (λ (o : Occasion). cond (is_sampling me o) 1 0) o os in
      let b = sum_by-cons (λ (o : Occasion). cond (is_slot me o) 1 0) o os in
      let c = sum_by-cons (λ (o : Occasion). cond (asks peer me o) 1 0) o os in (
        one (samples_in (o ∷ os)) (slots_in (o ∷ os)) (asks_in (o ∷ os)) (samples_in os) (slots_in os) o m a b room,
        tick-in_step os (marked me peer m (moment_of o))
            (next (samples_in (o ∷ os)) (slots_in (o ∷ os)) (asks_in (o ∷ os)) (samples_in os) (slots_in os) (asks_in os) o m a b c room),
      )
    where
      one : (cs cq ca rs rq : ℕ) (o : Occasion) (m : Marks) → cs ≡ cond (is_sampling me o) 1 0 + rs → cq ≡ cond (is_slot me o) 1 0 + rq → HasRoom m cs cq ca
          → IsInStep me peer m (moment_of o)
      one cs cq ca rs rq o m a b room = record {
        later = room.later;
        samples = (room.samples_least, omega (arith, room.samples_most));
        asks = (room.asks_least, omega (arith, room.asks_most));
        slots = room.slots_least;
        at_sampling = λ is. let here : cs ≡ 1 + rs = a ∙ ap (λ (b : Bool). cond b 1 0 + rs) is in omega (arith, here, room.samples_most, room.samples_least);
        at_slot = λ is.
            let here : cq ≡ 1 + rq = b ∙ ap (λ (b : Bool). cond b 1 0 + rq) is in
            let last = room.slots_last (omega (arith, here)) in
            (last.0, last.1, omega (arith, here, room.slots_most, room.slots_least));
      }

      next : (cs cq ca rs rq ra : ℕ) (o : Occasion) (m : Marks) → cs ≡ cond (is_sampling me o) 1 0 + rs → cq ≡ cond (is_slot me o) 1 0 + rq
          → ca ≡ cond (asks peer me o) 1 0 + ra → HasRoom m cs cq ca → HasRoom (marked me peer m (moment_of o)) rs rq ra
      next cs cq ca rs rq ra o m a b c room = record {
        later = omega arith;
        samples_least = omega (arith, room.samples_least);
        samples_most = omega (arith, a, room.samples_most);
        asks_least = omega (arith, room.asks_least);
        asks_most = omega (arith, c, room.asks_most);
        slots_least = omega (arith, room.slots_least);
        slots_most = omega (arith, b, room.slots_most);
        slots_last = λ some.
            let last = room.slots_last (omega (arith, b, some)) in
            (omega (arith, last.0, a, room.samples_most), omega (arith, last.1, c, room.asks_most));
      }

  record AreMarked (m new : Marks) (samples slots asks : ℕ) : Type 0 where
    samples_are : new.samples ≡ m.samples + samples
    slots_are : new.slots ≡ m.slots + slots
    asks_are : new.asks ≡ m.asks + asks
    latest_is : new.latest ≤ t

  tick-marked : (os : List Occasion) (m : Marks) → m.latest ≤ t → AreMarked m (fold (marked me peer) m (at_tick t os)) (samples_in os) (slots_in os) (asks_in os)
  tick-marked [] m early = record { samples_are = omega arith; slots_are = omega arith; asks_are = omega arith; latest_is = early }
  tick-marked (o ∷ os) m early =
      let a = sum_by-cons (λ (o : Occasion). cond (is_sampling me o) 1 0) o os in
      let b = sum_by-cons (λ (o : Occasion). cond (is_slot me o) 1 0) o os in
      let c = sum_by-cons (λ (o : Occasion). cond (asks peer me o) 1 0) o os in
      let rest = tick-marked os (marked me peer m (moment_of o)) (omega arith) in
      record {
        samples_are = omega (arith, a, rest.samples_are);
        slots_are = omega (arith, b, rest.slots_are);
        asks_are = omega (arith, c, rest.asks_are);
        latest_is = rest.latest_is;
      }

-- the occasions of a tick of so many stations, in their three parts
abbrev arrivals_in : ℕ → List Occasion
arrivals_in n = map (λ (way : Way). arrival way.to way.from) (ways_in n)

abbrev samplings_in : ℕ → List Occasion
samplings_in n = map sampling (stations_in n)

abbrev slots_of : ℕ → List Occasion
slots_of n = flat_map (λ station. slot station ∷ map (departure station) (peers_in n station)) (stations_in n)

-- in a tick of so many stations each of them comes once
record AreOnce (n me peer : ℕ) : Type 0 where
  in_arrivals : (count_by (is_sampling me) (arrivals_in n) ≡ 0) × (count_by (is_slot me) (arrivals_in n) ≡ 0) × (count_by (asks peer me) (arrivals_in n) ≡ 1)
  in_samplings : (count_by (is_sampling me) (samplings_in n) ≡ 1) × (count_by (is_slot me) (samplings_in n) ≡ 0) × (count_by (asks peer me) (samplings_in n) ≡ 0)
  in_slots : (count_by (is_sampling me) (slots_of n) ≡ 0) × (count_by (is_slot me) (slots_of n) ≡ 1) × (count_by (asks peer me) (slots_of n) ≡ 0)

once : (n me peer : ℕ) → 2 ≤ n → n ≤ 3 → ArePair n me peer → AreOnce n me peer
once =
    each_pair AreOnce
    (record { in_arrivals = (refl, refl, refl); in_samplings = (refl, refl, refl); in_slots = (refl, refl, refl) })
    (record { in_arrivals = (refl, refl, refl); in_samplings = (refl, refl, refl); in_slots = (refl, refl, refl) })
    (record { in_arrivals = (refl, refl, refl); in_samplings = (refl, refl, refl); in_slots = (refl, refl, refl) })
    (record { in_arrivals = (refl, refl, refl); in_samplings = (refl, refl, refl); in_slots = (refl, refl, refl) })
    (record { in_arrivals = (refl, refl, refl); in_samplings = (refl, refl, refl); in_slots = (refl, refl, refl) })
    (record { in_arrivals = (refl, refl, refl); in_samplings = (refl, refl, refl); in_slots = (refl, refl, refl) })
    (record { in_arrivals = (refl, refl, refl); in_samplings = (refl, refl, refl); in_slots = (refl, refl, refl) })
    (record { in_arrivals = (refl, refl, refl); in_samplings = (refl, refl, refl); in_slots = (refl, refl, refl) })

-- what has gone by after all ticks below one
pub record IsThrough (n : ℕ) (m : Marks) : Type 0 where
  pub samples : m.samples ≡ n
  pub asks : m.asks ≡ n
  pub slots_least : n ≤ 125 * m.slots
  pub slots_most : 125 * m.slots < n + 125
  pub latest : m.latest ≤ n

module _ (f : Fields) (me peer : ℕ) (each : AreOnce f.stations me peer) where
  abbrev before_slots : List Occasion
  before_slots = arrivals f ++ samplings f

  abbrev all_slots : List Occasion
  all_slots = flat_map (slot_of f) (stations f)

  before_are : (count_by (is_sampling me) before_slots ≡ 1) × (count_by (is_slot me) before_slots ≡ 0) × (count_by (asks peer me) before_slots ≡ 1)
  before_are = (
    sum_by-append (λ (o : Occasion). cond (is_sampling me o) 1 0) (arrivals f) (samplings f) ∙ omega (arith, each.in_arrivals.0, each.in_samplings.0),
    sum_by-append (λ (o : Occasion). cond (is_slot me o) 1 0) (arrivals f) (samplings f) ∙ omega (arith, each.in_arrivals.1, each.in_samplings.1),
    sum_by-append (λ (o : Occasion). cond (asks peer me o) 1 0) (arrivals f) (samplings f) ∙ omega (arith, each.in_arrivals.2, each.in_samplings.2),
  )

  abbrev Steps : ℕ → List Moment → Marks → Type 0
  Steps n these m = AreInStep me peer these m × IsThrough n (fold (marked me peer) m these)

  before-steps : (n : ℕ) (m : Marks) → IsThrough n m → AreInStep me peer (at_tick n before_slots) m
  before-steps n m through =
      tick-in_step me peer n before_slots m (record {
        later = through.latest;
        samples_least = omega (arith, through.samples);
        samples_most = omega (arith, through.samples, before_are.0);
        asks_least = omega (arith, through.asks);
        asks_most = omega (arith, through.asks, before_are.2);
        slots_least = through.slots_least;
        slots_most = omega (arith, through.slots_most, through.slots_least, before_are.1);
        slots_last = λ some. absurd (omega (arith, some, before_are.1));
      })

  tick-steps : (n : ℕ) (m : Marks) (b : Bool) → (n % 125 == 0) ≡ b → IsThrough n m → Steps (suc n) (at_tick n (before_slots ++ cond b all_slots [])) m
  tick-steps n m true is through =
      let zero_rest : n % 125 ≡ 0 = eqb-true (n % 125) 0 is in
      let first = tick-marked me peer n before_slots m through.latest in
      let middle = fold (marked me peer) m (at_tick n before_slots) in
      let second = tick-marked me peer n all_slots middle first.latest_is in
      let joined : at_tick n (before_slots ++ all_slots) ≡ at_tick n before_slots ++ at_tick n all_slots =
      map-append (λ (o : Occasion). record { time = n; occasion = o }) before_slots all_slots in
      let last : fold (marked me peer) m (at_tick n (before_slots ++ all_slots)) ≡ fold (marked me peer) middle (at_tick n all_slots) =
      ap (fold (marked me peer) m) joined ∙ fold-append (marked me peer) m (at_tick n before_slots) (at_tick n all_slots) in (
        subst (λ (these : List Moment). AreInStep me peer these m) (sym joined)
            (AreInStep-append me peer (at_tick n before_slots) (at_tick n all_slots) m (before-steps n m through)
            (tick-in_step me peer n all_slots middle (record {
              later = first.latest_is;
              samples_least = omega (arith, through.samples, first.samples_are);
              samples_most = omega (arith, through.samples, first.samples_are, before_are.0, each.in_slots.0);
              asks_least = omega (arith, through.asks, first.asks_are);
              asks_most = omega (arith, through.asks, first.asks_are, before_are.2, each.in_slots.2);
              slots_least = omega (arith, through.slots_least, first.slots_are);
              slots_most = omega (arith, through.slots_most, through.slots_least, first.slots_are, before_are.1, each.in_slots.1, zero_rest);
              slots_last = λ some. (omega (arith, through.samples, first.samples_are, before_are.0), omega (arith, through.asks, first.asks_are, before_are.2));
            }))),
        subst (IsThrough (suc n)) (sym last) (record {
          samples = omega (arith, through.samples, first.samples_are, before_are.0, second.samples_are, each.in_slots.0);
          asks = omega (arith, through.asks, first.asks_are, before_are.2, second.asks_are, each.in_slots.2);
          slots_least = omega (arith, through.slots_least, first.slots_are, before_are.1, second.slots_are, each.in_slots.1);
          slots_most = omega (arith, through.slots_most, through.slots_least, first.slots_are, before_are.1, second.slots_are, each.in_slots.1, zero_rest);
          latest = omega (arith, second.latest_is);
        }),
      )
  tick-steps n m false is through =
      let some_rest : n % 125 ≡ 0 → ⊥ = eqb-false (n % 125) 0 is in
      let same : at_tick n (before_slots ++ []) ≡ at_tick n before_slots = ap (at_tick n) (append-nil before_slots) in
      let first = tick-marked me peer n before_slots m through.latest in
      subst (λ (these : List Moment). Steps (suc n) these m) (sym same) (
        before-steps n m through,
        record {
          samples = omega (arith, through.samples, first.samples_are, before_are.0);
          asks = omega (arith, through.asks, first.asks_are, before_are.2);
          slots_least = omega (arith, through.slots_least, first.slots_are, before_are.1, some_rest);
          slots_most = omega (arith, through.slots_most, first.slots_are, before_are.1);
          latest = omega (arith, first.latest_is);
        },
      )

  moments-steps : (n : ℕ) → Steps n (moments f n) start
  unfolding moments
  moments-steps zero = (tt, record { samples = refl; asks = refl; slots_least = omega arith; slots_most = omega arith; latest = omega arith })
  moments-steps (suc n) =
      let before = moments-steps n in
      let tick = tick-steps n (fold (marked me peer) start (moments f n)) (n % 125 == 0) refl before.1 in (
        AreInStep-append me peer (moments f n) (moments_at f n) start before.0 tick.0,
        subst (IsThrough (suc n)) (sym (fold-append (marked me peer) start (moments f n) (moments_at f n))) tick.1,
      )

-- the moments of a scenario are in step
pub steps : (f : Fields) (me peer n : ℕ) → 2 ≤ f.stations → f.stations ≤ 3 → ArePair f.stations me peer
    → AreInStep me peer (moments f n) start × IsThrough n (marks me peer (moments f n))
steps f me peer n some few pair = moments-steps f me peer (once f.stations me peer some few pair) n
