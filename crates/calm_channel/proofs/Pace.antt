-- The moments of a scenario that touch one line, in their order: it is asked once in each tick, and at each multiple of 125 its sender has a
-- slot and then sends a frame on it.
use Rattle.std.proofs.Common.{◌≡◌, ◌≢◌, ◌⊎◌, ℕ, zero, suc, ◌+◌, ◌*◌, ◌%◌, ◌≤◌, ◌<◌, inl, inr, Bool, true, false, ◌&&◌, not, cond, List, [], ◌∷◌, ◌++◌, map, arith, refl, ap, sym, subst, ◌∙◌, append_assoc}
use Rattle.std.specs.Prelude.{◌==◌, nat_le, filter}
use Rattle.std.specs.List.{flat_map}
use Rattle.std.proofs.lemmas.Bool.Decides.{nat_tests}
use Rattle.ld_base.specs.declared.fields.Fields.{Fields}
use Rattle.line_journal.specs.Stations.{ArePair, Way}
use Rattle.line_world.specs.Occasions.{Moment, Occasion, at_tick, moments, moments_at, occasions}
use Rattle.line_world.specs.Occasions.Occasion.{arrival, departure, sampling, slot}

-- a moment of an occasion
abbrev pub at : ℕ → Occasion → Moment
at time occasion = record { time = time; occasion = occasion }

-- whether an occasion touches the line from one station to another
abbrev pub touches : ℕ → ℕ → Occasion → Bool
touches from to (arrival receiver sender) = (sender == from) && (receiver == to)
touches from to (sampling station) = false
touches from to (slot station) = station == from
touches from to (departure sender receiver) = (sender == from) && (receiver == to)

abbrev touched : ℕ → ℕ → Moment → Bool
touched from to moment = touches from to moment.occasion

-- moments of which those that touch a line come in turn. Before them it was asked at so many ticks, so many frames went out on it, and its
-- sender had so many slots
abbrev pub Paced : ℕ → ℕ → List Moment → ℕ → ℕ → ℕ → Type 0
Paced from to [] asked sent slots = Unit {0}
Paced from to (m ∷ ms) asked sent slots =
    ((touches from to m.occasion ≡ false) × Paced from to ms asked sent slots)
    ⊎ ((m ≡ at asked (arrival to from)) × (slots ≡ sent) × (asked ≤ 125 * sent) × (125 * sent < asked + 125) × Paced from to ms (suc asked) sent slots)
    ⊎ ((m ≡ at (125 * sent) (slot from)) × (slots ≡ sent) × (asked ≡ 125 * sent + 1) × Paced from to ms asked sent (suc slots))
    ⊎ ((m ≡ at (125 * sent) (departure from to)) × (slots ≡ suc sent) × (asked ≡ 125 * sent + 1) × Paced from to ms asked (suc sent) slots)

-- moments that don't touch it may stand between them
Paced-filter : (from to : ℕ) (ms rest : List Moment) (asked sent slots : ℕ) → Paced from to (filter (touched from to) ms ++ rest) asked sent slots
    → Paced from to (ms ++ rest) asked sent slots
Paced-filter from to [] rest asked sent slots paced = paced
Paced-filter from to (m ∷ ms) rest asked sent slots paced =
    go (touches from to m.occasion) refl paced (λ asked sent slots. Paced-filter from to ms rest asked sent slots)
  where
    others : List Moment
    others = filter (touched from to) ms

    go : (b : Bool) → touches from to m.occasion ≡ b → Paced from to (cond b (m ∷ others) others ++ rest) asked sent slots
        → ((asked sent slots : ℕ) → Paced from to (others ++ rest) asked sent slots → Paced from to (ms ++ rest) asked sent slots)
        → Paced from to (m ∷ (ms ++ rest)) asked sent slots
    go false is paced more = inl (is, more asked sent slots paced)
    go true is (inl untouched) more = absurd (cc (untouched.0))
    go true is (inr (inl x)) more = inr (inl (x.0, x.1, x.2, x.3, more (suc asked) sent slots x.4))
    go true is (inr (inr (inl x))) more = inr (inr (inl (x.0, x.1, x.2, more asked sent (suc slots) x.3)))
    go true is (inr (inr (inr x))) more = inr (inr (inr (x.0, x.1, x.2, more asked (suc sent) slots x.3)))

filter-at : (from to tick : ℕ) (these : List Occasion) → filter (touched from to) (at_tick tick these) ≡ at_tick tick (filter (touches from to) these)
filter-at from to tick [] = refl
filter-at from to tick (o ∷ these) = go (touches from to o) (filter-at from to tick these)
  where
    go : (b : Bool) → filter (touched from to) (at_tick tick these) ≡ at_tick tick (filter (touches from to) these)
        → cond b (at tick o ∷ filter (touched from to) (at_tick tick these)) (filter (touched from to) (at_tick tick these))
        ≡ at_tick tick (cond b (o ∷ filter (touches from to) these) (filter (touches from to) these))
    go true rest = ap (λ (ms : List Moment). at tick o ∷ ms) rest
    go false rest = rest

-- the occasions of a tick of so many stations, with slots or without
abbrev pub stations_in : ℕ → List ℕ
stations_in n = filter (λ station. nat_le station n) (1 ∷ 2 ∷ 3 ∷ [])

abbrev pub peers_in : ℕ → ℕ → List ℕ
peers_in n me = filter (λ station. nat_le station n && not (station == me)) (1 ∷ 2 ∷ 3 ∷ [])

abbrev pub ways_in : ℕ → List Way
ways_in n = flat_map (λ receiver. map (λ sender. record { from = sender; to = receiver }) (peers_in n receiver)) (stations_in n)

abbrev pub occasions_in : ℕ → Bool → List Occasion
occasions_in n has_slots =
    map (λ (way : Way). arrival way.to way.from) (ways_in n) ++ map sampling (stations_in n)
    ++ cond has_slots (flat_map (λ station. slot station ∷ map (departure station) (peers_in n station)) (stations_in n)) []

-- those that touch a line
abbrev on_line : ℕ → ℕ → Bool → List Occasion
on_line from to has_slots = arrival to from ∷ cond has_slots (slot from ∷ departure from to ∷ []) []

abbrev Touching : Bool → ℕ → ℕ → ℕ → Type 0
Touching has_slots n from to = filter (touches from to) (occasions_in n has_slots) ≡ on_line from to has_slots

-- what is so of each pair of two stations, or of three, is so of every pair
one_of_three : (P : ℕ → Type 0) → P 1 → P 2 → P 3 → (k : ℕ) → 1 ≤ k → k ≤ 3 → P k
one_of_three P one two three zero low high = absurd (omega arith)
one_of_three P one two three (suc zero) low high = one
one_of_three P one two three (suc (suc zero)) low high = two
one_of_three P one two three (suc (suc (suc zero))) low high = three
one_of_three P one two three (suc (suc (suc (suc k)))) low high = absurd (omega arith)

two_or_three : (P : ℕ → Type 0) → P 2 → P 3 → (n : ℕ) → 2 ≤ n → n ≤ 3 → P n
two_or_three P two three n low high = one_of_three (λ n. 2 ≤ n → P n) (λ low. absurd (omega arith)) (λ low. two) (λ low. three) n (omega arith) high low

module _ (P : ℕ → ℕ → ℕ → Type 0) where
  from_one : (n to : ℕ) → n ≤ 3 → (2 ≤ n → P n 1 2) → (3 ≤ n → P n 1 3) → ArePair n 1 to → P n 1 to
  from_one n to few second third pair =
      one_of_three (λ to. ArePair n 1 to → P n 1 to) (λ pair. absurd (pair.differ refl)) (λ pair. second pair.other_there.1) (λ pair. third pair.other_there.1)
      to pair.other_there.0 (omega (arith, pair.other_there.1)) pair

  from_two : (n to : ℕ) → n ≤ 3 → P n 2 1 → (3 ≤ n → P n 2 3) → ArePair n 2 to → P n 2 to
  from_two n to few first third pair =
      one_of_three (λ to. ArePair n 2 to → P n 2 to) (λ pair. first) (λ pair. absurd (pair.differ refl)) (λ pair. third pair.other_there.1)
      to pair.other_there.0 (omega (arith, pair.other_there.1)) pair

  from_three : (n to : ℕ) → n ≤ 3 → P n 3 1 → P n 3 2 → ArePair n 3 to → P n 3 to
  from_three n to few first second pair =
      one_of_three (λ to. ArePair n 3 to → P n 3 to) (λ pair. first) (λ pair. second) (λ pair. absurd (pair.differ refl))
      to pair.other_there.0 (omega (arith, pair.other_there.1)) pair

  pub each_pair : P 2 1 2 → P 2 2 1 → P 3 1 2 → P 3 1 3 → P 3 2 1 → P 3 2 3 → P 3 3 1 → P 3 3 2
      → (n from to : ℕ) → 2 ≤ n → n ≤ 3 → ArePair n from to → P n from to
  each_pair p212 p221 p312 p313 p321 p323 p331 p332 n from to some few pair =
      two_or_three (λ n. (from to : ℕ) → ArePair n from to → P n from to) of_two of_three n some few from to pair
    where
      of_two : (from to : ℕ) → ArePair 2 from to → P 2 from to
      of_two from to pair =
          one_of_three (λ from. ArePair 2 from to → P 2 from to)
          (λ pair. from_one 2 to (omega arith) (λ there. p212) (λ there. absurd (omega arith)) pair)
          (λ pair. from_two 2 to (omega arith) p221 (λ there. absurd (omega arith)) pair)
          (λ pair. absurd (omega (arith, pair.one_there.1)))
          from pair.one_there.0 (omega (arith, pair.one_there.1)) pair

      of_three : (from to : ℕ) → ArePair 3 from to → P 3 from to
      of_three from to pair =
          one_of_three (λ from. ArePair 3 from to → P 3 from to)
          (λ pair. from_one 3 to (omega arith) (λ there. p312) (λ there. p313) pair)
          (λ pair. from_two 3 to (omega arith) p321 (λ there. p323) pair)
          (λ pair. from_three 3 to (omega arith) p331 p332 pair)
          from pair.one_there.0 (omega (arith, pair.one_there.1)) pair

touching : (has_slots : Bool) (n from to : ℕ) → 2 ≤ n → n ≤ 3 → ArePair n from to → Touching has_slots n from to
touching true = each_pair (Touching true) refl refl refl refl refl refl refl refl
touching false = each_pair (Touching false) refl refl refl refl refl refl refl refl

-- a tick, and what comes behind it
module _ (f : Fields) (from to : ℕ) (some : 2 ≤ f.stations) (few : f.stations ≤ 3) (pair : ArePair f.stations from to) where
  tick-touching : (tick : ℕ) → filter (touched from to) (moments_at f tick) ≡ at_tick tick (on_line from to (tick % 125 == 0))
  tick-touching tick =
      filter-at from to tick (occasions f tick)
      ∙ ap (λ (these : List Occasion). at_tick tick these) (touching (tick % 125 == 0) f.stations from to some few pair)

  tick-paced : (tick sent : ℕ) (rest : List Moment) → tick ≤ 125 * sent → 125 * sent < tick + 125
      → ((next : ℕ) → suc tick ≤ 125 * next → 125 * next < suc tick + 125 → Paced from to rest (suc tick) next next)
      → Paced from to (moments_at f tick ++ rest) tick sent sent
  tick-paced tick sent rest low high more =
      Paced-filter from to (moments_at f tick) rest tick sent sent
      (subst (λ (ms : List Moment). Paced from to (ms ++ rest) tick sent sent) (sym (tick-touching tick)) (go (tick % 125 == 0) refl))
    where
      go : (b : Bool) → (tick % 125 == 0) ≡ b → Paced from to (at_tick tick (on_line from to b) ++ rest) tick sent sent
      go false is =
          let off : tick % 125 ≢ 0 = grind (arith, nat_tests) in
          inr (inl (refl, refl, low, high, more sent (omega (arith, low, off)) (omega (arith, high))))
      go true is =
          let on : tick % 125 ≡ 0 = grind (arith, nat_tests) in
          let now : tick ≡ 125 * sent = omega (arith, low, high, on) in
          let next : suc tick ≡ 125 * sent + 1 = omega (arith, now) in
          inr (inl (
            refl,
            refl,
            low,
            high,
            inr (inr (inl (
              ap (λ (t : ℕ). at t (slot from)) now,
              refl,
              next,
              inr (inr (inr (
                ap (λ (t : ℕ). at t (departure from to)) now,
                refl,
                next,
                more (suc sent) (omega (arith, now)) (omega (arith, now)),
              ))),
            ))),
          ))

  -- the moments of all ticks
  moments-paced : (n : ℕ) (rest : List Moment) → ((sent : ℕ) → n ≤ 125 * sent → 125 * sent < n + 125 → Paced from to rest n sent sent)
      → Paced from to (moments f n ++ rest) 0 0 0
  unfolding moments
  moments-paced zero rest more = more 0 (omega arith) (omega arith)
  moments-paced (suc n) rest more =
      subst (λ (ms : List Moment). Paced from to ms 0 0 0) (sym (append_assoc (moments f n) (moments_at f n) rest))
      (moments-paced n (moments_at f n ++ rest) (λ sent low high. tick-paced n sent rest low high more))

  pub all-paced : (n : ℕ) → Paced from to (moments f n ++ []) 0 0 0
  all-paced n = moments-paced n [] (λ sent low high. tt)
