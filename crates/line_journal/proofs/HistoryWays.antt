-- The directed lines of two or three stations, and their histories.
use Rattle.std.specs.Prelude.{◌==◌, ◌&&◌, nat_le, not, filter, find, is_some, slice_get}
use Rattle.std.specs.List.{flat_map, list_all, list_any}
use Rattle.std.proofs.Common.{◌≡◌, ◌≢◌, ℕ, zero, suc, ◌+◌, ◌*◌, ◌<◌, ◌≤◌, Bool, true, List, [], ◌∷◌, All, map, None, Some, get_or, length, inl, inr, refl, ap, sym, subst, ◌∙◌, arith}
use Rattle.std.proofs.lemmas.Bool.{and_parts, cases_Bool, eq-eqb, leb-true}
use Rattle.std.proofs.lemmas.Bool.Decides.{nat_tests}
use Rattle.std.proofs.lemmas.List.{get_or-map, length-map}
use Rattle.std.proofs.lemmas.List.Elements.{All-cons, All-nil}
use Rattle.std.proofs.lemmas.Option.{get_or_from_slice_get, slice_get-get_or, slice_get_within}
use Rattle.ld_base.specs.Settings.{setting_fault}
use Rattle.ld_base.specs.declared.fields.Fields.{Fields}
use Rattle.ld_base.proofs.Accepted.{AreInRange-from_no_fault}
use Rattle.relay_core.specs.Log.{peers}
use Rattle.relay_core.proofs.Lists.{All-images, Rise, Rise-place, map-mapped}
use Rattle.line_journal.specs.Inside.{way_of}
use Rattle.line_journal.specs.LineHistory.{LineHistory}
use Rattle.line_journal.specs.Stations.{Way, ways}

-- the peers, the stations and the lines of so many stations
abbrev peers_of : ℕ → ℕ → List ℕ
peers_of n me = filter (λ station. nat_le station n && not (station == me)) (1 ∷ 2 ∷ 3 ∷ [])

abbrev ways_of : ℕ → List Way
ways_of n = flat_map (λ receiver. map (λ sender. record { from = sender; to = receiver }) (peers_of n receiver)) (filter (λ station. nat_le station n) (1 ∷ 2 ∷ 3 ∷ []))

-- a line goes from one station to another
pub record IsWay (n : ℕ) (w : Way) : Type 0 where
  pub from : (1 ≤ w.from) × (w.from ≤ n)
  pub to : (1 ≤ w.to) × (w.to ≤ n)
  pub differ : w.from ≢ w.to

three : (P : ℕ → Type 0) → P 1 → P 2 → P 3 → (k : ℕ) → 1 ≤ k → k ≤ 3 → P k
three P one two more zero least most = absurd (omega (arith, least))
three P one two more (suc zero) least most = one
three P one two more (suc (suc zero)) least most = two
three P one two more (suc (suc (suc zero))) least most = more
three P one two more (suc (suc (suc (suc k)))) least most = absurd (omega (arith, most))

abbrev goes : ℕ → ℕ → Way → Bool
goes from to w = (w.from == from) && (w.to == to)

-- the line from one station to another is among them, and the receiver is a peer of the sender
record Holds (n from to : ℕ) : Type 0 where
  line : is_some (find (goes from to) (ways_of n)) ≡ true
  peer : list_any (λ p. p == to) (peers_of n from) ≡ true

holds-two : (from to : ℕ) → 1 ≤ from → from ≤ 2 → 1 ≤ to → to ≤ 2 → from ≢ to → Holds 2 from to
holds-two from to least_from most_from least_to most_to =
    three (λ from. from ≤ 2 → from ≢ to → Holds 2 from to)
    (λ within. three (λ to. to ≤ 2 → 1 ≢ to → Holds 2 1 to) (λ w d. absurd (d refl)) (λ w d. record { line = refl; peer = refl })
    (λ w d. absurd (omega (arith, w))) to least_to (omega (arith, most_to)) most_to)
    (λ within. three (λ to. to ≤ 2 → 2 ≢ to → Holds 2 2 to) (λ w d. record { line = refl; peer = refl }) (λ w d. absurd (d refl))
    (λ w d. absurd (omega (arith, w))) to least_to (omega (arith, most_to)) most_to)
    (λ within differ. absurd (omega (arith, within)))
    from least_from (omega (arith, most_from)) most_from

holds-three : (from to : ℕ) → 1 ≤ from → from ≤ 3 → 1 ≤ to → to ≤ 3 → from ≢ to → Holds 3 from to
holds-three from to least_from most_from least_to most_to =
    three (λ from. from ≢ to → Holds 3 from to)
    (three (λ to. 1 ≢ to → Holds 3 1 to) (λ d. absurd (d refl)) (λ d. record { line = refl; peer = refl }) (λ d. record { line = refl; peer = refl }) to least_to most_to)
    (three (λ to. 2 ≢ to → Holds 3 2 to) (λ d. record { line = refl; peer = refl }) (λ d. absurd (d refl)) (λ d. record { line = refl; peer = refl }) to least_to most_to)
    (three (λ to. 3 ≢ to → Holds 3 3 to) (λ d. record { line = refl; peer = refl }) (λ d. record { line = refl; peer = refl }) (λ d. absurd (d refl)) to least_to most_to)
    from least_from most_from

-- the lines in order, as numbers
abbrev code : Way → ℕ
code w = 4 * w.to + w.from

-- what is known of the lines of so many stations
record AreWays (n : ℕ) : Type 0 where
  each : All (IsWay n) (ways_of n)
  rise : Rise 0 (map code (ways_of n))
  holds : (from to : ℕ) → 1 ≤ from → from ≤ n → 1 ≤ to → to ≤ n → from ≢ to → Holds n from to

-- tested one by one
abbrev is_way : ℕ → Way → Bool
is_way n w = nat_le 1 w.from && nat_le w.from n && nat_le 1 w.to && nat_le w.to n && not (w.from == w.to)

is_way-true : (n : ℕ) (w : Way) → is_way n w ≡ true → IsWay n w
is_way-true n w is =
    let last = and_parts _ (not (w.from == w.to)) is in
    let fourth = and_parts _ (nat_le w.to n) last.0 in
    let third = and_parts _ (nat_le 1 w.to) fourth.0 in
    let second = and_parts (nat_le 1 w.from) (nat_le w.from n) third.0 in
    record {
      from = (leb-true 1 w.from second.0, leb-true w.from n second.1);
      to = (leb-true 1 w.to third.1, leb-true w.to n fourth.1);
      differ = λ same. absurd (let apart = last.1 in let is_same = eq-eqb w.from w.to same in grind (arith, nat_tests));
    }

all-ways : (n : ℕ) (ws : List Way) → list_all (is_way n) ws ≡ true → All (IsWay n) ws
all-ways n [] is = All-nil (IsWay n)
all-ways n (w ∷ ws) is =
    let parts = and_parts (is_way n w) (list_all (is_way n) ws) is in
    All-cons (IsWay n) w ws (is_way-true n w parts.0) (all-ways n ws parts.1)

two-ways : AreWays 2
two-ways = record { each = all-ways 2 (ways_of 2) refl; rise = (omega arith, (omega arith, tt)); holds = holds-two }

three-ways : AreWays 3
three-ways = record {
  each = all-ways 3 (ways_of 3) refl;
  rise = (omega arith, (omega arith, (omega arith, (omega arith, (omega arith, (omega arith, tt))))));
  holds = holds-three;
}

are-ways : (f : Fields) → setting_fault f ≡ None → AreWays f.stations
are-ways f none = go f.stations (AreInRange-from_no_fault f none).stations
  where
    go : (n : ℕ) → (2 ≤ n) × (n ≤ 3) → AreWays n
    go zero within = absurd (omega (arith, within.0))
    go (suc zero) within = absurd (omega (arith, within.0))
    go (suc (suc zero)) within = two-ways
    go (suc (suc (suc zero))) within = three-ways
    go (suc (suc (suc (suc n)))) within = absurd (omega (arith, within.1))

module _ (f : Fields) (none : setting_fault f ≡ None) (histories : List LineHistory) (are : map way_of histories ≡ ways f) where
  -- each history is that of a line
  pub each-way : All (λ l. IsWay f.stations (way_of l)) histories
  each-way = All-images (IsWay f.stations) way_of histories (subst (All (IsWay f.stations)) (sym are) (are-ways f none).each)

  coded : (i : ℕ) (d : LineHistory) → i < length histories → slice_get (map (λ l. code (way_of l)) histories) i ≡ Some (code (way_of (get_or histories i d)))
  coded i d inside =
      slice_get-get_or (map (λ l. code (way_of l)) histories) i (code (way_of d)) (omega (arith, inside, length-map histories (λ l. code (way_of l))))
      ∙ ap (λ x. Some x) (get_or-map (λ l. code (way_of l)) histories i d (code (way_of d)) inside)

  -- and each line has one
  pub same-place : (i j : ℕ) (d e : LineHistory) → i < length histories → j < length histories → way_of (get_or histories i d) ≡ way_of (get_or histories j e) → i ≡ j
  same-place i j d e inside_i inside_j same =
      Rise-place 0 i j (code (way_of (get_or histories i d))) (map (λ l. code (way_of l)) histories)
      (subst (Rise 0) (sym (sym (map-mapped code way_of histories) ∙ ap (map code) are)) (are-ways f none).rise)
      (coded i d inside_i) (coded j e inside_j ∙ ap (λ w. Some (code w)) (sym same))

  -- the history of a line is found
  pub line-found : (from to : ℕ) → 1 ≤ from → from ≤ f.stations → 1 ≤ to → to ≤ f.stations → from ≢ to
      → is_some (find (λ l. (l.from == from) && (l.to == to)) histories) ≡ true
  line-found from to a b c d differ =
      mapped histories ∙ ap (λ ws. is_some (find (goes from to) ws)) are ∙ ((are-ways f none).holds from to a b c d differ).line
    where
      mapped : (ls : List LineHistory) → is_some (find (λ l. (l.from == from) && (l.to == to)) ls) ≡ is_some (find (goes from to) (map way_of ls))
      mapped [] = refl
      mapped (l ∷ ls) = elim (cases_Bool ((l.from == from) && (l.to == to))) [
        | inl hit ↦ rw hit refl
        | inr miss ↦ rw miss (mapped ls)
      ]

  -- the receiver is a peer of the sender
  pub peer-found : (from to : ℕ) → 1 ≤ from → from ≤ f.stations → 1 ≤ to → to ≤ f.stations → from ≢ to → list_any (λ p. p == to) (peers f from) ≡ true
  peer-found from to a b c d differ = ((are-ways f none).holds from to a b c d differ).peer

  -- the history at the place of a line
  pub history-at : (i : ℕ) (w : Way) (d : LineHistory) → slice_get (ways f) i ≡ Some w → (way_of (get_or histories i d) ≡ w) × (i < length histories)
  history-at i w d at =
      let here : slice_get (map way_of histories) i ≡ Some w = ap (λ ws. slice_get ws i) are ∙ at in
      let inside : i < length histories = omega (arith, slice_get_within (map way_of histories) i w here, length-map histories way_of) in
      (sym (get_or-map way_of histories i d (way_of d) inside) ∙ get_or_from_slice_get (map way_of histories) i w (way_of d) here, inside)
