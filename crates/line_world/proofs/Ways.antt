-- The directed lines of a scenario: what is so of each of them, for two stations and for three.
use Rattle.std.proofs.Common.{◌≡◌, ◌≢◌, ℕ, zero, suc, ◌≤◌, Bool, true, false, ◌&&◌, not, cond, List, [], ◌∷◌, length, map, refl, arith}
use Rattle.std.specs.Prelude.{◌==◌, nat_le, if◌then◌else◌, filter}
use Rattle.std.specs.List.{flat_map, list_all, list_any}
use Rattle.std.proofs.lemmas.Bool.{and_parts, eqb-false, le-leb, leb-true, not-true}
use Rattle.ld_base.specs.declared.fields.Fields.{Fields}
use Rattle.relay_core.specs.Log.{peers}
use Rattle.waveform_reader.specs.Sound.{IsStation}
use Rattle.line_world.specs.Occasions.{Occasion}
use Rattle.line_journal.specs.Stations.{Way, ways}
use Rattle.line_world.specs.Occasions.Occasion.{departure}

-- whether a line goes from one station to another
abbrev pub is_way : ℕ → ℕ → Way → Bool
is_way from to way = (way.from == from) && (way.to == to)

-- no line stands twice among some
abbrev pub are_apart : List Way → Bool
are_apart [] = true
are_apart (way ∷ others) = not (list_any (is_way way.from way.to) others) && are_apart others

-- the peers of a station, and the lines, by which stations there are
abbrev peers_in : (ℕ → Bool) → ℕ → List ℕ
peers_in there me = filter (λ station. there station && not (station == me)) (1 ∷ 2 ∷ 3 ∷ [])

abbrev ways_in : (ℕ → Bool) → List Way
ways_in there = flat_map (λ receiver. map (λ sender. record { from = sender; to = receiver }) (peers_in there receiver)) (filter there (1 ∷ 2 ∷ 3 ∷ []))

abbrev three : Bool → Bool → Bool → ℕ → Bool
three first second third station = if station == 1 then first else if station == 2 then second else third

abbrev ways_of : Bool → Bool → Bool → List Way
ways_of first second third = ways_in (three first second third)

apart_of : (first second third : Bool) → are_apart (ways_of first second third) ≡ true
apart_of false false false = refl
apart_of false false true = refl
apart_of false true false = refl
apart_of false true true = refl
apart_of true false false = refl
apart_of true false true = refl
apart_of true true false = refl
apart_of true true true = refl

pub ways_apart : (f : Fields) → are_apart (ways f) ≡ true
ways_apart f = apart_of (nat_le 1 f.stations) (nat_le 2 f.stations) (nat_le 3 f.stations)

-- a line goes between two stations, of which one is a peer of the other
abbrev pub joins : (ℕ → Bool) → Way → Bool
joins there way =
    ((nat_le 1 way.from && there way.from) && (nat_le 1 way.to && there way.to))
    && (not (way.from == way.to) && list_any (λ peer. peer == way.to) (peers_in there way.from))

joins_of : (there : ℕ → Bool) (first second third : Bool) → there 1 ≡ first → there 2 ≡ second → there 3 ≡ third
    → list_all (joins there) (ways_of first second third) ≡ true
joins_of there false false false e1 e2 e3 = refl
joins_of there false false true e1 e2 e3 = refl
joins_of there false true false e1 e2 e3 = refl
joins_of there false true true e1 e2 e3 = simp (e1, e2, e3)
joins_of there true false false e1 e2 e3 = refl
joins_of there true false true e1 e2 e3 = simp (e1, e2, e3)
joins_of there true true false e1 e2 e3 = simp (e1, e2, e3)
joins_of there true true true e1 e2 e3 = simp (e1, e2, e3)

pub ways_join : (f : Fields) → list_all (joins (λ station. nat_le station f.stations)) (ways f) ≡ true
ways_join f = joins_of (λ station. nat_le station f.stations) (nat_le 1 f.stations) (nat_le 2 f.stations) (nat_le 3 f.stations) refl refl refl

-- so it does where that was tested
pub record Joins (f : Fields) (way : Way) : Type 0 where
  pub from_there : IsStation f.stations way.from
  pub to_there : IsStation f.stations way.to
  pub differ : way.from ≢ way.to
  pub is_peer : list_any (λ peer. peer == way.to) (peers f way.from) ≡ true

pub joined_by : (f : Fields) (way : Way) → joins (λ station. nat_le station f.stations) way ≡ true → Joins f way
joined_by f way test =
    let ends = (nat_le 1 way.from && nat_le way.from f.stations) && (nat_le 1 way.to && nat_le way.to f.stations) in
    let rest = not (way.from == way.to) && list_any (λ peer. peer == way.to) (peers f way.from) in
    let both = and_parts ends rest test in
    let two = and_parts (nat_le 1 way.from && nat_le way.from f.stations) (nat_le 1 way.to && nat_le way.to f.stations) both.0 in
    let from = and_parts (nat_le 1 way.from) (nat_le way.from f.stations) two.0 in
    let to = and_parts (nat_le 1 way.to) (nat_le way.to f.stations) two.1 in
    let apart = and_parts (not (way.from == way.to)) (list_any (λ peer. peer == way.to) (peers f way.from)) both.1 in
    record {
      from_there = (leb-true 1 way.from from.0, leb-true way.from f.stations from.1);
      to_there = (leb-true 1 way.to to.0, leb-true way.to f.stations to.1);
      differ = eqb-false way.from way.to (not-true (way.from == way.to) apart.0);
      is_peer = apart.1;
    }

-- the frames that a station sends on these lines
abbrev pub frames_on : ℕ → List Way → List Occasion
frames_on sender ways = flat_map (λ way. if way.from == sender then departure sender way.to ∷ [] else []) ways

sends_of : (first second third : Bool) (sender : ℕ) → sender ≤ 3 → 1 ≤ sender → three first second third sender ≡ true
    → frames_on sender (ways_of first second third) ≡ map (departure sender) (peers_in (three first second third) sender)
sends_of first second third zero small large there = absurd (omega arith)
sends_of false second third (suc zero) small large there = absurd (cc)
sends_of true false false (suc zero) small large there = refl
sends_of true false true (suc zero) small large there = refl
sends_of true true false (suc zero) small large there = refl
sends_of true true true (suc zero) small large there = refl
sends_of first false third (suc (suc zero)) small large there = absurd (cc)
sends_of false true false (suc (suc zero)) small large there = refl
sends_of false true true (suc (suc zero)) small large there = refl
sends_of true true false (suc (suc zero)) small large there = refl
sends_of true true true (suc (suc zero)) small large there = refl
sends_of first second false (suc (suc (suc zero))) small large there = absurd (cc)
sends_of false false true (suc (suc (suc zero))) small large there = refl
sends_of false true true (suc (suc (suc zero))) small large there = refl
sends_of true false true (suc (suc (suc zero))) small large there = refl
sends_of true true true (suc (suc (suc zero))) small large there = refl
sends_of first second third (suc (suc (suc (suc n)))) small large there = absurd (omega arith)

pub ways_send : (f : Fields) (sender : ℕ) → sender ≤ 3 → 1 ≤ sender → sender ≤ f.stations
    → frames_on sender (ways f) ≡ map (departure sender) (peers f sender)
ways_send f zero small large there = absurd (omega arith)
ways_send f (suc zero) small large there = sends_of (nat_le 1 f.stations) (nat_le 2 f.stations) (nat_le 3 f.stations) 1 small large (le-leb 1 f.stations there)
ways_send f (suc (suc zero)) small large there = sends_of (nat_le 1 f.stations) (nat_le 2 f.stations) (nat_le 3 f.stations) 2 small large (le-leb 2 f.stations there)
ways_send f (suc (suc (suc zero))) small large there = sends_of (nat_le 1 f.stations) (nat_le 2 f.stations) (nat_le 3 f.stations) 3 small large (le-leb 3 f.stations there)
ways_send f (suc (suc (suc (suc n)))) small large there = absurd (omega arith)

few_of_tests : (first second : Bool) (a b : ℕ) → length (cond first (a ∷ cond second (b ∷ []) []) (cond second (b ∷ []) [])) ≤ 2
few_of_tests false false a b = omega arith
few_of_tests false true a b = omega arith
few_of_tests true false a b = omega arith
few_of_tests true true a b = omega arith

-- a station has at most two peers
pub peers_few : (f : Fields) (me : ℕ) → me ≤ 3 → 1 ≤ me → length (peers f me) ≤ 2
peers_few f zero small large = absurd (omega arith)
peers_few f (suc zero) small large = few_peers (nat_le 1 f.stations) (nat_le 2 f.stations) (nat_le 3 f.stations)
  where
    few_peers : (first second third : Bool) → length (peers_in (three first second third) 1) ≤ 2
    few_peers false second third = few_of_tests (second && true) (third && true) 2 3
    few_peers true second third = few_of_tests (second && true) (third && true) 2 3
peers_few f (suc (suc zero)) small large = few_peers (nat_le 1 f.stations) (nat_le 2 f.stations) (nat_le 3 f.stations)
  where
    few_peers : (first second third : Bool) → length (peers_in (three first second third) 2) ≤ 2
    few_peers first false third = few_of_tests (first && true) (third && true) 1 3
    few_peers first true third = few_of_tests (first && true) (third && true) 1 3
peers_few f (suc (suc (suc zero))) small large = few_peers (nat_le 1 f.stations) (nat_le 2 f.stations) (nat_le 3 f.stations)
  where
    few_peers : (first second third : Bool) → length (peers_in (three first second third) 3) ≤ 2
    few_peers first second false = few_of_tests (first && true) (second && true) 1 2
    few_peers first second true = few_of_tests (first && true) (second && true) 1 2
peers_few f (suc (suc (suc (suc n)))) small large = absurd (omega arith)
