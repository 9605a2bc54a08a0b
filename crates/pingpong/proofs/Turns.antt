-- Rates whose beginnings never fall.
use Rattle.std.specs.List.Sorted.{IsNonDecreasingBy}
use Rattle.std.proofs.Common.{◌≡◌, ℕ, ◌+◌, ◌-◌, ◌<◌, ◌≤◌, min, List, length, take, get_or, length-take-le, ap, sym, arith}
use Rattle.std.proofs.lemmas.List.{get_or-take, get_or_default, take_more}
use Rattle.std.proofs.lemmas.List.Sorted.{IsNonDecreasingBy-push}
use Rattle.pingpong.specs.declared.clock.RateFrom.{RateFrom}

-- no entry begins before the one before it
pub in_turn-next : (rates : List RateFrom) (i until end : ℕ) (d e : RateFrom) → IsNonDecreasingBy (λ r. r.from) rates
    → until ≡ min (get_or rates i d).from end → i + 1 < length rates → until ≤ (get_or rates (i + 1) e).from
in_turn-next rates i until end d e turn is inside =
    let same : (get_or rates i d).from ≡ (get_or rates i e).from = ap (λ (r : RateFrom). r.from) (get_or_default rates i d e (omega arith)) in
    omega (arith, turn i (i + 1) e (omega arith) inside, same)

-- entries in turn, and one entry more that isn't before the last
pub in_turn-more : (rates : List RateFrom) (i last : ℕ) (d : RateFrom) → i < length rates
    → IsNonDecreasingBy (λ r. r.from) (take i rates) → ((d : RateFrom) → 0 < i → last ≡ (get_or rates (i - 1) d).from)
    → last ≤ (get_or rates i d).from → IsNonDecreasingBy (λ r. r.from) (take (i + 1) rates)
in_turn-more rates i last d inside turn is_last later =
    rw (take_more rates i d inside) (IsNonDecreasingBy-push (λ r. r.from) (take i rates) (get_or rates i d) turn before)
  where
    before : (e : RateFrom) → 0 < length (take i rates) → (get_or (take i rates) (length (take i rates) - 1) e).from ≤ (get_or rates i d).from
    before e some =
        let long : length (take i rates) ≡ i = length-take-le i rates (omega arith) in
        let some = rw long at some in
        rw (long, get_or-take i rates (i - 1) e (omega arith), sym (is_last e some)) later

-- the last of the entries so far is the one just read
pub last-more : (rates : List RateFrom) (i : ℕ) (d e : RateFrom) → i < length rates → (get_or rates i d).from ≡ (get_or rates (i + 1 - 1) e).from
last-more rates i d e inside =
    let here : i + 1 - 1 ≡ i = omega arith in
    rw here (ap (λ (r : RateFrom). r.from) (get_or_default rates i d e inside))
