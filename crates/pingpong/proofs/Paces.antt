-- What a tick gains by the rates that a hand has passed.
use Rattle.std.specs.Prelude.{ℤ, pos, unsigned_abs, fold, All, suc}
use Rattle.std.specs.List.Sorted.{IsNonDecreasingBy}
use Rattle.std.proofs.Common.{◌≡◌, ℕ, ◌+◌, ◌<◌, ◌≤◌, List, [], ◌∷◌, length, take, get_or, drop, length-drop, take-append-drop, refl, ap, sym, ◌∙◌, arith}
use Rattle.std.proofs.lemmas.Bool.Decides.{nat_tests}
use Rattle.std.proofs.lemmas.List.{get_or-drop, get_or_default}
use Rattle.std.proofs.lemmas.List.Elements.{All-take}
use Rattle.std.proofs.lemmas.List.Sums.{fold-append}
use Rattle.pingpong.specs.Clock.{rate_at, gain}
use Rattle.pingpong.specs.Hand.{IsPace}
use Rattle.pingpong.specs.declared.clock.RateFrom.{RateFrom}
use Rattle.pingpong.proofs.Gains.{AreWithin, chosen, gain-most, rate_at-within}

-- entries that have not begun don't count
fold_ahead : (tick : ℕ) (rate : ℤ) (rates : List RateFrom) → All (λ r. tick < r.from) rates → fold (chosen tick) rate rates ≡ rate
fold_ahead tick rate [] ahead = refl
fold_ahead tick rate (r ∷ rates) ahead =
    let here : tick < r.from = ahead 0 r (omega arith) in
    let kept : chosen tick rate r ≡ rate = grind (arith, nat_tests) in
    rw kept (fold_ahead tick rate rates (λ k d inside. ahead (suc k) d (omega arith)))

pub rate_at-take : (tick i : ℕ) (rates : List RateFrom) → i ≤ length rates → IsNonDecreasingBy (λ r. r.from) rates
    → ((d : RateFrom) → i < length rates → tick < (get_or rates i d).from) → rate_at rates tick ≡ rate_at (take i rates) tick
rate_at-take tick i rates inside turn ahead =
    ap (λ rates. rate_at rates tick) (sym (take-append-drop i rates))
    ∙ fold-append (chosen tick) (pos 0) (take i rates) (drop i rates)
    ∙ fold_ahead tick (rate_at (take i rates) tick) (drop i rates) later
  where
    later : All (λ r. tick < r.from) (drop i rates)
    later k d within =
        let there : i + k < length rates = omega (arith, length-drop i rates) in
        let first = ahead d (omega arith) in
        rw (get_or-drop i rates k d) (omega (arith, turn i (i + k) d (omega arith) there))

-- the pace at a time is the gain in that tick, where no further rate has begun, and never more than this
pub IsPace-now : (rates : List RateFrom) (time passed gained : ℕ) (e : RateFrom) → IsPace rates time passed gained → IsNonDecreasingBy (λ r. r.from) rates
    → passed < length rates → time < (get_or rates passed e).from → gained ≡ gain (rate_at rates time)
IsPace-now rates time passed gained e pace turn inside ahead =
    let later = λ (d : RateFrom) (within : passed < length rates).
    let there : time < (get_or rates passed d).from = rw (get_or_default rates passed e d within) at ahead in there in
    pace.gains time (omega arith) ∙ ap gain (sym (rate_at-take time passed rates pace.inside turn later))

pub IsPace-most : (rates : List RateFrom) (time passed gained : ℕ) → IsPace rates time passed gained → AreWithin 200 rates → gained ≤ 1000200
IsPace-most rates time passed gained pace all =
    let small = gain-most 200 (rate_at (take passed rates) time) (rate_at-within 200 time (take passed rates) (All-take (λ r. unsigned_abs r.rate ≤ 200) passed rates all)) in
    omega (arith, pace.gains time (omega arith))
