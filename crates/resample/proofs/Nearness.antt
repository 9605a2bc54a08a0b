-- An own sample and the instant between two of a peer's to which its weight puts it: first each of the peer's samples is bound to the
-- own one by an exchange, then both are weighed.
use Rattle.std.specs.Prelude.{pos, ◌-ℤ◌, ◌+ℤ◌}
use Rattle.std.specs.Int.{abs_diff}
use Rattle.std.proofs.Common.{◌≡◌, ℕ, ◌+◌, ◌-◌, ◌*◌, ◌/◌, ◌≤◌, inl, inr, arith}
use Rattle.std.proofs.lemmas.Int.{ints}
use Rattle.std.proofs.Math.Nat.{mul-le-mul_left}
use Rattle.pingpong.specs.Bounded.{Passage, asymmetry, stamps}
use Rattle.pingpong.specs.Exchange.{estimate2}
use Rattle.pingpong.specs.Reading.{Reading, WithinDrift, SameClock, stamp}
use Rattle.resample.specs.Between.{weight}
use Rattle.resample.specs.Instants.{AreMixed, mixed_error, mixed_bound, age_of_mixed}
use Rattle.resample.proofs.OwnNumbers.{weight-distance, weight-below}

-- two readings of one clock rise alike but for a drift
record IsAlike (a b : Reading) (most : ℕ) : Type 0 where
  above : a.phase + 1000000 * b.time ≤ b.phase + 1000000 * a.time + most
  below : b.phase + 1000000 * a.time ≤ a.phase + 1000000 * b.time + most

in_turn : (drift : ℕ) (a b : Reading) (age : ℕ) → b.time - a.time ≤ age → WithinDrift drift a b → IsAlike a b (drift * age)
in_turn drift a b age young within =
    let most = mul-le-mul_left drift young in
    record { above = omega (arith, within.most, within.least, within.order); below = omega (arith, within.most, within.least, within.order) }

alike : (drift : ℕ) (a b : Reading) (age : ℕ) → b.time - a.time ≤ age → a.time - b.time ≤ age → SameClock drift a b → IsAlike a b (drift * age)
alike drift a b age before behind (inl within) = in_turn drift a b age before within
alike drift a b age before behind (inr within) = let other = in_turn drift b a age behind within in record { above = other.below; below = other.above }

-- an instant u lies `plus` half ticks less `minus` behind another one, v, but for an error
record LiesBehind (u v plus minus most : ℕ) : Type 0 where
  above : 2 * 1000000 * u + 1000000 * minus ≤ 2 * 1000000 * v + 1000000 * plus + most
  below : 2 * 1000000 * v + 1000000 * plus ≤ 2 * 1000000 * u + 1000000 * minus + most

-- the own readings a (sent), d (back) and u (sample), and the peer's b (came), c (turned) and v (sample): u lies behind v by twice the
-- own stamp less the peer's, and by twice the offset
behind : (a b c d u v : Reading) (n m most : ℕ) → IsAlike a u most → IsAlike d u most → IsAlike b v most → IsAlike c v most
    → a.time ≤ b.time → c.time ≤ d.time
    → n ≤ u.phase / 1000000 → u.phase / 1000000 ≤ n + 1 → m ≤ v.phase / 1000000 → v.phase / 1000000 ≤ m + 1
    → LiesBehind u.time v.time (2 * n + b.phase / 1000000 + c.phase / 1000000) (2 * m + a.phase / 1000000 + d.phase / 1000000)
    (1000000 * (abs_diff (b.time - a.time) (d.time - c.time) + 6) + 4 * most)
behind a b c d u v n m most au du bv cv ab cd un un1 vm vm1 = record { above = omega arith; below = omega arith }

-- both weighed
weighed : (u v1 v2 x w most : ℕ) → LiesBehind u v1 w 0 most → LiesBehind u v2 w (x + w) most
    → 2 * 1000000 * abs_diff ((x + w) * u) (v1 * x + v2 * w) ≤ (x + w) * most
weighed u v1 v2 x w most one other =
    let one_above = mul-le-mul_left x one.above in
    let one_below = mul-le-mul_left x one.below in
    let other_above = mul-le-mul_left w other.above in
    let other_below = mul-le-mul_left w other.below in
    omega arith

-- the weight without signs
weight-read : (spacing n first a b c d w : ℕ)
    → pos w ≡ (pos (2 * n * spacing) -ℤ pos (2 * first * spacing)) +ℤ ((pos b -ℤ pos a) +ℤ (pos c -ℤ pos d))
    → 2 * (n * spacing) + b + c ≡ 2 * (first * spacing) + a + d + w
weight-read spacing n first a b c d w is = omega (arith, ints)

by_weight : (u v plus minus w most : ℕ) → plus ≡ minus + w → LiesBehind u v plus minus most → LiesBehind u v w 0 most
by_weight u v plus minus w most is lies = record { above = omega (arith, lies.above); below = omega (arith, lies.below) }

by_rest : (u v plus minus w whole most : ℕ) → plus + whole ≡ minus + w → LiesBehind u v plus minus most → LiesBehind u v w whole most
by_rest u v plus minus w whole most is lies = record { above = omega (arith, lies.above); below = omega (arith, lies.below) }

next : (spacing first a b c d n w : ℕ) → 2 * (n * spacing) + b + c ≡ 2 * (first * spacing) + a + d + w
    → 2 * (n * spacing) + b + c + 2 * spacing ≡ 2 * ((first + 1) * spacing) + a + d + w
next spacing first a b c d n w is = omega arith

pub mixed-near : (spacing drift : ℕ) (p : Passage) (own one other : Reading) (n first now : ℕ) → AreMixed spacing drift p own one other n first now
    → mixed_error spacing (weight spacing first (estimate2 (stamps p)) n) own.time one.time other.time
    ≤ mixed_bound spacing drift (asymmetry p) (age_of_mixed p.sent.time own.time one.time now)
mixed-near spacing drift p own one other n first now are = bounded
  where
    age : ℕ
    age = age_of_mixed p.sent.time own.time one.time now

    w : ℕ
    w = weight spacing first (estimate2 (stamps p)) n

    rest : ℕ
    rest = 2 * spacing - w

    most : ℕ
    most = 1000000 * (asymmetry p + 6) + 4 * (drift * age)

    whole : rest + w ≡ 2 * spacing
    whole = let inside = weight-below spacing first (estimate2 (stamps p)) n are.between in omega (arith, inside)

    is_weight : 2 * (n * spacing) + stamp p.came + stamp p.turned ≡ 2 * (first * spacing) + stamp p.sent + stamp p.back + w
    is_weight = weight-read spacing n first (stamp p.sent) (stamp p.came) (stamp p.turned) (stamp p.back) w (weight-distance spacing first (estimate2 (stamps p)) n are.between)

    own_sent : IsAlike p.sent own (drift * age)
    own_sent = let order = are.order in alike drift p.sent own age (omega arith) (omega arith) are.own_sent

    own_back : IsAlike p.back own (drift * age)
    own_back = let order = are.order in alike drift p.back own age (omega arith) (omega arith) are.own_back

    behind_one : LiesBehind own.time one.time w 0 most
    behind_one =
        let order = are.order in
        by_weight own.time one.time _ _ w most is_weight
        (behind p.sent p.came p.turned p.back own one (n * spacing) (first * spacing) (drift * age) own_sent own_back
        (alike drift p.came one age (omega arith) (omega arith) are.one_came)
        (alike drift p.turned one age (omega arith) (omega arith) are.one_turned)
        order.there order.home are.own_sample.since are.own_sample.until are.one_sample.since are.one_sample.until)

    behind_other : LiesBehind own.time other.time w (2 * spacing) most
    behind_other =
        let order = are.order in
        by_rest own.time other.time _ _ w (2 * spacing) most (next spacing first (stamp p.sent) (stamp p.came) (stamp p.turned) (stamp p.back) n w is_weight)
        (behind p.sent p.came p.turned p.back own other (n * spacing) ((first + 1) * spacing) (drift * age) own_sent own_back
        (alike drift p.came other age (omega arith) (omega arith) are.other_came)
        (alike drift p.turned other age (omega arith) (omega arith) are.other_turned)
        order.there order.home are.own_sample.since are.own_sample.until are.other_sample.since are.other_sample.until)

    bounded : mixed_error spacing w own.time one.time other.time ≤ mixed_bound spacing drift (asymmetry p) age
    bounded =
        let close = weighed own.time one.time other.time rest w most behind_one (rw whole behind_other) in
        let close = rw whole at close in
        omega (arith, close)
