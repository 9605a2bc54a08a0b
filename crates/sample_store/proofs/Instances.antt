-- Two samples that an exchange aligns: each clock's readings are bound together, and the two clocks by the alignment.
use Rattle.std.specs.Prelude.{pos, ◌-ℤ◌, ◌+ℤ◌}
use Rattle.std.specs.Int.{abs_diff}
use Rattle.std.proofs.Common.{ℕ, ◌+◌, ◌-◌, ◌*◌, ◌/◌, ◌≤◌, ◌<◌, inl, inr, arith}
use Rattle.std.proofs.lemmas.Int.{ints}
use Rattle.std.proofs.Math.Nat.{mul-le-mul_left}
use Rattle.pingpong.specs.Bounded.{Passage}
use Rattle.pingpong.specs.Reading.{Reading, WithinDrift, SameClock}
use Rattle.sample_store.specs.Aligned.{IsAligned}
use Rattle.sample_store.specs.Instants.{AreAligned, AreNear, age_of_all}

-- two readings of one clock rise alike but for a drift
record IsAlike (a b : Reading) (most : ℕ) : Type 0 where
  above : a.phase + 1000000 * b.time ≤ b.phase + 1000000 * a.time + most
  below : b.phase + 1000000 * a.time ≤ a.phase + 1000000 * b.time + most

in_turn : (drift : ℕ) (a b : Reading) (age : ℕ) → b.time - a.time ≤ age → WithinDrift drift a b → IsAlike a b (drift * age)
in_turn drift a b age young within =
    let most = mul-le-mul_left drift young in
    record { above = omega (arith, within.most, within.least, within.order); below = omega (arith, within.most, within.least, within.order) }

alike : (drift : ℕ) (a b : Reading) (age : ℕ) → b.time - a.time ≤ age → a.time - b.time ≤ age → SameClock drift a b → IsAlike a b (drift * age)
alike drift a b age before behind (inl within) = in_turn drift a b age before within
alike drift a b age before behind (inr within) = let other = in_turn drift b a age behind within in record { above = other.below; below = other.above }

-- the own readings a (sent), d (back) and u (sample), and the peer's b (came), c (turned) and v (sample)
near : (a b c d u v : Reading) (spacing n m most : ℕ) → IsAlike a u most → IsAlike d u most → IsAlike b v most → IsAlike c v most
    → a.time ≤ b.time → c.time ≤ d.time
    → n ≤ u.phase / 1000000 → u.phase / 1000000 ≤ n + 1 → m ≤ v.phase / 1000000 → v.phase / 1000000 ≤ m + 1
    → 2 * m + a.phase / 1000000 + d.phase / 1000000 < 2 * n + b.phase / 1000000 + c.phase / 1000000 + spacing
    → 2 * n + b.phase / 1000000 + c.phase / 1000000 ≤ 2 * m + a.phase / 1000000 + d.phase / 1000000 + spacing
    → 2 * 1000000 * abs_diff u.time v.time ≤ 1000000 * (spacing + abs_diff (b.time - a.time) (d.time - c.time) + 6) + 4 * most
near a b c d u v spacing n m most au du bv cv ab cd un un1 vm vm1 low high = omega arith

-- the alignment without signs
record AreHalves (spacing n m a b c d : ℕ) : Type 0 where
  low : 2 * m + a + d < 2 * n + b + c + spacing
  high : 2 * n + b + c ≤ 2 * m + a + d + spacing

halves : (spacing n m a b c d : ℕ) → IsAligned spacing m ((pos b -ℤ pos a) +ℤ (pos c -ℤ pos d)) (pos n)
    → AreHalves spacing (n * spacing) (m * spacing) a b c d
halves spacing n m a b c d aligned = record { low = omega (arith, ints); high = omega (arith, ints) }

pub AreNear-aligned : (spacing drift : ℕ) (p : Passage) (own peer : Reading) (n m now : ℕ) → AreAligned spacing drift p own peer n m now
    → AreNear spacing drift p own peer now
AreNear-aligned spacing drift p own peer n m now are =
    let age = age_of_all p own peer now in
    let order = are.order in
    let by = halves spacing n m _ _ _ _ are.aligned in
    let close = near p.sent p.came p.turned p.back own peer spacing (n * spacing) (m * spacing) (drift * age)
    (alike drift p.sent own age (omega arith) (omega arith) are.own_sent)
    (alike drift p.back own age (omega arith) (omega arith) are.own_back)
    (alike drift p.came peer age (omega arith) (omega arith) are.peer_came)
    (alike drift p.turned peer age (omega arith) (omega arith) are.peer_turned)
    order.there order.home are.own_sample.since are.own_sample.until are.peer_sample.since are.peer_sample.until by.low by.high in
    omega (arith, close)
