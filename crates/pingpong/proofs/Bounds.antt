-- The bound of one exchange, first in whole numbers without a sign: by the phases of its four readings, how long before now they
-- were read, and the drift since each.
use Rattle.std.specs.Prelude.{pos, ◌-ℤ◌, ◌+ℤ◌, ◌*ℤ◌, unsigned_abs}
use Rattle.std.specs.Int.{abs_diff}
use Rattle.std.proofs.Common.{◌≡◌, ℕ, ◌+◌, ◌-◌, ◌*◌, ◌/◌, ◌≤◌, arith}
use Rattle.std.proofs.lemmas.Int.{ints}
use Rattle.std.proofs.Math.Nat.{mul-le-mul_left}
use Rattle.pingpong.specs.Bounded.{Passage, IsPassage, Bounded}
use Rattle.pingpong.specs.Reading.{Reading, WithinDrift}

-- a reading's phase, its age, and the drift since then, seen from a phase of now
record IsSeen (phase age drift now : ℕ) : Type 0 where
  most : now ≤ phase + (1000000 * age + drift)
  least : phase + 1000000 * age ≤ now + drift

seen : (drift : ℕ) (earlier later : Reading) → WithinDrift drift earlier later
    → IsSeen earlier.phase (later.time - earlier.time) (drift * (later.time - earlier.time)) later.phase
seen drift earlier later within = record { most = omega (arith, within.most); least = within.least }

-- the two estimates of an offset differ by no more than this
record IsWithin (high low most : ℕ) : Type 0 where
  above : high ≤ low + most
  below : low ≤ high + most

-- the phases a, b, c and d of an exchange, of the ages h, i, j and k
within : (a b c d own peer h i j k ah bi cj dk : ℕ) → i ≤ h → j ≤ i → k ≤ j → bi ≤ ah → cj ≤ bi → dk ≤ cj
    → IsSeen a h ah own → IsSeen b i bi peer → IsSeen c j cj peer → IsSeen d k dk own
    → IsWithin (1000000 * (b / 1000000) + 1000000 * (c / 1000000) + 2 * own) (1000000 * (a / 1000000) + 1000000 * (d / 1000000) + 2 * peer)
    (1000000 * abs_diff (h - i) (j - k) + 4 * ah + 2000000)
within a b c d own peer h i j k ah bi cj dk hi ij jk abi bcj cdk sa sb sc sd = record { above = omega arith; below = omega arith }

-- the same with signs
signed : (a b c d own peer most : ℕ)
    → IsWithin (1000000 * b + 1000000 * c + 2 * own) (1000000 * a + 1000000 * d + 2 * peer) most
    → unsigned_abs ((pos 1000000 *ℤ ((pos b -ℤ pos a) +ℤ (pos c -ℤ pos d))) -ℤ (pos 2 *ℤ (pos peer -ℤ pos own))) ≤ most
signed a b c d own peer most near = omega (arith, ints)

-- between two moments lies the difference of their ages
ages : (first second now : ℕ) → first ≤ second → second ≤ now → (now - first) - (now - second) ≡ second - first
ages first second now order past = omega arith

younger : (first second now : ℕ) → first ≤ second → now - second ≤ now - first
younger first second now order = omega arith

drifts : (drift first second now : ℕ) → first ≤ second → drift * (now - second) ≤ drift * (now - first)
drifts drift first second now order = mul-le-mul_left drift (younger first second now order)

pub Bounded-passage : (drift : ℕ) (p : Passage) (own peer : Reading) → IsPassage drift p own peer → Bounded drift p own peer
Bounded-passage drift p own peer holds =
    let now = own.time in
    let came = rw (← holds.now) at (seen drift p.came peer holds.peer_since_came) in
    let turned = rw (← holds.now) at (seen drift p.turned peer holds.peer_since_turned) in
    let near = within _ _ _ _ own.phase peer.phase _ _ _ _ _ _ _ _
    (younger _ _ now holds.order.there) (younger _ _ now holds.order.held) (younger _ _ now holds.order.home)
    (drifts drift _ _ now holds.order.there) (drifts drift _ _ now holds.order.held) (drifts drift _ _ now holds.order.home)
    (seen drift p.sent own holds.own_since_sent) came turned (seen drift p.back own holds.own_since_back) in
    let there = ages p.sent.time p.came.time now holds.order.there (omega (arith, holds.own_since_back.order)) in
    let home = ages p.turned.time p.back.time now holds.order.home holds.own_since_back.order in
    let near = rw (there, home) at near in
    omega (arith, signed _ _ _ _ own.phase peer.phase _ near)
