-- How old an own sample is at the entry that judges it, and how far the samples of two peers are apart.
use Rattle.std.specs.Int.{abs_diff}
use Rattle.std.proofs.Common.{◌≡◌, ℕ, ◌+◌, ◌-◌, ◌*◌, ◌<◌, ◌≤◌, ap, arith}
use Rattle.pingpong.specs.Reading.{Reading, WithinDrift, stamp}

slow : (drift least limit since : ℕ) (earlier later : Reading) → least + drift ≡ 1000000 → WithinDrift drift earlier later → since ≤ stamp earlier → stamp later < since + limit
    → least * (later.time - earlier.time) < 1000000 * limit
slow drift least limit since earlier later are within first last =
    let gains : (least + drift) * (later.time - earlier.time) ≡ 1000000 * (later.time - earlier.time) = ap (λ gain. gain * (later.time - earlier.time)) are in
    omega (arith, gains, within.least, within.order)

-- a clock that gains a million millionths in a tick, and at most `drift` less, shows less than `limit` ticks more
pub youth : (drift limit since : ℕ) (earlier later : Reading) → drift ≤ 1000000 → WithinDrift drift earlier later → since ≤ stamp earlier → stamp later < since + limit
    → (1000000 - drift) * (later.time - earlier.time) < 1000000 * limit
youth drift limit since earlier later small within first last = slow drift (1000000 - drift) limit since earlier later (omega arith) within first last

-- two that are near a third are near each other
pub triangle : (own one other first second : ℕ) → 2 * 1000000 * abs_diff own one ≤ first → 2 * 1000000 * abs_diff own other ≤ second
    → 2 * 1000000 * abs_diff one other ≤ first + second
triangle own one other first second near far = omega arith
