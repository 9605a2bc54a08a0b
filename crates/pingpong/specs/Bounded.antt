-- Bounded: how far the estimate of one exchange can be from the true offset.
use Rattle.std.specs.Prelude.{◌≡◌, ℕ, ◌+◌, ◌-◌, ◌*◌, ◌≤◌, pos, ◌-ℤ◌, ◌*ℤ◌, unsigned_abs}
use Rattle.std.specs.Int.{abs_diff}
use Rattle.pingpong.specs.Exchange.{Stamps, estimate2}
use Rattle.pingpong.specs.Reading.{Reading, stamp, offset, WithinDrift}

-- an exchange as true time sees it: the own clock when the first message was sent, the peer's when it came and when the peer
-- turned round with the second message, and the own one when that came back
pub record Passage : Type 0 where
  pub sent : Reading
  pub came : Reading
  pub turned : Reading
  pub back : Reading

-- the stamps of its exchange
abbrev pub stamps : Passage → Stamps
stamps p = record { a1 = stamp p.sent; b2 = stamp p.came; b3 = stamp p.turned; a4 = stamp p.back }

-- how much longer one message took than the other, in ticks of true time
abbrev pub asymmetry : Passage → ℕ
asymmetry p = abs_diff (p.came.time - p.sent.time) (p.back.time - p.turned.time)

-- its four moments are in order, and over by a true time
pub record IsInOrder (p : Passage) (now : ℕ) : Type 0 where
  pub there : p.sent.time ≤ p.came.time
  pub held : p.came.time ≤ p.turned.time
  pub home : p.turned.time ≤ p.back.time
  pub over : p.back.time ≤ now

-- both clocks, which are read again at one time, kept within their drift until then
pub record IsPassage (drift : ℕ) (p : Passage) (own peer : Reading) : Type 0 where
  pub order : IsInOrder p own.time
  pub now : own.time ≡ peer.time
  pub own_since_sent : WithinDrift drift p.sent own
  pub own_since_back : WithinDrift drift p.back own
  pub peer_since_came : WithinDrift drift p.came peer
  pub peer_since_turned : WithinDrift drift p.turned peer

-- in half millionths of a tick: the estimate is off by half the asymmetry, the drift since the exchange began, and a tick
abbrev pub Bounded : ℕ → Passage → Reading → Reading → Type 0
Bounded drift p own peer =
    unsigned_abs ((pos 1000000 *ℤ estimate2 (stamps p)) -ℤ (pos 2 *ℤ offset own peer))
    ≤ 1000000 * asymmetry p + 4 * drift * (own.time - p.sent.time) + 2 * 1000000
