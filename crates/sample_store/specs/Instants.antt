-- How far apart in true time the samples are that are aligned by one exchange.
use Rattle.std.specs.Prelude.{ℕ, ◌+◌, ◌-◌, ◌*◌, ◌≤◌, min, pos}
use Rattle.std.specs.Int.{abs_diff}
use Rattle.pingpong.specs.Bounded.{Passage, IsInOrder, asymmetry, stamps}
use Rattle.pingpong.specs.Exchange.{estimate2}
use Rattle.pingpong.specs.Reading.{Reading, SameClock}
use Rattle.sample_store.specs.Aligned.{IsAligned, IsSample}

-- an exchange that is over by now, and two samples taken by now: n of the own clock and m of the peer's, which the exchange aligns
pub record AreAligned (spacing drift : ℕ) (p : Passage) (own peer : Reading) (n m now : ℕ) : Type 0 where
  pub order : IsInOrder p now
  pub own_by_now : own.time ≤ now
  pub peer_by_now : peer.time ≤ now
  pub own_sent : SameClock drift p.sent own
  pub own_back : SameClock drift p.back own
  pub peer_came : SameClock drift p.came peer
  pub peer_turned : SameClock drift p.turned peer
  pub own_sample : IsSample spacing n own
  pub peer_sample : IsSample spacing m peer
  pub aligned : IsAligned spacing m (estimate2 (stamps p)) (pos n)

-- the age of the oldest of the exchange and both samples
abbrev pub age_of_all : Passage → Reading → Reading → ℕ → ℕ
age_of_all p own peer now = now - min p.sent.time (min own.time peer.time)

-- in half millionths of a tick: the instants are apart by half a spacing, half the asymmetry, three ticks, and the drift
abbrev pub AreNear : ℕ → ℕ → Passage → Reading → Reading → ℕ → Type 0
AreNear spacing drift p own peer now =
    2 * 1000000 * abs_diff own.time peer.time
    ≤ 1000000 * (spacing + asymmetry p + 6) + 4 * drift * age_of_all p own peer now
