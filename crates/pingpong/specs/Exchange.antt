-- Exchange: the four stamps of one message there and one back. (Channel-based alignment of IEEE C37.243.)
use Rattle.std.specs.Prelude.{ℕ, ◌<◌, ◌^◌, ℤ, pos, ◌+ℤ◌, ◌-ℤ◌, Option, option_map}
use Rattle.ld_base.specs.Message.{Contents}

-- the own stamps when the first message was sent and when the second came, and between them the peer's stamps when the first
-- came and when the second was sent
pub record Stamps : Type 0 where
  pub a1 : ℕ
  pub b2 : ℕ
  pub b3 : ℕ
  pub a4 : ℕ

-- each stamp fits the 48 bits that a message has for it
pub record AreStamps (e : Stamps) : Type 0 where
  pub a1 : e.a1 < 2 ^ 48
  pub b2 : e.b2 < 2 ^ 48
  pub b3 : e.b3 < 2 ^ 48
  pub a4 : e.a4 < 2 ^ 48

-- twice the peer's clock less the own one, in ticks, if both messages took equally long
abbrev pub estimate2 : Stamps → ℤ
estimate2 e = (pos e.b2 -ℤ pos e.a1) +ℤ (pos e.b3 -ℤ pos e.a4)

-- the time on the two lines together, in ticks: without the time for which the peer held the first message
abbrev pub round_trip : Stamps → ℤ
round_trip e = (pos e.a4 -ℤ pos e.a1) -ℤ (pos e.b3 -ℤ pos e.b2)

-- the exchange that a message completes when it is accepted at a stamp: its sender had accepted the first message, which it echoes
abbrev pub exchange_of : Contents → ℕ → Option Stamps
exchange_of m a4 = option_map (λ echo. record { a1 = echo.sent; b2 = echo.came; b3 = m.sent; a4 = a4 }) m.echo
