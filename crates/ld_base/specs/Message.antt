-- What a relay message says.
use Rattle.std.specs.Prelude.{◌≢◌, ℕ, ◌^◌, ◌<◌, ◌≤◌, Option}
use Rattle.std.specs.Option.{ForSome}
use Rattle.ld_base.specs.declared.message.Echo.{Echo}
use Rattle.ld_base.specs.declared.phases.Phases.{Phases}

-- sender and receiver, the number of the sample, the send stamp, the echo of the last message accepted, and the sample
pub record Contents : Type 0 where
  pub from : ℕ
  pub to : ℕ
  pub number : ℕ
  pub sent : ℕ
  pub echo : Option Echo
  pub phases : Phases

-- both stamps of an echo are below 2^48
pub record IsEcho (echo : Echo) : Type 0 where
  pub sent : echo.sent < 2 ^ 48
  pub came : echo.came < 2 ^ 48

-- a message goes from one station to another, and its stamps are below 2^48
pub record IsMessage (m : Contents) : Type 0 where
  pub from : (1 ≤ m.from) × (m.from ≤ 3)
  pub to : (1 ≤ m.to) × (m.to ≤ 3)
  pub differ : m.from ≢ m.to
  pub number : m.number < 2 ^ 32
  pub sent : m.sent < 2 ^ 48
  pub echo : ForSome m.echo IsEcho
