-- Two terminals that were handed the same.
use Rattle.std.specs.Prelude.{◌≡◌, List}
use Rattle.relay_core.specs.declared.call.Call.{Call}
use Rattle.relay_core.specs.StandsFor.{Kept, StandsFor}

-- two terminals of one station, with the same settings, that stand for one log
pub record AreAlike (one other : Kept) : Type 0 where
  pub settings : one.settings ≡ other.settings
  pub station : one.me ≡ other.me
  pub log : List Call
  pub one_stands : StandsFor one log
  pub other_stands : StandsFor other log
