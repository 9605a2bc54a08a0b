-- How long a peer's alarms stay as they are while nothing comes of the peer. (This project's own.)
use Rattle.std.specs.Prelude.{◌≡◌, ℕ, ◌≤◌, ◌-◌, Bool, nat_le, ◌&&◌, if◌then◌else◌, Option, is_some}
use Rattle.offset_track.specs.InForce.{chosen}
use Rattle.offset_track.specs.Track.{Held}
use Rattle.channel_alarm.specs.Alarms.{Standing, is_on, standing}
use Rattle.channel_alarm.specs.declared.alarm.Facts.{Facts}
use Rattle.relay_core.specs.AlarmState.{heard_at}
use Rattle.relay_core.specs.declared.calm.Calm.{Calm}
use Rattle.relay_core.specs.declared.receipt.Receipt.{Receipt}

-- what is kept of a peer's channel
pub record Known : Type 0 where
  pub locked : Bool
  pub yellow : Bool
  pub faulty : Bool
  pub last : Option Receipt
  pub track : Held

-- and what that tells at a time, for a terminal whose first call was then
abbrev pub facts_by : Known → ℕ → ℕ → Facts
facts_by known since now = record {
  locked = known.locked;
  yellow = known.yellow;
  quiet = now - heard_at since known.last;
  aligned = is_some (chosen (λ e. e) known.track.age now known.track.newest_first);
  faulty = known.faulty;
}

-- no stamp is in it
abbrev pub never : Calm
never = record { since = 1; until = 0 }

-- whether a stamp is in it
abbrev pub holds : Calm → ℕ → Bool
holds calm stamp = nat_le calm.since stamp && nat_le stamp calm.until

-- what is left of it where the alarms are looked at outside it
abbrev pub calm_at : Calm → ℕ → Calm
calm_at calm stamp = if holds calm stamp then calm else never

-- at each stamp in it the alarms are as what is known has them
abbrev pub IsCalm : Known → Standing → Calm → Type 0
IsCalm known alarms calm =
    (since stamp : ℕ) → calm.since ≤ stamp → stamp ≤ calm.until → standing alarms.silent (is_on alarms.silent (facts_by known since stamp)) ≡ alarms
