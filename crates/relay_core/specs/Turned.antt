-- What is known of a peer's channel by what is kept of it, and how its alarms turn by that.
use Rattle.std.specs.Prelude.{ℕ, List, map}
use Rattle.channel_alarm.specs.Alarms.{is_on, standing, stands, turns}
use Rattle.channel_alarm.specs.declared.alarm.Facts.{Facts}
use Rattle.relay_core.specs.Calm.{IsCalm, Known, calm_at, facts_by}
use Rattle.relay_core.specs.declared.answers.Change.{Change}
use Rattle.relay_core.specs.declared.peer.Peer.{Peer}

abbrev pub known_of : Peer → Known
known_of p = record { locked = p.listener.locked; yellow = p.listener.yellow; faulty = p.faulty; last = p.last; track = p.track }

abbrev pub facts_kept : ℕ → ℕ → Peer → Facts
facts_kept since now p = facts_by (known_of p) since now

-- what a peer keeps of its calm is true
abbrev pub IsCalmTrue : Peer → Type 0
IsCalmTrue p = IsCalm (known_of p) p.alarms p.calm

-- the peer with its alarms turned
abbrev pub turned : ℕ → ℕ → Peer → Peer
turned since now p = record p { alarms = standing p.alarms.silent (is_on p.alarms.silent (facts_kept since now p)); calm = calm_at p.calm now }

-- and the changes
abbrev pub told : ℕ → ℕ → Peer → List Change
told since now p = map (λ turn. record { peer = p.station; turn = turn }) (turns (stands p.alarms) (is_on p.alarms.silent (facts_kept since now p)))
