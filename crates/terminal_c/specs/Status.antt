-- How a call ends, by the first reason that holds.
use Rattle.std.specs.Prelude.{ℕ, Bool, nat_le, not, ◌&&◌, ◌==◌, if◌then◌else◌, Option, Some, None}
use Rattle.ld_base.specs.Settings.{setting_fault}
use Rattle.ld_base.specs.Ticks.{last_stamp}
use Rattle.ld_base.specs.declared.fields.Fields.{Fields}
use Rattle.ld_base.specs.declared.settings.BadSetting.{BadSetting}
use Rattle.terminal_c.specs.declared.handle.Handle.{Handle}
use Rattle.terminal_c.specs.declared.status.Status.{Status}
use Rattle.terminal_c.specs.declared.status.Status.TheVariants.{Done, Empty, Full, Settings, Station, Stamp, Peer, Bits, Memory}

abbrev pub status_number : Status → ℕ
status_number Done = 0
status_number Empty = 1
status_number Full = 2
status_number Settings = 3
status_number Station = 4
status_number Stamp = 5
status_number Peer = 6
status_number Bits = 7
status_number Memory = 8

-- a call at a stamp: there is a terminal, and a clock can show the stamp
abbrev pub stamp_status : Handle → ℕ → Status
stamp_status h stamp = if not h.full then Empty else if nat_le stamp last_stamp then Done else Stamp

-- whether a station is a peer of the terminal that is held
abbrev pub is_peer : Handle → ℕ → Bool
is_peer h station = nat_le 1 station && nat_le station 3 && nat_le station h.stations && not (station == h.me)

-- a call at a stamp about a peer
abbrev pub peer_status : Handle → ℕ → ℕ → Status
peer_status h stamp peer = if not h.full then Empty else if not (nat_le stamp last_stamp) then Stamp else if is_peer h peer then Done else Peer

-- a call at a stamp with so many bits from a peer
abbrev pub bits_status : Handle → ℕ → ℕ → ℕ → Status
bits_status h stamp peer bits = elim (peer_status h stamp peer) [ Done ↦ (if nat_le bits 256 then Done else Bits) | other ↦ other ]

-- whether a line of these settings has such a station
abbrev pub is_station : Fields → ℕ → Bool
is_station f me = nat_le 1 me && nat_le me 3 && nat_le me f.stations

-- what stands against settings, and else this
abbrev pub by_fault : Option BadSetting → Status → Status
by_fault (Some bad) other = Settings
by_fault None other = other

-- a new terminal: the handle is free, the settings are accepted, and the station is one of the line
abbrev pub new_status : Handle → Fields → ℕ → Status
new_status h f me = if h.full then Full else by_fault (setting_fault f) (if is_station f me then Done else Station)
