-- From when on a station has an exchange with a peer in force, where nothing but a constant delay stands between them. (This project's
-- own.)
use Rattle.std.specs.Prelude.{◌≡◌, ℕ, ◌+◌, ◌*◌, ◌≤◌, true, List, [], ◌∷◌, ◌++◌, Contains, is_some}
use Rattle.ld_base.specs.declared.fields.Fields.{Fields}
use Rattle.channel_alarm.specs.declared.alarm.Alarm.TheVariants.{Unaligned}
use Rattle.pingpong.specs.declared.journal.Entry.{Entry}
use Rattle.relay_core.specs.Accepted.{InForceWith}
use Rattle.waveform_reader.specs.Scenario.{Setup}
use Rattle.line_journal.specs.Report.{Lines, station_of}
use Rattle.relay_core.specs.StationLog.{StationLog}
use Rattle.line_journal.specs.declared.line.Line.{Line}
use Rattle.line_journal.specs.declared.line.Line.TheVariants as line
use Rattle.calm_channel.specs.Calm.{delay_of_line, transit}

-- at each entry of a station from a tick on, an exchange with a peer is in force
abbrev pub InForceFrom : Fields → List Entry → ℕ → ℕ → ℕ → Type 0
InForceFrom f journal me peer tick =
    (before later : List Entry) (entry : Entry) → journal ≡ before ++ entry ∷ later → station_of entry.what ≡ me → tick ≤ entry.time
    → is_some (InForceWith f me peer (StationLog me (before ++ entry ∷ []))) ≡ true

-- the line of a report that tells that at a station the alarm Unaligned of a peer turned on
abbrev pub unaligned : ℕ → ℕ → ℕ → Line
unaligned time me peer = line.Alarm time me peer (record { alarm = Unaligned; on = true })

-- no line of the report on a journal tells so from a tick on
abbrev pub AlignedFrom : Fields → List Entry → ℕ → ℕ → ℕ → Type 0
AlignedFrom f journal me peer tick = (time : ℕ) → tick ≤ time → Contains (Lines f journal) (unaligned time me peer) → ⊥

-- the delays of the two lines between two stations
abbrev pub delays_between : Setup → ℕ → ℕ → ℕ
delays_between s me peer = delay_of_line s me peer + delay_of_line s peer me

-- the tick: four spacings, both delays, and 400 ticks
abbrev pub aligned_tick : Setup → ℕ → ℕ → ℕ
aligned_tick s me peer = 4 * s.settings.spacing + delays_between s me peer + 400

-- exchanges between the two may take as long as they do, and grow as old
pub record AllowsExchanges (s : Setup) (me peer : ℕ) : Type 0 where
  pub slow : 2 * s.settings.spacing + delays_between s me peer ≤ s.settings.slow
  pub age : aligned_tick s me peer ≤ s.settings.age

-- the same more closely, by the ticks that a message takes there and one back
abbrev pub transits_between : Setup → ℕ → ℕ → ℕ
transits_between s me peer = transit s me peer + transit s peer me

abbrev pub first_aligned_tick : Setup → ℕ → ℕ → ℕ
first_aligned_tick s me peer = transits_between s me peer + 2 * s.settings.spacing + 256

pub record AllowsClosely (s : Setup) (me peer : ℕ) : Type 0 where
  pub slow : transits_between s me peer + 55 ≤ s.settings.slow
  pub age : first_aligned_tick s me peer + 51 ≤ s.settings.age
