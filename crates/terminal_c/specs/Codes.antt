-- The numbers that C gets for what is named in the crates below.
use Rattle.std.specs.Prelude.{ℕ}
use Rattle.ld_base.specs.declared.fields.Key.{Key}
use Rattle.ld_base.specs.declared.fields.Key.TheVariants as key
use Rattle.ld_base.specs.declared.settings.BadSetting.{BadSetting}
use Rattle.ld_base.specs.declared.settings.BadSetting.TheVariants.{Range, ChannelTooSlow, LimitTooLong, SameWords}
use Rattle.trip_logic.specs.declared.verdict.Verdict.{Verdict}
use Rattle.trip_logic.specs.declared.verdict.Verdict.TheVariants.{Waiting, Restrain, Outside, Trip}
use Rattle.channel_alarm.specs.declared.alarm.Alarm.{Alarm}
use Rattle.channel_alarm.specs.declared.alarm.Alarm.TheVariants.{Unlocked, Yellow, Silent, Unaligned, Fault}
use Rattle.terminal_c.specs.declared.flat.Refusal.{Refusal}

abbrev pub key_number : Key → ℕ
key_number key.Stations = 1
key_number key.Channels = 2
key_number key.Spacing = 3
key_number key.Cycle = 4
key_number key.Drift = 5
key_number key.Slow = 6
key_number key.Age = 7
key_number key.Limit = 8
key_number key.Silent = 9
key_number key.Count = 10
key_number key.Pickup = 11
key_number key.Rn = 12
key_number key.Rd = 13
key_number key.P = 14
key_number key.Q = 15
key_number key.WordA = 16
key_number key.WordB = 17
key_number key.Misses = 18

-- a refusal of settings by its number, and the ticks that it names
abbrev pub refusal_of : BadSetting → Refusal
refusal_of (Range k) = record { reason = key_number k; ticks = 0 }
refusal_of (ChannelTooSlow needed) = record { reason = 19; ticks = needed }
refusal_of (LimitTooLong most) = record { reason = 20; ticks = most }
refusal_of SameWords = record { reason = 21; ticks = 0 }

abbrev pub verdict_number : Verdict → ℕ
verdict_number Waiting = 0
verdict_number Restrain = 1
verdict_number Outside = 2
verdict_number Trip = 3

abbrev pub alarm_number : Alarm → ℕ
alarm_number Unlocked = 0
alarm_number Yellow = 1
alarm_number Silent = 2
alarm_number Unaligned = 3
alarm_number Fault = 4
