-- What is written of a terminal's answers: verdicts, alarms, bounds, and the phases of a sample. (This project's own; `FORMATS.md` has
-- the words.)
use Rattle.std.specs.Prelude.{ℕ, Bool, true, false, List, [], ◌∷◌, Option, Some, None, codes, decimal}
use Rattle.std.specs.Fmt.{signed_decimal}
use Rattle.channel_alarm.specs.declared.alarm.Alarm.{Alarm}
use Rattle.channel_alarm.specs.declared.alarm.Alarm.TheVariants.{Unlocked, Yellow, Silent, Unaligned, Fault}
use Rattle.ld_base.specs.declared.phases.Phases.{Phases}
use Rattle.trip_logic.specs.declared.verdict.Verdict.{Verdict}
use Rattle.trip_logic.specs.declared.verdict.Verdict.TheVariants.{Waiting, Restrain, Outside, Trip}

-- the letter of a verdict
abbrev pub letter : Verdict → List ℕ
letter Waiting = codes "W"
letter Restrain = codes "R"
letter Outside = codes "O"
letter Trip = codes "T"

-- the name of an alarm
abbrev pub alarm_name : Alarm → List ℕ
alarm_name Unlocked = codes "Unlocked"
alarm_name Yellow = codes "Yellow"
alarm_name Silent = codes "Silent"
alarm_name Unaligned = codes "Unaligned"
alarm_name Fault = codes "Fault"

-- whether an alarm turned on or off
abbrev pub turn_word : Bool → List ℕ
turn_word true = codes "on"
turn_word false = codes "off"

-- a bound, or the sign for none
abbrev pub bound_word : Option ℕ → List ℕ
bound_word None = codes "-"
bound_word (Some bound) = decimal bound

-- the three values of a sample, each a field
abbrev pub phases_fields : Phases → List (List ℕ)
phases_fields phases = signed_decimal phases.a ∷ signed_decimal phases.b ∷ signed_decimal phases.c ∷ []
