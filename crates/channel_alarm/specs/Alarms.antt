-- Which alarms are on by what is known of a peer's channel, and which of them turn. (This project's own.)
use Rattle.std.specs.Prelude.{ℕ, Bool, true, false, not, nat_lt, List, [], ◌∷◌, map, slice_index_or}
use Rattle.std.specs.List.{filter}
use Rattle.channel_alarm.specs.declared.alarm.Alarm.{Alarm}
use Rattle.channel_alarm.specs.declared.alarm.Alarm.TheVariants.{Unlocked, Yellow, Silent, Unaligned, Fault}
use Rattle.channel_alarm.specs.declared.alarm.Facts.{Facts}
use Rattle.channel_alarm.specs.declared.alarm.Turn.{Turn}

-- all alarms, in their order
abbrev pub all : List Alarm
all = Unlocked ∷ Yellow ∷ Silent ∷ Unaligned ∷ Fault ∷ []

-- whether an alarm is on, where a peer is silent after more than so many quiet ticks
abbrev pub is_on : ℕ → Facts → Alarm → Bool
is_on silent f Unlocked = not f.locked
is_on silent f Yellow = f.yellow
is_on silent f Silent = nat_lt silent f.quiet
is_on silent f Unaligned = not f.aligned
is_on silent f Fault = f.faulty

-- whether one state differs from another
abbrev pub differs : Bool → Bool → Bool
differs true on = not on
differs false on = on

-- what turns from one state of the alarms to another: exactly those that differ, in their order
abbrev pub turns : (Alarm → Bool) → (Alarm → Bool) → List Turn
turns old new = map (λ alarm. record { alarm = alarm; on = new alarm }) (filter (λ alarm. differs (old alarm) (new alarm)) all)

-- what the alarms of a peer keep: the setting `silent`, and whether each of them is on, in their order
pub record Standing : Type 0 where
  pub silent : ℕ
  pub on : List Bool

-- the place of an alarm in the order
abbrev pub place : Alarm → ℕ
place Unlocked = 0
place Yellow = 1
place Silent = 2
place Unaligned = 3
place Fault = 4

-- whether an alarm is on
abbrev pub stands : Standing → Alarm → Bool
stands s alarm = slice_index_or s.on (place alarm) false

-- the alarms in a state
abbrev pub standing : ℕ → (Alarm → Bool) → Standing
standing silent on = record { silent = silent; on = map on all }

-- no alarm is on
abbrev pub all_off : List Bool
all_off = map (λ _. false) all
