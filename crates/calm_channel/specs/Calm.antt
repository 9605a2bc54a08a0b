-- A calm scenario: on each of its lines frames come as they were sent, after one delay. (This project's own.)
use Rattle.std.specs.Prelude.{◌≡◌, ℕ, ◌+◌, ◌-◌, ◌*◌, true, All}
use Rattle.std.specs.Int.{div_ceil}
use Rattle.ld_base.specs.Script.{delay_at}
use Rattle.ld_base.specs.declared.fields.Fields.{Fields}
use Rattle.ld_base.specs.declared.rule.Rule.{Rule}
use Rattle.waveform_reader.specs.Draft.{is_delay}
use Rattle.waveform_reader.specs.Scenario.{Setup}
use Rattle.line_world.specs.Occasions.{moments}
use Rattle.line_world.specs.Run.{State, run_through}
use Rattle.script_wire.specs.Wires.{rules_of}

-- a delay that counts from the first tick on
abbrev pub IsSteady : Rule → Type 0
IsSteady rule = (is_delay rule.act ≡ true) × (rule.first ≡ 0)

-- a scenario is calm where its script has such delays alone. Of several on one line the last counts
abbrev pub IsCalm : Setup → Type 0
IsCalm s = All IsSteady s.rules

-- the delay of the line from one station to another, in ticks: 1000 where the script tells none
abbrev pub delay_of_line : Setup → ℕ → ℕ → ℕ
delay_of_line s from to = delay_at (rules_of from to s.rules) 0

-- how many slots a message takes
abbrev pub message_slots : Fields → ℕ
message_slots f = div_ceil 36 f.channels

-- how many ticks after its own slot a message is there: its last frame goes out in the last of its slots
abbrev pub transit : Setup → ℕ → ℕ → ℕ
transit s from to = 125 * (message_slots s.settings - 1) + delay_of_line s from to

-- the run through all ticks below one
abbrev pub run_below : Setup → ℕ → State
run_below s n = run_through s (moments s.settings n)
