-- Run: the journal of a scenario over its script. (This project's own.)
use Rattle.std.specs.Prelude.{ℕ, Bool, ◌&&◌, ◌==◌, if◌then◌else◌, List, [], ◌++◌, map, fold, find, reverse, option_map, slice_get, unwrap_or}
use Rattle.ld_base.specs.Script.{Script, after_send, after_take, first_due, send_fails, take_fails}
use Rattle.ld_base.specs.declared.fields.Fields.{Fields}
use Rattle.ld_base.specs.declared.rule.Rule.{Rule}
use Rattle.pingpong.specs.declared.journal.Entry.{Entry}
use Rattle.relay_core.specs.Sent.{Sent}
use Rattle.waveform_reader.specs.Scenario.{Setup}
use Rattle.line_world.specs.Occasions.{Moment, Occasion, moments}
use Rattle.line_journal.specs.Stations.{ways}
use Rattle.line_world.specs.Occasions.Occasion.{arrival, departure, sampling, slot}
use Rattle.relay_core.specs.StationLog.{StationLog}
use Rattle.script_wire.specs.Wires.{rules_of}
use Rattle.line_world.specs.World.{Outcome, entries_of}
use Rattle.line_world.specs.World.Outcome.{nothing, gives, fails}

-- a directed line with its script
pub record Directed : Type 0 where
  pub from : ℕ
  pub to : ℕ
  pub script : Script

-- what a run has come to: the journal, and what is left of the script of each line
pub record State : Type 0 where
  pub journal : List Entry
  pub lines : List Directed

-- whether a line goes from one station to another
abbrev pub goes : ℕ → ℕ → Directed → Bool
goes from to line = (line.from == from) && (line.to == to)

-- the script of a line
abbrev pub script_on : ℕ → ℕ → List Directed → Script
script_on from to lines = unwrap_or (option_map (λ line. line.script) (find (goes from to) lines)) (record { rules = []; queue = [] })

-- the lines with the script of one of them changed
abbrev pub with_script : ℕ → ℕ → (Script → Script) → List Directed → List Directed
with_script from to change lines = map (λ line. if goes from to line then record line { script = change line.script } else line) lines

-- the frame that a station sent last on its line to a peer
abbrev pub newest_frame : Fields → ℕ → ℕ → List Entry → List ℕ
newest_frame f sender receiver journal = unwrap_or (slice_get (reverse (Sent f sender receiver (StationLog sender journal))) 0) []

-- what a script gives where it is asked at a tick
abbrev pub given : ℕ → Script → Outcome
given tick script =
    if take_fails script.rules tick then fails else unwrap_or (option_map (λ bits. gives bits) (first_due script.queue tick)) nothing

-- and the script after that
abbrev pub asked : ℕ → Script → Script
asked tick script = if take_fails script.rules tick then script else after_take script tick

-- what becomes of a frame that is sent on a script at a tick
abbrev pub accepted : ℕ → Script → Outcome
accepted tick script = if send_fails script.rules tick then fails else nothing

-- and the script after that
abbrev pub loaded : ℕ → List ℕ → Script → Script
loaded tick frame script = if send_fails script.rules tick then script else after_send script tick frame

-- what the script of a moment's line says of it
abbrev pub outcome_by : List Directed → ℕ → Occasion → Outcome
outcome_by lines tick (arrival receiver sender) = given tick (script_on sender receiver lines)
outcome_by lines tick (sampling station) = nothing
outcome_by lines tick (slot station) = nothing
outcome_by lines tick (departure sender receiver) = accepted tick (script_on sender receiver lines)

-- the scripts after a moment
abbrev pub lines_after : Fields → State → ℕ → Occasion → List Directed
lines_after f state tick (arrival receiver sender) = with_script sender receiver (asked tick) state.lines
lines_after f state tick (sampling station) = state.lines
lines_after f state tick (slot station) = state.lines
lines_after f state tick (departure sender receiver) =
    with_script sender receiver (loaded tick (newest_frame f sender receiver state.journal)) state.lines

-- a run after one moment more
abbrev pub after : Setup → State → Moment → State
after s state moment = record {
  journal = state.journal ++ entries_of s state.journal (record { moment = moment; outcome = outcome_by state.lines moment.time moment.occasion });
  lines = lines_after s.settings state moment.time moment.occasion;
}

-- the directed lines of a scenario, each with its rules and nothing on its way
abbrev pub lines_of : Fields → List Rule → List Directed
lines_of f rules = map (λ way. record { from = way.from; to = way.to; script = record { rules = rules_of way.from way.to rules; queue = [] } }) (ways f)

-- a run before its first moment
abbrev pub start : Setup → State
start s = record { journal = []; lines = lines_of s.settings s.rules }

-- a run after some moments
abbrev pub run_through : Setup → List Moment → State
run_through s these = fold (after s) (start s) these

-- Run: the journal of all ticks below the scenario's end
abbrev pub Run : Setup → List Entry
Run s = (run_through s (moments s.settings s.end)).journal
