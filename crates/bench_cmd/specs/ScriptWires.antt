-- The wires of a scenario's directed lines.
use Rattle.std.specs.Prelude.{List, map}
use Rattle.waveform_reader.specs.Scenario.{Setup}
use Rattle.line_world.specs.Run.{Directed, lines_of}
use Rattle.script_wire.specs.Wires.{Scripted}

-- the wire of a line, none of whose calls has failed
abbrev pub wire_of : Directed → Scripted
wire_of line = record { script = line.script; faults = 0 }

-- the wires of the directed lines, each with its rules and nothing on its way
abbrev pub wires_of : Setup → List Scripted
wires_of s = map wire_of (lines_of s.settings s.rules)
