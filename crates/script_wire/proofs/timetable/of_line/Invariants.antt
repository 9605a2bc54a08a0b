use Rattle.std.proofs.Common.{◌≡◌, take}
use Rattle.script_wire.specs.Wires.{rules_of}
use Rattle.script_wire.proofs.timetable.of_line.Given as goal

-- the rules of the line so far
abbrev pub invariant-loop-rule : goal.invariant-loop-rule
invariant-loop-rule l = l.kept.items ≡ rules_of l.from l.to (take l.rule-index l.rules)
