use Rattle.std.proofs.Common.{◌≡◌, take}
use Rattle.ld_base.specs.Script.{next_failing}
use Rattle.script_wire.proofs.timetable.rules_fail_from.Given as goal

-- the least failing tick of the rules so far
abbrev pub invariant-loop-rule : goal.invariant-loop-rule
invariant-loop-rule l = l.least ≡ next_failing (take l.rule-index l.rules) l.at
