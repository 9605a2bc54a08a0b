use Rattle.std.proofs.Common.{◌≡◌, ◌≤◌, take, vec_len, vec_capacity}
use Rattle.script_wire.specs.Wires.{Stays}
use Rattle.script_wire.proofs.timetable.look.Given as goal

-- the stretch of the rules so far
abbrev pub invariant-loop-rule : goal.invariant-loop-rule
invariant-loop-rule l = record {
  here : (l.stretch.from ≤ l.at) × (l.at ≤ l.stretch.to);
  stays : Stays (take l.rule-index l.rules) l.acts.items l.stretch.from l.stretch.to l.stretch.delay l.stretch.failing;
  few : vec_len l.acts ≤ l.rule-index;
  room : vec_capacity l.acts ≡ vec_capacity l.initial.acts;
}
