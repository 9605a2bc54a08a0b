use Rattle.std.specs.Prelude.{◌≡◌, ◌+◌, ◌++◌, map, take}
use Rattle.std.specs.Vec.{vec_capacity, vec_len}
use Rattle.line_journal.specs.Report.{alarm_line}
use Rattle.line_journal.proofs.account.decide.Given as goal

abbrev pub invariant-loop-change : goal.invariant-loop-change
invariant-loop-change l = record {
  lines : l.lines.items ≡ l.initial.lines.items ++ map (alarm_line l.now.tick l.me) (take l.change-index l.changes);
  capacity : vec_capacity l.lines ≡ vec_capacity l.initial.lines;
  len : vec_len l.lines ≡ vec_len l.initial.lines + l.change-index;
}
