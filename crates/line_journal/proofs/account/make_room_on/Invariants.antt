use Rattle.std.specs.Prelude.{◌≡◌, ◌<◌, ◌≤◌, ℕ, map, slice_index_or}
use Rattle.line_journal.specs.Inside.{roomless}
use Rattle.line_journal.specs.LineHistory.{LineHistory}
use Rattle.line_journal.proofs.account.make_room_on.Given as goal

abbrev pub invariant-loop-history : goal.invariant-loop-history
invariant-loop-history l = record {
  same : map roomless l.histories ≡ map roomless l.initial.histories;
  room : (k : ℕ) (d : LineHistory) → k < l.history-index → l.messages ≤ (slice_index_or l.histories k d).room;
}
