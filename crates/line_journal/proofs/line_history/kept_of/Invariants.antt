use Rattle.std.proofs.Common.{◌≡◌, None, find, take}
use Rattle.line_journal.specs.LineHistory.{is_same_exchange}
use Rattle.line_journal.proofs.line_history.kept_of.Given as goal

abbrev pub invariant-loop-crossing : goal.invariant-loop-crossing
invariant-loop-crossing l = find (λ crossing. is_same_exchange crossing.exchange l.exchange) (take l.crossing-index l.newest_first) ≡ None
