use Rattle.std.specs.Prelude.{◌==◌, ◌&&◌, find}
use Rattle.std.proofs.Common.{◌≡◌, None, take}
use Rattle.line_journal.proofs.account.last_on.Given as goal

abbrev pub invariant-loop-history : goal.invariant-loop-history
invariant-loop-history l = find (λ history. (history.from == l.from) && (history.to == l.to)) (take l.history-index l.histories) ≡ None
