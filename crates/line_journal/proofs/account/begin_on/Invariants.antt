use Rattle.relay_core.proofs.InPlace.{IsWritten}
use Rattle.line_journal.specs.Told.{heard_from, with_slot}
use Rattle.line_journal.proofs.account.begin_on.Given as goal

abbrev pub invariant-loop-history : goal.invariant-loop-history
invariant-loop-history l = IsWritten (with_slot l.now.tick l.me (heard_from l.heard) l.frames) l.history-index l.initial.histories l.histories
