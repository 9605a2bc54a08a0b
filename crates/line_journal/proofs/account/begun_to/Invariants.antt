use Rattle.std.specs.Prelude.{◌==◌, find}
use Rattle.std.proofs.Common.{◌≡◌, None, take}
use Rattle.line_journal.proofs.account.begun_to.Given as goal

abbrev pub invariant-loop-outgoing : goal.invariant-loop-outgoing
invariant-loop-outgoing l = find (λ o. o.to == l.to) (take l.outgoing-index l.frames) ≡ None
