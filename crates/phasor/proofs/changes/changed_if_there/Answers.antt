use Rattle.std.proofs.Common.{rules}
use Rattle.phasor.proofs.Unchanged.{unchanged}
use Rattle.phasor.proofs.changes.changed_if_there.Goals as goal

pub returns-then-is_same-clause-sums : goal.returns-then-is_same-clause-sums
returns-then-is_same-clause-sums g c =
    unchanged c.args.sums.now c.args.newest.now c.args.oldest.now c.args.factor (search rules) (c.is_same.ensures.same c.if-is_same.true)
